-- The first refusal of pieces, as a loop over them finds it.
use Rattle.std.proofs.Common.{◌≡◌, ◌∙◌, sym, ap, refl, ℕ, suc, ◌+◌, ◌<◌, ◌≤◌, Bool, true, false, if◌then◌else◌, nat_lt, List, [], ◌∷◌, length, get_or, take, drop, slice_get, Option, Some, None, arith}
use Rattle.std.specs.Option.{option_map}
use Rattle.std.specs.List.{All}
use Rattle.std.proofs.lemmas.List.Elements.{All-cons, All-nil}
use Rattle.std.proofs.lemmas.Option.{slice_get_within}
use Rattle.std.proofs.Math.ListN.{drop_of_length-le}
use Rattle.std.proofs.Math.Seq.{drop-cons}
use Rattle.dn_net.specs.declared.node.NodeDecl.{NodeDecl}
use Rattle.dn_net.specs.Decode.{is_agent_at}
use Rattle.dn_kind.specs.declared.rights.Rights.{Rights}
use Rattle.dn_book.specs.declared.grant.Grant.{Grant}
use Rattle.dn_place.specs.Targets.{is_target_at, refused_address}
use Rattle.dn_gather.specs.declared.piece.Piece.{Piece}
use Rattle.dn_gather.specs.declared.refusal.GatherRefusal.{GatherRefusal}
use Rattle.dn_gather.specs.declared.refusal.GatherRefusal.TheVariants.{IdUsed, NoAgent, NoTarget, NotAccepted, BookFull, NoPlacement}
use Rattle.dn_gather.specs.Gather.{IsGatherRefused}
use Rattle.dn_gather.specs.Refusal.{address_refusal, first_refusal, first_refused, gather_refusal, is_used, target_refusal, used_refusal}

-- where there is none there is neither
pub first_none : (a b : Option GatherRefusal) → first_refusal a b ≡ None → (a ≡ None) × (b ≡ None)
first_none None b e = (refl, e)
first_none (Some why) b e = cc

-- a loop over pieces, up to one of them

-- what the pieces from one on have, all have: so far none was refused
abbrev pub NoneSoFar : (ℕ → Piece → Option GatherRefusal) → List Piece → ℕ → Type 0
NoneSoFar test ps i = first_refused test 0 ps ≡ first_refused test i (drop i ps)

-- this one is refused
pub refused_here : (test : ℕ → Piece → Option GatherRefusal) (ps : List Piece) (i : ℕ) (d : Piece) (why : GatherRefusal) → i < length ps → test i (get_or ps i d) ≡ Some why → NoneSoFar test ps i → first_refused test 0 ps ≡ Some why
refused_here test ps i d why l e so = so ∙ ap (first_refused test i) (drop-cons ps i d l) ∙ ap (λ o. first_refusal o (first_refused test (suc i) (drop (suc i) ps))) e

-- it is not
pub refused_on : (test : ℕ → Piece → Option GatherRefusal) (ps : List Piece) (i : ℕ) (d : Piece) → i < length ps → test i (get_or ps i d) ≡ None → NoneSoFar test ps i → NoneSoFar test ps (i + 1)
refused_on test ps i d l e so = so ∙ ap (first_refused test i) (drop-cons ps i d l) ∙ ap (λ o. first_refusal o (first_refused test (suc i) (drop (suc i) ps))) e ∙ ap (λ n. first_refused test n (drop n ps)) (more i)
  where
    more : (n : ℕ) → suc n ≡ n + 1
    more n = omega arith

-- none is left
pub refused_none : (test : ℕ → Piece → Option GatherRefusal) (ps : List Piece) (i : ℕ) → length ps ≤ i → NoneSoFar test ps i → first_refused test 0 ps ≡ None
refused_none test ps i l so = so ∙ ap (first_refused test i) (drop_of_length-le ps l)

-- where no node is refused, each is there
pub targets_there : (net : List NodeDecl) (i : ℕ) (ps : List Piece) → first_refused (target_refusal net) i ps ≡ None → All (λ (p : Piece). p.node < length net) ps
targets_there net i [] e = All-nil (λ (p : Piece). p.node < length net)
targets_there net i (p ∷ ps) e =
    let both = first_none (target_refusal net i p) (first_refused (target_refusal net) (suc i) ps) e in
    All-cons (λ (q : Piece). q.node < length net) p ps (there (slice_get net p.node) refl both.0) (targets_there net (suc i) ps both.1)
  where
    there : (o : Option NodeDecl) → slice_get net p.node ≡ o → (if is_target_at o then None else Some (NoTarget i)) ≡ None → p.node < length net
    there None h e = cc
    there (Some n) h e = slice_get_within net p.node n h

-- one refusal after another

-- where none is told there is none
pub none_told : (r a : Option GatherRefusal) → r ≡ a → r ≡ None → a ≡ None
none_told r a h e = sym h ∙ e

-- the first of two refusals is told
pub first_told : (r : Option GatherRefusal) (why : GatherRefusal) (a b : Option GatherRefusal) → r ≡ a → r ≡ Some why → Some why ≡ first_refusal a b
first_told r why a b h e = sym (ap (λ (o : Option GatherRefusal). first_refusal o b) (sym h ∙ e))

-- the second of two, where there is no first
pub second_is : (a b : Option GatherRefusal) → a ≡ None → first_refusal a b ≡ b
second_is None b e = refl
second_is (Some why) b e = cc

-- that no placement is admissible is none of these refusals

never_first : (a b : Option GatherRefusal) → (a ≡ Some NoPlacement → ⊥) → (b ≡ Some NoPlacement → ⊥) → first_refusal a b ≡ Some NoPlacement → ⊥
never_first None b f g e = g e
never_first (Some why) b f g e = f e

never_refused : (test : ℕ → Piece → Option GatherRefusal) → ((i : ℕ) (p : Piece) → test i p ≡ Some NoPlacement → ⊥) → (i : ℕ) (ps : List Piece) → first_refused test i ps ≡ Some NoPlacement → ⊥
never_refused test other i [] e = cc
never_refused test other i (p ∷ ps) e = never_first (test i p) (first_refused test (suc i) ps) (other i p) (never_refused test other (suc i) ps) e

never : (net : List NodeDecl) (book : List Grant) (agent : ℕ) (ps : List Piece) → gather_refusal net book agent ps ≡ Some NoPlacement → ⊥
never net book agent ps =
    never_first _ _ (never_refused (used_refusal book ps) (λ i p. used i (is_used book (take i ps) p.id)) 0 ps)
    (never_first _ _ (agents (is_agent_at (slice_get net agent)))
    (never_first _ _ (never_refused (target_refusal net) (λ i p. targets i (is_target_at (slice_get net p.node))) 0 ps)
    (never_first _ _ (never_refused (address_refusal net) (λ i p. addresses i (refused_address (slice_get net p.node) p.base p.size)) 0 ps)
    (full (nat_lt 4096 (length book + length ps))))))
  where
    used : (i : ℕ) (b : Bool) → (if b then Some (IdUsed i) else None) ≡ Some NoPlacement → ⊥
    used i true e = cc
    used i false e = cc

    agents : (b : Bool) → (if b then None else Some NoAgent) ≡ Some NoPlacement → ⊥
    agents true e = cc
    agents false e = cc

    targets : (i : ℕ) (b : Bool) → (if b then None else Some (NoTarget i)) ≡ Some NoPlacement → ⊥
    targets i true e = cc
    targets i false e = cc

    addresses : (i : ℕ) (o : Option ℕ) → option_map (NotAccepted i) o ≡ Some NoPlacement → ⊥
    addresses i None e = cc
    addresses i (Some first) e = cc

    full : (b : Bool) → (if b then Some BookFull else None) ≡ Some NoPlacement → ⊥
    full true e = cc
    full false e = cc

-- what is found before a placement is sought is the first refusal that holds
pub refused : (net : List NodeDecl) (book : List Grant) (agent : ℕ) (rights : Rights) (ps : List Piece) (why : GatherRefusal) → gather_refusal net book agent ps ≡ Some why → IsGatherRefused net book agent rights ps why
refused net book agent rights ps (IdUsed piece) e = e
refused net book agent rights ps NoAgent e = e
refused net book agent rights ps (NoTarget piece) e = e
refused net book agent rights ps (NotAccepted piece first) e = e
refused net book agent rights ps BookFull e = e
refused net book agent rights ps NoPlacement e = absurd (never net book agent ps e)
