-- What is known of pieces for which no refusal holds, and of their grants at the first scattered placement.
use Rattle.std.proofs.Common.{◌≡◌, ◌≢◌, ◌∙◌, sym, ap, refl, ℕ, suc, ◌+◌, ◌≤◌, Bool, true, false, if◌then◌else◌, ◌||◌, ◌==◌, nat_lt, List, [], ◌∷◌, ◌++◌, length, take, slice_get, Option, Some, None, IsTrue, append_assoc, ltb-false}
use Rattle.std.specs.List.{All, list_any}
use Rattle.std.specs.Option.{option_map}
use Rattle.std.proofs.Math.Seq.{take-append_seam}
use Rattle.std.proofs.lemmas.Bool.{eq-eqb}
use Rattle.std.proofs.lemmas.List.Elements.{All-cons, All-nil}
use Rattle.std.proofs.lemmas.List.Folds.{list_any-append}
use Rattle.dn_net.specs.declared.node.NodeDecl.{NodeDecl}
use Rattle.dn_net.specs.Decode.{is_agent_at}
use Rattle.dn_kind.specs.declared.rights.Rights.{Rights}
use Rattle.dn_kind.specs.Rights.{are_rights}
use Rattle.dn_book.specs.declared.grant.Grant.{Grant}
use Rattle.dn_book.specs.Book.{has_id}
use Rattle.dn_place.specs.Targets.{refused_address}
use Rattle.dn_place.proofs.Unaccepted.{accepted_within}
use Rattle.dn_gather.specs.declared.piece.Piece.{Piece}
use Rattle.dn_gather.specs.declared.scatter.Scatter.{Scatter}
use Rattle.dn_gather.specs.Gather.{IsScattered}
use Rattle.dn_gather.specs.Grants.{AreGrantsFor, AreNewIds, AreOtherIds}
use Rattle.dn_gather.specs.Grounds.{ArePieces, IsSized}
use Rattle.dn_gather.specs.declared.refusal.GatherRefusal.TheVariants.{IdUsed, NoAgent, NotAccepted, BookFull}
use Rattle.dn_gather.specs.Refusal.{address_refusal, first_refused, gather_refusal, is_used, target_refusal, used_refusal}
use Rattle.dn_gather.proofs.Refused.{first_none}

-- the ids

-- two numbers differ where a test says so
not_same : (a b : ℕ) → (a == b) ≡ false → a ≢ b
not_same a b e = λ same. let x : true ≡ false = sym (eq-eqb a b same) ∙ e in cc

or_none : (a b : Bool) → (a || b) ≡ false → (a ≡ false) × (b ≡ false)
or_none false b e = (refl, e)
or_none true b e = cc

-- no piece has the id of one of these
abbrev AreClear : List Piece → List Piece → Type 0
AreClear earlier [] = Unit {0}
AreClear earlier (p ∷ ps) = (list_any (λ (q : Piece). q.id == p.id) earlier ≡ false) × AreClear earlier ps

-- no piece has the id of one more
clear_less : (earlier : List Piece) (p : Piece) (ps : List Piece) → AreClear (earlier ++ p ∷ []) ps → AreClear earlier ps × AreOtherIds p.id ps
clear_less earlier p [] clear = (tt, tt)
clear_less earlier p (q ∷ ps) clear =
    let rest = clear_less earlier p ps clear.1 in
    let both = or_none (list_any (λ (k : Piece). k.id == q.id) earlier) (list_any (λ (k : Piece). k.id == q.id) (p ∷ [])) (sym (list_any-append (λ (k : Piece). k.id == q.id) earlier (p ∷ [])) ∙ clear.0) in
    let other = or_none (p.id == q.id) false both.1 in
    ((both.0, rest.0), (not_same p.id q.id other.0, rest.1))

new_from : (book : List Grant) (earlier ps : List Piece) → first_refused (used_refusal book (earlier ++ ps)) (length earlier) ps ≡ None → AreNewIds book ps × AreClear earlier ps
new_from book earlier [] none = (tt, tt)
new_from book earlier (p ∷ ps) none =
    let both = first_none (used_refusal book (earlier ++ p ∷ ps) (length earlier) p) (first_refused (used_refusal book (earlier ++ p ∷ ps)) (suc (length earlier)) ps) none in
    let unused : (has_id p.id book || list_any (λ (q : Piece). q.id == p.id) earlier) ≡ false = ap (λ (qs : List Piece). is_used book qs p.id) (sym (take-append_seam earlier (p ∷ ps))) ∙ not_used (length earlier) (is_used book (take (length earlier) (earlier ++ p ∷ ps)) p.id) both.0 in
    let here = or_none (has_id p.id book) (list_any (λ (q : Piece). q.id == p.id) earlier) unused in
    let moved : first_refused (used_refusal book ((earlier ++ p ∷ []) ++ ps)) (length (earlier ++ p ∷ [])) ps ≡ None =
    ap (λ (qs : List Piece). first_refused (used_refusal book qs) (length (earlier ++ p ∷ [])) ps) (append_assoc earlier (p ∷ []) ps) ∙ ap (λ (n : ℕ). first_refused (used_refusal book (earlier ++ p ∷ ps)) n ps) (one_more earlier p) ∙ both.1 in
    let rest = new_from book (earlier ++ p ∷ []) ps moved in
    let less = clear_less earlier p ps rest.1 in
    ((here.0, less.1, rest.0), (here.1, less.0))
  where
    not_used : (i : ℕ) (b : Bool) → (if b then Some (IdUsed i) else None) ≡ None → b ≡ false
    not_used i true e = cc
    not_used i false e = refl

    one_more : (qs : List Piece) (q : Piece) → length (qs ++ q ∷ []) ≡ suc (length qs)
    one_more [] q = refl
    one_more (k ∷ qs) q = ap suc (one_more qs q)

-- the sizes

sized : (net : List NodeDecl) (i : ℕ) (ps : List Piece) → first_refused (address_refusal net) i ps ≡ None → All IsSized ps
sized net i [] none = All-nil IsSized
sized net i (p ∷ ps) none =
    let both = first_none (address_refusal net i p) (first_refused (address_refusal net) (suc i) ps) none in
    let within = accepted_within (slice_get net p.node) p.base p.size (unmapped (refused_address (slice_get net p.node) p.base p.size) both.0) in
    All-cons IsSized p ps (record { some = within.0; buffer = within.1 }) (sized net (suc i) ps both.1)
  where
    unmapped : (o : Option ℕ) → option_map (NotAccepted i) o ≡ None → o ≡ None
    unmapped None e = refl
    unmapped (Some first) e = cc

-- the ids are new and differ, the agent is one, each piece has an address, and the book has room for all
pub record AreAllowed (net : List NodeDecl) (book : List Grant) (agent : ℕ) (ps : List Piece) : Type 0 where
  pub new : AreNewIds book ps
  pub by_agent : IsTrue (is_agent_at (slice_get net agent))
  pub each : All IsSized ps
  pub few : length book + length ps ≤ 4096

pub allowed_are : (net : List NodeDecl) (book : List Grant) (agent : ℕ) (ps : List Piece) → gather_refusal net book agent ps ≡ None → AreAllowed net book agent ps
allowed_are net book agent ps none =
    let used = first_none (first_refused (used_refusal book ps) 0 ps) _ none in
    let agents = first_none (if is_agent_at (slice_get net agent) then None else Some NoAgent) _ used.1 in
    let targets = first_none (first_refused (target_refusal net) 0 ps) _ agents.1 in
    let addresses = first_none (first_refused (address_refusal net) 0 ps) _ targets.1 in
    record {
      new = (new_from book [] ps used.0).0;
      by_agent = is_agent (is_agent_at (slice_get net agent)) agents.0;
      each = sized net 0 ps addresses.0;
      few = has_room (nat_lt 4096 (length book + length ps)) refl addresses.1;
    }
  where
    is_agent : (b : Bool) → (if b then None else Some NoAgent) ≡ None → IsTrue b
    is_agent true e = refl
    is_agent false e = cc

    has_room : (b : Bool) → nat_lt 4096 (length book + length ps) ≡ b → (if b then Some BookFull else None) ≡ None → length book + length ps ≤ 4096
    has_room true h e = cc
    has_room false h e = ltb-false 4096 (length book + length ps) h

-- placements can be looked for
pub allowed_pieces : (net : List NodeDecl) (book : List Grant) (agent : ℕ) (ps : List Piece) → AreAllowed net book agent ps → 1 ≤ length ps → length ps ≤ 8 → ArePieces ps
allowed_pieces net book agent ps a some few = record { some = some; few = few; each = a.each }

-- the grants at the first scattered placement may come into the book
pub scattered_grants : (net : List NodeDecl) (book : List Grant) (agent : ℕ) (rights : Rights) (ps : List Piece) (s : Scatter) → IsTrue (are_rights rights) → IsScattered net book agent rights ps s → AreGrantsFor net book agent rights s.unit s.v ps s.hops
scattered_grants net book agent rights ps s with_rights is =
    let a = allowed_are net book agent ps is.allowed in
    record { few = a.few; new = a.new; by_agent = a.by_agent; with_rights = with_rights; placed = is.first.suited.are_placed }
