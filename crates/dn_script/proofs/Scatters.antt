-- The first scattered placement that is looked for is there, or none is.
use Rattle.std.proofs.Common.{◌≡◌, ◌∙◌, sym, ap, subst, refl, arith, ℕ, suc, ◌+◌, ◌/◌, ◌^◌, ◌<◌, ◌≤◌, ◌⊎◌, inl, inr, Bool, true, false, ◌&&◌, ◌||◌, not, if◌then◌else◌, nat_eq, nat_le, nat_lt, List, [], ◌∷◌, length, Option, Some, None, is_some, leb-true, eqb-true}
use Rattle.std.specs.List.{flat_map}
use Rattle.std.proofs.lemmas.Bool.{and_parts, le-ltb}
use Rattle.std.proofs.lemmas.Option.{same_Some}
use Rattle.dn_base.specs.Members.{Member}
use Rattle.dn_base.proofs.Booleans.{false≢true, true≢false, not_from_false}
use Rattle.dn_net.specs.declared.node.Name.{Name}
use Rattle.dn_net.specs.declared.node.NodeDecl.{NodeDecl}
use Rattle.dn_net.specs.declared.node.Unit.{Unit as UnitPart}
use Rattle.dn_net.specs.Decode.{top, unit_at}
use Rattle.dn_kind.specs.declared.rights.Rights.{Rights}
use Rattle.dn_kind.specs.declared.unit_kind.Record.{Record}
use Rattle.dn_kind.specs.Rights.{allows, both_rights}
use Rattle.dn_tables.specs.declared.placement.Hop.{Hop}
use Rattle.dn_placement.specs.Keys.{comes_before}
use Rattle.dn_placement.specs.Records.{first_slot, hop_record_by, is_taken_by, joined_records, last_slot, slot_record}
use Rattle.dn_placement.specs.Slots.{Slots}
use Rattle.dn_placement.proofs.Keys.{before_both, not_itself}
use Rattle.dn_book.specs.Book.{is_taken}
use Rattle.dn_gather.specs.declared.piece.Piece.{Piece}
use Rattle.dn_gather.specs.declared.scatter.Scatter.{Scatter}
use Rattle.dn_gather.specs.Scattered.{AddsPieces, AreAdmissible, ArePlaced, IsApart, IsFirstScatter, IsSuitedScatter, NoneScattered, at_hop, piece_request, scatter_key, scattered_records}
use Rattle.dn_script.proofs.Decided.{IsDecided, IsFirstOf, all_below, both, first_of, implied, number_is, same, test_is}
use Rattle.dn_script.proofs.Listed.{all_hops, crossed, in_crossed, in_numbers, in_rows, led_hops, numbers, rows, unit_within}
use Rattle.dn_script.proofs.Suitable.{IsListed, adds_listed, adds_within, either_listed, gives_more, is_placement, none_listed}

test_is_not : (b : Bool) → IsDecided (b ≡ false)
test_is_not true = inr (λ e. true≢false e)
test_is_not false = inl refl

-- a hop takes slots of its own unit alone, up to its last one
taken_within : (net : List NodeDecl) (u : UnitPart) (size node slot : ℕ) (hop : Hop) → unit_at net hop.unit ≡ Some u → is_taken net size node slot hop ≡ true → (node ≡ hop.unit) × (slot ≤ last_slot u size hop)
taken_within net u size node slot hop e t = by (nat_eq node hop.unit && is_taken_by u size hop slot) refl (subst (λ (o : Option UnitPart). is_some (hop_record_by o size both_rights hop node slot) ≡ true) e t)
  where
    by : (b : Bool) → (nat_eq node hop.unit && is_taken_by u size hop slot) ≡ b → is_some (if b then Some (slot_record u both_rights hop slot) else None) ≡ true → (node ≡ hop.unit) × (slot ≤ last_slot u size hop)
    by true f s = let p = and_parts (nat_eq node hop.unit) (is_taken_by u size hop slot) f in (eqb-true node hop.unit p.0, leb-true slot (last_slot u size hop) (and_parts (nat_le (first_slot u hop) slot) (nat_le slot (last_slot u size hop)) p.1).1)
    by false f s = absurd (false≢true s)

none_taken : (net : List NodeDecl) (size node slot : ℕ) (hop : Hop) → unit_at net hop.unit ≡ None → is_taken net size node slot hop ≡ true → ⊥
none_taken net size node slot hop e t = false≢true (subst (λ (o : Option UnitPart). is_some (hop_record_by o size both_rights hop node slot) ≡ true) e t)

-- whether two hops take no slot together
abbrev AreApart : List NodeDecl → ℕ → Hop → ℕ → Hop → Type 0
AreApart net size hop other k = (node slot : ℕ) → is_taken net size node slot hop ≡ true → is_taken net other node slot k ≡ false

two_apart : (net : List NodeDecl) (size : ℕ) (hop : Hop) (other : ℕ) (k : Hop) → IsDecided (AreApart net size hop other k)
two_apart net size hop other k = by (unit_at net hop.unit) refl
  where
    At : ℕ → Type 0
    At slot = is_taken net size hop.unit slot hop ≡ true → is_taken net other hop.unit slot k ≡ false

    whole : (u : UnitPart) → unit_at net hop.unit ≡ Some u → ((slot : ℕ) → slot < suc (last_slot u size hop) → At slot) → AreApart net size hop other k
    whole u e all node slot t =
        let w = taken_within net u size node slot hop e t in
        let here : is_taken net size hop.unit slot hop ≡ true = subst (λ (n : ℕ). is_taken net size n slot hop ≡ true) w.0 t in
        subst (λ (n : ℕ). is_taken net other n slot k ≡ false) (sym w.0) (all slot (let l = w.1 in omega arith) here)

    by : (o : Option UnitPart) → unit_at net hop.unit ≡ o → IsDecided (AreApart net size hop other k)
    by None e = inl (λ node slot t. absurd (none_taken net size node slot hop e t))
    by (Some u) e = same (whole u e) (λ f slot l. f hop.unit slot) (all_below At (suc (last_slot u size hop)) (λ slot. implied (test_is (is_taken net size hop.unit slot hop)) (test_is_not (is_taken net other hop.unit slot k))))

apart : (net : List NodeDecl) (size : ℕ) (hop : Hop) (qs : List Piece) (ks : List Hop) → IsDecided (IsApart net size hop qs ks)
apart net size hop [] [] = inl tt
apart net size hop [] (k ∷ ks) = inr (λ a. a)
apart net size hop (q ∷ qs) [] = inr (λ a. a)
apart net size hop (q ∷ qs) (k ∷ ks) = both (two_apart net size hop q.size k) (apart net size hop qs ks)

-- whether hops place pieces
placed : (net : List NodeDecl) (slots : Slots) (agent : ℕ) (rights : Rights) (unit v : ℕ) (ps : List Piece) (hops : List Hop) → IsDecided (ArePlaced net slots agent rights unit v ps hops)
placed net slots agent rights unit v [] [] = inl tt
placed net slots agent rights unit v [] (hop ∷ hops) = inr (λ a. a)
placed net slots agent rights unit v (p ∷ ps) [] = inr (λ a. a)
placed net slots agent rights unit v (p ∷ ps) (hop ∷ hops) = same (λ z. (z.0, z.1.0, z.1.1.0, z.1.1.1)) (λ a. (a.0, (a.1, (a.2, a.3))))
    (both (is_placement net slots (piece_request agent rights p) (at_hop v hop)) (both (number_is hop.unit unit) (both (apart net p.size hop ps hops) (placed net slots agent rights unit (v + p.size) ps hops))))

-- what pieces add at a name, and that it is within the addresses
pieces_listed : (agent : ℕ) (rights : Rights) (v : ℕ) (ps : List Piece) (x : Name) → IsListed (AddsPieces agent rights v ps x)
pieces_listed agent rights v [] x = none_listed
pieces_listed agent rights v (p ∷ ps) x = either_listed _ _ (adds_listed (piece_request agent rights p) v x) (pieces_listed agent rights (v + p.size) ps x)

pieces_within : (net : List NodeDecl) (slots : Slots) (agent : ℕ) (rights : Rights) (unit v : ℕ) (ps : List Piece) (hops : List Hop) → ArePlaced net slots agent rights unit v ps hops → (x y : Name) → AddsPieces agent rights v ps x y → x.addr ≤ top
pieces_within net slots agent rights unit v [] hops a x y m = absurd m
pieces_within net slots agent rights unit v (p ∷ ps) [] a x y m = absurd a
pieces_within net slots agent rights unit v (p ∷ ps) (hop ∷ hops) a x y (inl m) = adds_within (piece_request agent rights p) v a.0.fits x y m
pieces_within net slots agent rights unit v (p ∷ ps) (hop ∷ hops) a x y (inr m) = pieces_within net slots agent rights unit (v + p.size) ps hops a.3 x y m

-- whether a scattered placement is looked for
suited_scatter : (net : List NodeDecl) (slots : Slots) (agent : ℕ) (rights : Rights) (ps : List Piece) (s : Scatter) → IsDecided (IsSuitedScatter net slots agent rights ps s)
suited_scatter net slots agent rights ps s = by (placed net slots agent rights s.unit s.v ps s.hops)
  where
    by : IsDecided (ArePlaced net slots agent rights s.unit s.v ps s.hops) → IsDecided (IsSuitedScatter net slots agent rights ps s)
    by (inl a) = same (λ g. record { are_placed = a; are_admissible = g }) (λ z. z.are_admissible) (gives_more net slots.held (joined_records slots.held (scattered_records net agent rights s.v ps s.hops)) (allows rights) (AddsPieces agent rights s.v ps) (pieces_listed agent rights s.v ps) (pieces_within net slots agent rights s.unit s.v ps s.hops a))
    by (inr n) = inr (λ z. n z.are_placed)

-- all scattered placements of so many pieces at most
all_scatters : List NodeDecl → ℕ → List Scatter
all_scatters net count = crossed (λ (f : List Hop → Scatter) hops. f hops) (crossed (λ unit v hops. record { unit = unit; v = v; hops = hops }) (numbers (length net)) (numbers (top + 1))) (rows count (all_hops net))

placed_few : (net : List NodeDecl) (slots : Slots) (agent : ℕ) (rights : Rights) (unit v : ℕ) (ps : List Piece) (hops : List Hop) → ArePlaced net slots agent rights unit v ps hops → length hops ≤ length ps
placed_few net slots agent rights unit v [] [] a = omega arith
placed_few net slots agent rights unit v [] (hop ∷ hops) a = absurd a
placed_few net slots agent rights unit v (p ∷ ps) [] a = absurd a
placed_few net slots agent rights unit v (p ∷ ps) (hop ∷ hops) a = let l = placed_few net slots agent rights unit (v + p.size) ps hops a.3 in omega arith

placed_hops : (net : List NodeDecl) (slots : Slots) (agent : ℕ) (rights : Rights) (unit v : ℕ) (ps : List Piece) (hops : List Hop) → ArePlaced net slots agent rights unit v ps hops → (hop : Hop) → Member hop hops → Member hop (all_hops net)
placed_hops net slots agent rights unit v [] [] a hop m = absurd m
placed_hops net slots agent rights unit v [] (k ∷ ks) a hop m = absurd a
placed_hops net slots agent rights unit v (p ∷ ps) [] a hop m = absurd a
placed_hops net slots agent rights unit v (p ∷ ps) (k ∷ ks) a hop (inl e) = led_hops net slots (piece_request agent rights p) (k ∷ []) a.0.some a.0.leads hop (inl e)
placed_hops net slots agent rights unit v (p ∷ ps) (k ∷ ks) a hop (inr m) = placed_hops net slots agent rights unit (v + p.size) ps ks a.3 hop m

scatter_is_listed : (net : List NodeDecl) (slots : Slots) (agent : ℕ) (rights : Rights) (p : Piece) (ps : List Piece) (s : Scatter) → ArePlaced net slots agent rights s.unit s.v (p ∷ ps) s.hops → Member s (all_scatters net (length (p ∷ ps)))
unfolding all_scatters
scatter_is_listed net slots agent rights p ps s a =
    let made = λ (unit v : ℕ) (hops : List Hop). let q : Scatter = record { unit = unit; v = v; hops = hops } in q in
    let first = at_first s.hops a in
    let hops = in_rows (length (p ∷ ps)) (all_hops net) s.hops (placed_few net slots agent rights s.unit s.v (p ∷ ps) s.hops a) (placed_hops net slots agent rights s.unit s.v (p ∷ ps) s.hops a) in
    in_crossed (λ (f : List Hop → Scatter) hops. f hops) (crossed made (numbers (length net)) (numbers (top + 1))) (rows (length (p ∷ ps)) (all_hops net)) (made s.unit s.v) s.hops (in_crossed made (numbers (length net)) (numbers (top + 1)) s.unit s.v (in_numbers (length net) s.unit first.0) (in_numbers (top + 1) s.v first.1)) hops
  where
    at_first : (hops : List Hop) → ArePlaced net slots agent rights s.unit s.v (p ∷ ps) hops → (s.unit < length net) × (s.v < top + 1)
    at_first [] b = absurd b
    at_first (hop ∷ hops) b = (
      subst (λ (n : ℕ). n < length net) b.1 (unit_within net hop.unit b.0.leads.0.unit b.0.leads.0.is_unit),
      (let l = b.0.some in let f = b.0.fits in omega arith),
    )

abbrev key : Scatter → List ℕ
key s = scatter_key s.unit s.v s.hops

abbrev before : Scatter → Scatter → Bool
before s t = comes_before (key s) (key t)

-- no scattered placement comes before the one at 0 with no hop
abbrev nothing : Scatter
nothing = record { unit = 0; v = 0; hops = [] }

none_before : (xs : List ℕ) → comes_before xs [] ≡ false
none_before [] = refl
none_before (x ∷ xs) = refl

zero_first : (x : ℕ) (xs ys : List ℕ) → comes_before xs ys ≡ false → comes_before (x ∷ xs) (0 ∷ ys) ≡ false
zero_first x xs ys e = by (nat_lt x 0) (nat_eq x 0) (comes_before xs ys) (le-ltb x 0 (omega arith)) e
  where
    by : (a b c : Bool) → a ≡ false → c ≡ false → (a || (b && c)) ≡ false
    by true b c f g = f
    by false true c f g = g
    by false false c f g = refl

none_first : (q : Scatter) → comes_before (key q) (key nothing) ≡ false
none_first q =
    let hops : List ℕ = flat_map (λ (h : Hop). h.port ∷ h.y ∷ h.x ∷ []) q.hops in
    zero_first q.unit (q.v ∷ hops) (0 ∷ []) (zero_first q.v hops [] (none_before hops))

-- of no pieces each scattered placement that is looked for is as good as that one
no_pieces : (net : List NodeDecl) (slots : Slots) (agent : ℕ) (rights : Rights) → IsDecided (IsSuitedScatter net slots agent rights [] nothing) → ((s : Scatter) × IsFirstScatter net slots agent rights [] s) ⊎ NoneScattered net slots agent rights []
no_pieces net slots agent rights (inl z) = inl (nothing, record { suited = z; least = λ q w. not_from_false (comes_before (key q) (key nothing)) (none_first q) })
no_pieces net slots agent rights (inr n) = inr (λ s z. n (bare s.unit s.v s.hops z.are_placed z.are_admissible))
  where
    bare : (unit v : ℕ) (hops : List Hop) → ArePlaced net slots agent rights unit v [] hops → AreAdmissible net slots.held agent rights v [] hops → IsSuitedScatter net slots agent rights [] nothing
    bare unit v [] a g = record { are_placed = tt; are_admissible = g }
    bare unit v (hop ∷ hops) a g = absurd a

-- the first scattered placement that is looked for, or that there is none
pub sought_scatter : (net : List NodeDecl) (slots : Slots) (agent : ℕ) (rights : Rights) (ps : List Piece) → ((s : Scatter) × IsFirstScatter net slots agent rights ps s) ⊎ NoneScattered net slots agent rights ps
sought_scatter net slots agent rights [] = no_pieces net slots agent rights (suited_scatter net slots agent rights [] nothing)
sought_scatter net slots agent rights (p ∷ ps) = by (first_of before (IsSuitedScatter net slots agent rights (p ∷ ps)) (λ s. not_itself (key s)) (λ s t u. before_both (key s) (key t) (key u)) (suited_scatter net slots agent rights (p ∷ ps)) (all_scatters net (length (p ∷ ps))))
  where
    listed : (s : Scatter) → IsSuitedScatter net slots agent rights (p ∷ ps) s → Member s (all_scatters net (length (p ∷ ps)))
    listed s z = scatter_is_listed net slots agent rights p ps s z.are_placed

    by : ((s : Scatter) × IsFirstOf before (IsSuitedScatter net slots agent rights (p ∷ ps)) (all_scatters net (length (p ∷ ps))) s) ⊎ ((s : Scatter) → Member s (all_scatters net (length (p ∷ ps))) → IsSuitedScatter net slots agent rights (p ∷ ps) s → ⊥) → ((s : Scatter) × IsFirstScatter net slots agent rights (p ∷ ps) s) ⊎ NoneScattered net slots agent rights (p ∷ ps)
    by (inl f) = inl (f.0, record { suited = f.1.has; least = λ q z. not_from_false (before q f.0) (f.1.least q (listed q z) z) })
    by (inr none) = inr (λ s z. none s (listed s z) z)
