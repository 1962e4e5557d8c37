-- Rows of units: which units lead to which, all rows of a length in order, and the row that is carried.
use Rattle.std.proofs.Common.{◌≡◌, ℕ, zero, suc, ◌+◌, ◌^◌, ◌<◌, ◌≤◌, ◌⊎◌, inl, inr, Bool, true, false, if◌then◌else◌, ◌==◌, List, [], ◌∷◌, map, filter, length, slice_get, Option, Some, None, is_some, IsSome, IsTrue, refl, sym, ap, ◌∙◌, subst, arith, ltb-true, eqb-true}
use Rattle.std.specs.List.{flat_map}
use Rattle.std.proofs.lemmas.Bool.{lt-ltb, eq-eqb, cases_lt}
use Rattle.std.proofs.lemmas.Option.{slice_get_within}
use Rattle.dn_base.proofs.Members.{any_member, member_any, map_member, member_map}
use Rattle.dn_net.specs.declared.node.Name.{Name}
use Rattle.dn_net.specs.declared.node.NodeDecl.{NodeDecl}
use Rattle.dn_net.specs.declared.node.Unit.{Unit as UnitPart}
use Rattle.dn_net.specs.Chain.{Member, Reaches}
use Rattle.dn_net.specs.Decode.{is_stop, unit_of, unit_at, Step}
use Rattle.dn_net.specs.Names.{stop_names}
use Rattle.dn_net.specs.Firsts.{or_else, first_below}
use Rattle.dn_net.specs.UnitRules.{reaches_unit, port_leads, unit_part_leads, unit_leads, units_from, unit_numbers, next_units, unit_rows_from, unit_rows, slots_product, slots_limit, is_large, first_row, large_row, first_chain, IsShallow, LeadsTo, LeadsOn, IsUnitRow, NoLaterRow, IsFirstOfFour, IsLargeRow, IsFirstLarge, HasShortRows, ChainIsFirst}
use Rattle.dn_net.proofs.Firsts.{IsFirstOr, first_is}
use Rattle.dn_net.proofs.Members.{member_filter, filter_member, member_flat_map, flat_map_member}
use Rattle.dn_walk.proofs.Pairs.{Pairwise, pairs_filter, pairs_flat_map, pairs_map, pairs_more}
use Rattle.dn_net.proofs.Stops.{stop_listed, listed_stop}

-- WHICH UNITS LEAD TO WHICH
-- a name that reaches a unit has a stop in it
reaching : (net : List NodeDecl) (w : ℕ) (x : Name) → reaches_unit net w x ≡ true → (s : Name) × IsTrue (is_stop net s) × Reaches (Step net) x s × (s.node ≡ w)
reaching net w x h =
    let m = any_member (λ (s : Name). s.node == w) (stop_names net x) h in
    let r = listed_stop net x m.0 m.1 in
    (m.0, r.0, r.1, eqb-true m.0.node w m.2)

reached : (net : List NodeDecl) → IsShallow net → (w : ℕ) (x s : Name) → IsTrue (is_stop net s) → Reaches (Step net) x s → s.node ≡ w → reaches_unit net w x ≡ true
reached net shallow w x s is r e = member_any (λ (s : Name). s.node == w) (stop_names net x) s (stop_listed net shallow x s is r) (eq-eqb s.node w e)

-- the first of the numbers below a bound is there exactly where one passes
some_below : (p : ℕ → Bool) (n : ℕ) → is_some (first_below p n) ≡ true → (a : ℕ) × (a < n) × (p a ≡ true)
some_below p n h = by (first_below p n) (first_is p n) h
  where
    by : (o : Option ℕ) → IsFirstOr p n o → is_some o ≡ true → (a : ℕ) × (a < n) × (p a ≡ true)
    by None f e = cc
    by (Some a) f e = (a, f.below, f.passes)

below_some : (p : ℕ → Bool) (n a : ℕ) → a < n → p a ≡ true → is_some (first_below p n) ≡ true
below_some p n a l h = by (first_below p n) (first_is p n)
  where
    by : (o : Option ℕ) → IsFirstOr p n o → is_some o ≡ true
    by None f = let e : true ≡ false = sym h ∙ f a l in cc
    by (Some b) f = refl

-- the test that a unit leads to another is true exactly where it does
pub leads_sound : (net : List NodeDecl) (u w : ℕ) → unit_leads net u w ≡ true → LeadsTo net u w
leads_sound net u w h = by (unit_at net u) refl h
  where
    by : (o : Option UnitPart) → unit_at net u ≡ o → unit_part_leads net w o ≡ true → LeadsTo net u w
    by None e k = cc
    by (Some part) e k =
        let m = any_member (port_leads net w part.reach) part.ports k in
        let a = some_below (λ a. reaches_unit net w (record { node = m.0; addr = a })) (2 ^ part.reach) m.2 in
        let r = reaching net w (record { node = m.0; addr = a.0 }) a.2 in
        record { part = part; port = m.0; addr = a.0; stop = r.0; is_part = e; has_port = m.1; below = a.1; reaches = r.2; is_stop = r.1; is_end = r.3 }

pub leads_found : (net : List NodeDecl) → IsShallow net → (u w : ℕ) → LeadsTo net u w → unit_leads net u w ≡ true
leads_found net shallow u w l =
    let port = port_of l.part l.port l.addr l.stop l.below l.reaches l.is_stop l.is_end in
    ap (unit_part_leads net w) l.is_part ∙ member_any (port_leads net w l.part.reach) l.part.ports l.port l.has_port port
  where
    port_of : (part : UnitPart) (port a : ℕ) (s : Name) → a < 2 ^ part.reach → Reaches (Step net) (record { node = port; addr = a }) s → IsTrue (is_stop net s) → s.node ≡ w → port_leads net w part.reach port ≡ true
    port_of part port a s below r is e = below_some (λ a. reaches_unit net w (record { node = port; addr = a })) (2 ^ part.reach) a below (reached net shallow w (record { node = port; addr = a }) s is r e)

-- THE NUMBERS OF THE UNITS
-- each number comes before those behind it
abbrev pub Ascending : List ℕ → Type 0
Ascending = Pairwise (λ u v. u < v)

-- what stands among the units from a number on
units_low : (number : ℕ) (net : List NodeDecl) (v : ℕ) → Member v (units_from number net) → number ≤ v
units_low number [] v m = absurd m
units_low number (n ∷ ns) v m = by (units_low (suc number) ns v) (is_some n.unit) m
  where
    by : (Member v (units_from (suc number) ns) → suc number ≤ v) → (b : Bool) → Member v (if b then number ∷ units_from (suc number) ns else units_from (suc number) ns) → number ≤ v
    by ih true (inl e) = omega arith
    by ih true (inr k) = let l = ih k in omega arith
    by ih false k = let l = ih k in omega arith

units_ascend : (number : ℕ) (net : List NodeDecl) → Ascending (units_from number net)
units_ascend number [] = tt
units_ascend number (n ∷ ns) = by (units_ascend (suc number) ns) (is_some n.unit)
  where
    by : Ascending (units_from (suc number) ns) → (b : Bool) → Ascending (if b then number ∷ units_from (suc number) ns else units_from (suc number) ns)
    by ih true = ((λ v m. let l = units_low (suc number) ns v m in omega arith), ih)
    by ih false = ih

unit_from : (number : ℕ) (net : List NodeDecl) (i : ℕ) → is_some (unit_at net i) ≡ true → Member (number + i) (units_from number net)
unit_from number [] i h = cc
unit_from number (n ∷ ns) zero h = subst (λ b. Member (number + 0) (if b then number ∷ units_from (suc number) ns else units_from (suc number) ns)) (sym h) (inl (omega arith))
unit_from number (n ∷ ns) (suc i) h =
    let e : suc number + i ≡ number + suc i = omega arith in
    by (subst (λ v. Member v (units_from (suc number) ns)) e (unit_from (suc number) ns i h)) (is_some n.unit)
  where
    by : Member (number + suc i) (units_from (suc number) ns) → (b : Bool) → Member (number + suc i) (if b then number ∷ units_from (suc number) ns else units_from (suc number) ns)
    by rest true = inr rest
    by rest false = rest

from_unit : (number : ℕ) (net : List NodeDecl) (v : ℕ) → Member v (units_from number net) → (i : ℕ) × (v ≡ number + i) × (is_some (unit_at net i) ≡ true)
from_unit number [] v m = absurd m
from_unit number (n ∷ ns) v m = by (from_unit (suc number) ns v) (is_some n.unit) refl m
  where
    by : (Member v (units_from (suc number) ns) → (i : ℕ) × (v ≡ suc number + i) × (is_some (unit_at ns i) ≡ true)) → (b : Bool) → is_some n.unit ≡ b → Member v (if b then number ∷ units_from (suc number) ns else units_from (suc number) ns) → (i : ℕ) × (v ≡ number + i) × (is_some (unit_at (n ∷ ns) i) ≡ true)
    by ih true e (inl s) = (0, (omega arith), e)
    by ih true e (inr k) = let r = ih k in let f = r.1 in (suc r.0, (omega arith), r.2)
    by ih false e k = let r = ih k in let f = r.1 in (suc r.0, (omega arith), r.2)

-- a number is among them exactly where it is a unit's
pub number_of_unit : (net : List NodeDecl) (u : ℕ) → is_some (unit_at net u) ≡ true → Member u (unit_numbers net)
number_of_unit net u h = let e : 0 + u ≡ u = omega arith in subst (λ v. Member v (unit_numbers net)) e (unit_from 0 net u h)

pub unit_of_number : (net : List NodeDecl) (u : ℕ) → Member u (unit_numbers net) → is_some (unit_at net u) ≡ true
unit_of_number net u m =
    let r = from_unit 0 net u m in
    let e : r.0 ≡ u = (let f = r.1 in omega arith) in
    subst (λ v. is_some (unit_at net v) ≡ true) e r.2

-- a unit is one of the nodes
pub unit_there : (net : List NodeDecl) (u : ℕ) → is_some (unit_at net u) ≡ true → u < length net
unit_there net u h = by (slice_get net u) refl h
  where
    by : (o : Option NodeDecl) → slice_get net u ≡ o → is_some (unit_of o) ≡ true → u < length net
    by None e k = cc
    by (Some n) e k = slice_get_within net u n e

-- ROWS
-- a row from some first units, each other of which is listed for the one before it
abbrev pub RowIn : (ℕ → List ℕ) → List ℕ → List ℕ → Type 0
RowIn next first [] = Unit {0}
RowIn next first (u ∷ us) = Member u first × RowIn next (next u) us

pub rows-zero : (next : ℕ → List ℕ) (first : List ℕ) → unit_rows_from next 0 first ≡ [] ∷ []
unfolding unit_rows_from
rows-zero next first = refl

pub rows-suc : (next : ℕ → List ℕ) (k : ℕ) (first : List ℕ) → unit_rows_from next (suc k) first ≡ flat_map (λ u. map (λ us. u ∷ us) (unit_rows_from next k (next u))) first
unfolding unit_rows_from
rows-suc next k first = refl

pub row_listed : (next : ℕ → List ℕ) (k : ℕ) (first us : List ℕ) → length us ≡ k → RowIn next first us → Member us (unit_rows_from next k first)
row_listed next zero first [] e r = subst (λ l. Member [] l) (sym (rows-zero next first)) (inl refl)
row_listed next zero first (u ∷ us) e r = absurd (omega arith)
row_listed next (suc k) first [] e r = absurd (omega arith)
row_listed next (suc k) first (u ∷ us) e r = subst (λ l. Member (u ∷ us) l) (sym (rows-suc next k first))
    (flat_map_member (λ u. map (λ us. u ∷ us) (unit_rows_from next k (next u))) first u (u ∷ us) r.0
    (member_map (λ us. u ∷ us) (unit_rows_from next k (next u)) us (row_listed next k (next u) us (omega arith) r.1)))

pub listed_row : (next : ℕ → List ℕ) (k : ℕ) (first us : List ℕ) → Member us (unit_rows_from next k first) → (length us ≡ k) × RowIn next first us
listed_row next zero first us m = elim (subst (λ l. Member us l) (rows-zero next first) m) [
  | inl e ↦ subst (λ vs. (length vs ≡ 0) × RowIn next first vs) e (refl, tt)
  | inr n ↦ absurd n
]
listed_row next (suc k) first us m =
    let r = member_flat_map (λ u. map (λ us. u ∷ us) (unit_rows_from next k (next u))) first us (subst (λ l. Member us l) (rows-suc next k first) m) in
    let q = map_member (λ us. r.0 ∷ us) (unit_rows_from next k (next r.0)) us r.2 in
    let h = listed_row next k (next r.0) q.0 q.1 in
    let l : length q.0 ≡ k = h.0 in
    subst (λ vs. (length vs ≡ suc k) × RowIn next first vs) q.2 ((omega arith), (r.1, h.1))

-- each row comes no later than those behind it
abbrev pub InTurn : List (List ℕ) → Type 0
InTurn = Pairwise NoLaterRow

same_row : (us : List ℕ) → NoLaterRow us us
same_row [] = tt
same_row (u ∷ us) = inr (refl, same_row us)

turn_map : (u : ℕ) (rows : List (List ℕ)) → InTurn rows → InTurn (map (λ us. u ∷ us) rows)
turn_map u rows t = pairs_map NoLaterRow (λ us. u ∷ us) rows (pairs_more NoLaterRow (λ us vs. NoLaterRow (u ∷ us) (u ∷ vs)) rows (λ us vs m n r. inr (refl, r)) t)

turn_flat : (f : ℕ → List (List ℕ)) (first : List ℕ) → Ascending first → ((u : ℕ) → InTurn (f u)) → InTurn (flat_map (λ u. map (λ us. u ∷ us) (f u)) first)
turn_flat f first a t = pairs_flat_map (λ u v. u < v) NoLaterRow (λ u. map (λ us. u ∷ us) (f u)) first a (λ u m. turn_map u (f u) (t u)) across
  where
    across : (u v : ℕ) (us vs : List ℕ) → Member u first → Member v first → u < v → Member us (map (λ us. u ∷ us) (f u)) → Member vs (map (λ us. v ∷ us) (f v)) → NoLaterRow us vs
    across u v us vs m n l p q =
        let r = map_member (λ us. u ∷ us) (f u) us p in
        let s = map_member (λ us. v ∷ us) (f v) vs q in
        subst (λ ws. NoLaterRow us ws) s.2 (subst (λ ws. NoLaterRow ws (v ∷ s.0)) r.2 (inl l))

-- the rows are in order
pub rows_in_turn : (next : ℕ → List ℕ) → ((u : ℕ) → Ascending (next u)) → (k : ℕ) (first : List ℕ) → Ascending first → InTurn (unit_rows_from next k first)
rows_in_turn next each zero first a = subst InTurn (sym (rows-zero next first)) ((λ vs m. absurd m), tt)
rows_in_turn next each (suc k) first a = subst InTurn (sym (rows-suc next k first)) (turn_flat (λ u. unit_rows_from next k (next u)) first a (λ u. rows_in_turn next each k (next u) (each u)))

-- the first of rows in order, or that there is none
pub record IsFirstRow (rows : List (List ℕ)) (us : List ℕ) : Type 0 where
  pub member : Member us rows
  pub first : (vs : List ℕ) → Member vs rows → NoLaterRow us vs

abbrev pub IsFirstRowOr : List (List ℕ) → Option (List ℕ) → Type 0
IsFirstRowOr rows None = (vs : List ℕ) → Member vs rows → ⊥
IsFirstRowOr rows (Some us) = IsFirstRow rows us

first_row_is : (rows : List (List ℕ)) → InTurn rows → IsFirstRowOr rows (first_row rows)
first_row_is [] t = λ vs m. m
first_row_is (us ∷ rows) t = record { member = inl refl; first = (λ vs m. elim m [ inl e ↦ subst (λ ws. NoLaterRow us ws) e (same_row us) | inr n ↦ t.0 vs n ]) }

-- THE ROWS OF A NET
is_some_IsSome : {X : Type 0} (o : Option X) → is_some o ≡ true → IsSome o
is_some_IsSome None h = cc
is_some_IsSome (Some x) h = refl

IsSome_is_some : {X : Type 0} (o : Option X) → IsSome o → is_some o ≡ true
IsSome_is_some None h = cc
IsSome_is_some (Some x) h = refl

-- a row of units is a row from the units, by the lists of units to which each leads
row_in : (net : List NodeDecl) → IsShallow net → (us : List ℕ) → IsUnitRow net us → RowIn (next_units net) (unit_numbers net) us
row_in net shallow [] r = tt
row_in net shallow (u ∷ us) r = (number_of_unit net u (IsSome_is_some (unit_at net u) r.0), behind u us r.1 r.2)
  where
    behind : (u : ℕ) (us : List ℕ) → LeadsOn net u us → IsUnitRow net us → RowIn (next_units net) (next_units net u) us
    behind u [] l r = tt
    behind u (w ∷ ws) l r = (filter_member (unit_leads net u) (unit_numbers net) w (number_of_unit net w (IsSome_is_some (unit_at net w) r.0)) (leads_found net shallow u w l), behind w ws r.1 r.2)

in_row : (net : List NodeDecl) (us : List ℕ) → RowIn (next_units net) (unit_numbers net) us → IsUnitRow net us
in_row net [] r = tt
in_row net (u ∷ us) r = behind u us (is_some_IsSome (unit_at net u) (unit_of_number net u r.0)) r.1
  where
    behind : (u : ℕ) (us : List ℕ) → IsSome (unit_at net u) → RowIn (next_units net) (next_units net u) us → IsUnitRow net (u ∷ us)
    behind u [] s r = (s, tt, tt)
    behind u (w ∷ ws) s r =
        let m = member_filter (unit_leads net u) (unit_numbers net) w r.0 in
        (s, leads_sound net u w m.1, behind w ws (is_some_IsSome (unit_at net w) (unit_of_number net w m.0)) r.1)

-- so the rows of a length are those that are listed
row_of_units : (net : List NodeDecl) → IsShallow net → (k : ℕ) (us : List ℕ) → length us ≡ k → IsUnitRow net us → Member us (unit_rows net k)
row_of_units net shallow k us e r = row_listed (next_units net) k (unit_numbers net) us e (row_in net shallow us r)

units_of_row : (net : List NodeDecl) (k : ℕ) (us : List ℕ) → Member us (unit_rows net k) → (length us ≡ k) × IsUnitRow net us
units_of_row net k us m = let r = listed_row (next_units net) k (unit_numbers net) us m in (r.0, in_row net us r.1)

-- in order
unit_rows_in_turn : (net : List NodeDecl) (k : ℕ) → InTurn (unit_rows net k)
unit_rows_in_turn net k = rows_in_turn (next_units net) (λ u. pairs_filter (λ u v. u < v) (unit_leads net u) (unit_numbers net) (units_ascend 0 net)) k (unit_numbers net) (units_ascend 0 net)

-- THE FIRST ROWS
-- the first row of so many units, or that there is none
abbrev FourOr : List NodeDecl → ℕ → Option (List ℕ) → Type 0
FourOr net k None = (vs : List ℕ) → IsUnitRow net vs → length vs ≡ k → ⊥
FourOr net k (Some us) = IsUnitRow net us × (length us ≡ k) × ((vs : List ℕ) → IsUnitRow net vs → length vs ≡ k → NoLaterRow us vs)

four_is : (net : List NodeDecl) → IsShallow net → (k : ℕ) → FourOr net k (first_row (unit_rows net k))
four_is net shallow k = by (first_row (unit_rows net k)) (first_row_is (unit_rows net k) (unit_rows_in_turn net k))
  where
    by : (o : Option (List ℕ)) → IsFirstRowOr (unit_rows net k) o → FourOr net k o
    by None f = λ vs r e. f vs (row_of_units net shallow k vs e r)
    by (Some us) f = let u = units_of_row net k us f.member in (u.1, u.0, λ vs r e. f.first vs (row_of_units net shallow k vs e r))

-- the first row of so many units with too many slots, or that there is none
pub record IsLargeOf (net : List NodeDecl) (k : ℕ) (us : List ℕ) : Type 0 where
  pub row : IsUnitRow net us
  pub long : length us ≡ k
  pub large : slots_limit < slots_product net us
  pub first : (vs : List ℕ) → IsUnitRow net vs → length vs ≡ k → slots_limit < slots_product net vs → NoLaterRow us vs

abbrev LargeOr : List NodeDecl → ℕ → Option (List ℕ) → Type 0
LargeOr net k None = (vs : List ℕ) → IsUnitRow net vs → length vs ≡ k → slots_limit < slots_product net vs → ⊥
LargeOr net k (Some us) = IsLargeOf net k us

large_is : (net : List NodeDecl) → IsShallow net → (k : ℕ) → LargeOr net k (large_row net k)
large_is net shallow k = by (large_row net k) (first_row_is (filter (is_large net) (unit_rows net k)) (pairs_filter NoLaterRow (is_large net) (unit_rows net k) (unit_rows_in_turn net k)))
  where
    among : (vs : List ℕ) → IsUnitRow net vs → length vs ≡ k → slots_limit < slots_product net vs → Member vs (filter (is_large net) (unit_rows net k))
    among vs r e l = filter_member (is_large net) (unit_rows net k) vs (row_of_units net shallow k vs e r) (lt-ltb slots_limit (slots_product net vs) l)

    by : (o : Option (List ℕ)) → IsFirstRowOr (filter (is_large net) (unit_rows net k)) o → LargeOr net k o
    by None f = λ vs r e l. f vs (among vs r e l)
    by (Some us) f =
        let m = member_filter (is_large net) (unit_rows net k) us f.member in
        let u = units_of_row net k us m.0 in
        record { row = u.1; long = u.0; large = ltb-true slots_limit (slots_product net us) m.1; first = (λ vs r e l. f.first vs (among vs r e l)) }

pub first_chain_is : (net : List NodeDecl) → first_chain net ≡ or_else (first_row (unit_rows net 4)) (or_else (large_row net 1) (or_else (large_row net 2) (large_row net 3)))
unfolding first_chain
first_chain_is net = refl

-- a row with a fourth unit begins with four
front_of_four : (net : List NodeDecl) (us : List ℕ) → IsUnitRow net us → (length us ≤ 3) ⊎ ((vs : List ℕ) × IsUnitRow net vs × (length vs ≡ 4))
front_of_four net [] r = inl (omega arith)
front_of_four net (a ∷ []) r = inl (omega arith)
front_of_four net (a ∷ (b ∷ [])) r = inl (omega arith)
front_of_four net (a ∷ (b ∷ (c ∷ []))) r = inl (omega arith)
front_of_four net (a ∷ (b ∷ (c ∷ (d ∷ us)))) r = inr (a ∷ (b ∷ (c ∷ (d ∷ []))), (r.0, r.1, (r.2.0, r.2.1, (r.2.2.0, r.2.2.1, (r.2.2.2.0, tt, tt)))), refl)

no_slots : 1 ≤ slots_limit
unfolding slots_limit
no_slots = omega arith

pub chain_is_first : ChainIsFirst
chain_is_first net shallow = (
  (λ us e. some us (first_row (unit_rows net 4)) (four_is net shallow 4) (large_row net 1) (large_is net shallow 1) (large_row net 2) (large_is net shallow 2) (large_row net 3) (large_is net shallow 3) (sym (first_chain_is net) ∙ e)),
  (λ e. none (first_row (unit_rows net 4)) (four_is net shallow 4) (large_row net 1) (large_is net shallow 1) (large_row net 2) (large_is net shallow 2) (large_row net 3) (large_is net shallow 3) (sym (first_chain_is net) ∙ e)),
)
  where
    lengths : (n : ℕ) → 1 ≤ n → n ≤ 3 → (n ≡ 1) ⊎ ((n ≡ 2) ⊎ (n ≡ 3))
    lengths n l m = grind arith

    -- the first large row of its length, where none is shorter
    found : (k : ℕ) (us : List ℕ) → 1 ≤ k → k ≤ 3 → ((vs : List ℕ) → IsUnitRow net vs → length vs ≡ 4 → ⊥) → IsLargeOf net k us → ((vs : List ℕ) → IsLargeRow net vs → k ≤ length vs) → IsFirstLarge net us
    found k us l m no_four f longer =
        let e : length us ≡ k = f.long in
        record {
          no_four = no_four;
          row = record { row = f.row; some = (omega arith); short = (omega arith); large = f.large };
          first = λ vs r. elim (order (length vs) (longer vs r)) [
            | inl s ↦ inr ((omega arith), f.first vs r.row (sym s) r.large)
            | inr s ↦ inl (omega arith)
          ];
        }
      where
        order : (n : ℕ) → k ≤ n → (k ≡ n) ⊎ (k < n)
        order n l = grind arith

    same : (us vs : List ℕ) → ◌≡◌ {A = Option (List ℕ)} (Some us) (Some vs) → us ≡ vs
    same us vs e = cc

    some : (us : List ℕ) (o4 : Option (List ℕ)) → FourOr net 4 o4 → (o1 : Option (List ℕ)) → LargeOr net 1 o1 → (o2 : Option (List ℕ)) → LargeOr net 2 o2 → (o3 : Option (List ℕ)) → LargeOr net 3 o3 → or_else o4 (or_else o1 (or_else o2 o3)) ≡ Some us → IsFirstOfFour net us ⊎ IsFirstLarge net us
    some us (Some vs) f o1 f1 o2 f2 o3 f3 e = inl (subst (IsFirstOfFour net) (same vs us e) (record { row = f.0; four = f.1; first = f.2 }))
    some us None f (Some vs) f1 o2 f2 o3 f3 e = inr (subst (IsFirstLarge net) (same vs us e) (found 1 vs (omega arith) (omega arith) f f1 (λ ws r. r.some)))
    some us None f None f1 (Some vs) f2 o3 f3 e = inr (subst (IsFirstLarge net) (same vs us e) (found 2 vs (omega arith) (omega arith) f f2 longer))
      where
        longer : (ws : List ℕ) → IsLargeRow net ws → 2 ≤ length ws
        longer ws r = elim (lengths (length ws) r.some r.short) [
          | inl e ↦ absurd (f1 ws r.row e r.large)
          | inr (inl e) ↦ omega arith
          | inr (inr e) ↦ omega arith
        ]
    some us None f None f1 None f2 (Some vs) f3 e = inr (subst (IsFirstLarge net) (same vs us e) (found 3 vs (omega arith) (omega arith) f f3 longer))
      where
        longer : (ws : List ℕ) → IsLargeRow net ws → 3 ≤ length ws
        longer ws r = elim (lengths (length ws) r.some r.short) [
          | inl e ↦ absurd (f1 ws r.row e r.large)
          | inr (inl e) ↦ absurd (f2 ws r.row e r.large)
          | inr (inr e) ↦ omega arith
        ]
    some us None f None f1 None f2 None f3 e = cc

    none : (o4 : Option (List ℕ)) → FourOr net 4 o4 → (o1 : Option (List ℕ)) → LargeOr net 1 o1 → (o2 : Option (List ℕ)) → LargeOr net 2 o2 → (o3 : Option (List ℕ)) → LargeOr net 3 o3 → or_else o4 (or_else o1 (or_else o2 o3)) ≡ None → HasShortRows net
    none (Some vs) f o1 f1 o2 f2 o3 f3 e = cc
    none None f (Some vs) f1 o2 f2 o3 f3 e = cc
    none None f None f1 (Some vs) f2 o3 f3 e = cc
    none None f None f1 None f2 (Some vs) f3 e = cc
    none None f None f1 None f2 None f3 e = record { short = short; small = small }
      where
        short : (us : List ℕ) → IsUnitRow net us → length us ≤ 3
        short us r = elim (front_of_four net us r) [ inl l ↦ l | inr q ↦ absurd (f q.0 q.1 q.2) ]

        fits : (us : List ℕ) → IsUnitRow net us → (length us ≡ 0) ⊎ (1 ≤ length us) → (slots_limit < slots_product net us) ⊎ (slots_product net us ≤ slots_limit) → slots_product net us ≤ slots_limit
        fits us r c (inr l) = l
        fits [] r (inl z) (inl l) = no_slots
        fits (u ∷ us) r (inl z) (inl l) = absurd (omega arith)
        fits us r (inr s) (inl l) = elim (lengths (length us) s (short us r)) [
          | inl e ↦ absurd (f1 us r e l)
          | inr (inl e) ↦ absurd (f2 us r e l)
          | inr (inr e) ↦ absurd (f3 us r e l)
        ]

        small : (us : List ℕ) → IsUnitRow net us → slots_product net us ≤ slots_limit
        small us r = fits us r (grind arith) (cases_lt slots_limit (slots_product net us))

-- the units of the row that is carried are there
either : (P : List ℕ → Type 0) (a b : Option (List ℕ)) → ((us : List ℕ) → a ≡ Some us → P us) → ((us : List ℕ) → b ≡ Some us → P us) → (us : List ℕ) → or_else a b ≡ Some us → P us
either P (Some vs) b f g us e = f us e
either P None b f g us e = g us e

first_member : (rows : List (List ℕ)) (us : List ℕ) → first_row rows ≡ Some us → Member us rows
first_member [] us e = cc
first_member (vs ∷ rows) us e = let s : vs ≡ us = cc in inl s

row_units : (net : List NodeDecl) (us : List ℕ) → IsUnitRow net us → (u : ℕ) → Member u us → u < length net
row_units net [] r u m = absurd m
row_units net (v ∷ us) r u (inl e) = subst (λ w. w < length net) e (unit_there net v (IsSome_is_some (unit_at net v) r.0))
row_units net (v ∷ us) r u (inr m) = row_units net us r.2 u m

pub chain_there : (net : List NodeDecl) (us : List ℕ) → first_chain net ≡ Some us → (u : ℕ) → Member u us → u < length net
chain_there net us e = either There (first_row (unit_rows net 4)) (or_else (large_row net 1) (or_else (large_row net 2) (large_row net 3))) (at 4)
    (either There (large_row net 1) (or_else (large_row net 2) (large_row net 3)) (large 1) (either There (large_row net 2) (large_row net 3) (large 2) (large 3)))
    us (sym (first_chain_is net) ∙ e)
  where
    There : List ℕ → Type 0
    There us = (u : ℕ) → Member u us → u < length net

    at : (k : ℕ) (us : List ℕ) → first_row (unit_rows net k) ≡ Some us → (u : ℕ) → Member u us → u < length net
    at k us e = row_units net us (units_of_row net k us (first_member (unit_rows net k) us e)).1

    large : (k : ℕ) (us : List ℕ) → large_row net k ≡ Some us → (u : ℕ) → Member u us → u < length net
    large k us e = row_units net us (units_of_row net k us (member_filter (is_large net) (unit_rows net k) us (first_member (filter (is_large net) (unit_rows net k)) us e)).0).1

-- a net with no unit has no row of units
no_row : (net : List NodeDecl) → unit_numbers net ≡ [] → (k : ℕ) → unit_rows net (suc k) ≡ []
no_row net e k = ap (unit_rows_from (next_units net) (suc k)) e ∙ rows-suc (next_units net) k []

pub no_chain : (net : List NodeDecl) → unit_numbers net ≡ [] → first_chain net ≡ None
no_chain net e =
    first_chain_is net
    ∙ ap (λ rows. or_else (first_row rows) (or_else (large_row net 1) (or_else (large_row net 2) (large_row net 3)))) (no_row net e 3)
    ∙ ap (λ rows. or_else (first_row (filter (is_large net) rows)) (or_else (large_row net 2) (large_row net 3))) (no_row net e 0)
    ∙ ap (λ rows. or_else (first_row (filter (is_large net) rows)) (large_row net 3)) (no_row net e 1)
    ∙ ap (λ rows. first_row (filter (is_large net) rows)) (no_row net e 2)
