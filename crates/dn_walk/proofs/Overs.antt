-- The first row of units whose slots multiply to more than a number, unit by unit.
use Rattle.std.proofs.Common.{◌≡◌, ℕ, zero, suc, ◌+◌, ◌-◌, ◌*◌, ◌/◌, ◌<◌, ◌≤◌, ◌⊎◌, inl, inr, Bool, true, false, if◌then◌else◌, nat_lt, List, [], ◌∷◌, ◌++◌, map, filter, length, drop, get_or, Option, Some, None, option_map, IsTrue, refl, sym, ap, ◌∙◌, subst, arith}
use Rattle.std.specs.List.{All, flat_map}
use Rattle.std.proofs.lemmas.Option.{slice_get_past}
use Rattle.std.proofs.lemmas.Bool.{lt-ltb, le-ltb, cases_lt}
use Rattle.std.proofs.lemmas.List.{get_or_default, get_or_past, drop_all}
use Rattle.std.proofs.lemmas.List.Elements.{filter-append}
use Rattle.dn_base.proofs.Lists.{drop_at}
use Rattle.std.proofs.Math.Nat.{mul_comm}
use Rattle.std.proofs.lemmas.Nat.{div_below, le-div, mul-le}
use Rattle.dn_net.specs.declared.node.NodeDecl.{NodeDecl}
use Rattle.dn_net.specs.declared.node.Unit.{Unit as UnitPart}
use Rattle.dn_net.specs.Chain.{Member}
use Rattle.dn_net.specs.Decode.{unit_of, unit_at, step_limit}
use Rattle.dn_net.specs.Rules.{KeepsNodeRules}
use Rattle.dn_net.specs.Walks.{live_walks}
use Rattle.dn_net.specs.Firsts.{or_else}
use Rattle.dn_net.specs.Units.{has_plain_units}
use Rattle.dn_net.specs.UnitRules.{IsShallow, unit_leads, unit_rows_from, unit_slots, slots_product, slots_limit, first_row, large_row, unit_rows, unit_numbers, next_units, first_chain}
use Rattle.dn_net.proofs.Plain.{plain_at}
use Rattle.dn_walk.proofs.Arrivals.{nodes_there}
use Rattle.dn_base.proofs.Members.{map_member, member_map, member_get_or}
use Rattle.dn_net.proofs.Members.{member_filter}
use Rattle.dn_walk.proofs.UnitRows.{rows-zero, rows-suc, first_chain_is, unit_of_number, unit_there}
use Rattle.dn_walk.specs.declared.walks.WalkRow.{WalkRow}
use Rattle.dn_walk.specs.Rows.{BareWalk, bare_walk, row_view}
use Rattle.dn_walk.specs.Units.{first_over, chain_by, leads_by_rows, next_units_by, next_by_rows}
use Rattle.dn_walk.proofs.Nexts.{plain_facts, member_at, next_is}

-- the first of two lists of rows, one behind the other
first_row-append : (rows others : List (List ℕ)) → first_row (rows ++ others) ≡ or_else (first_row rows) (first_row others)
first_row-append [] others = refl
first_row-append (us ∷ rows) others = refl

-- the first of rows with a unit put before each
first_row-front : (u : ℕ) (p : List ℕ → Bool) (rows : List (List ℕ)) → first_row (filter p (map (λ us. u ∷ us) rows)) ≡ option_map (λ us. u ∷ us) (first_row (filter (λ us. p (u ∷ us)) rows))
first_row-front u p [] = refl
first_row-front u p (us ∷ rows) = by (first_row-front u p rows) (p (u ∷ us)) refl
  where
    by : first_row (filter p (map (λ us. u ∷ us) rows)) ≡ option_map (λ us. u ∷ us) (first_row (filter (λ us. p (u ∷ us)) rows)) → (b : Bool) → p (u ∷ us) ≡ b → first_row (if b then (u ∷ us) ∷ filter p (map (λ us. u ∷ us) rows) else filter p (map (λ us. u ∷ us) rows)) ≡ option_map (λ us. u ∷ us) (first_row (if b then us ∷ filter (λ us. p (u ∷ us)) rows else filter (λ us. p (u ∷ us)) rows))
    by rest true e = refl
    by rest false e = rest

-- a product is more than a number where its second factor is more than the quotient
more_than : (most s q : ℕ) → 1 ≤ s → nat_lt most (s * q) ≡ nat_lt (most / s) q
more_than most s q l = by (cases_lt most (s * q))
  where
    by : (most < s * q) ⊎ (s * q ≤ most) → nat_lt most (s * q) ≡ nat_lt (most / s) q
    by (inl k) = lt-ltb most (s * q) k ∙ sym (lt-ltb (most / s) q (div_below most s q (omega arith) (subst (λ n. most < n) (mul_comm s q) k)))
    by (inr k) = le-ltb most (s * q) k ∙ sym (le-ltb (most / s) q (le-div q most s (omega arith) (subst (λ n. n ≤ most) (mul_comm s q) k)))

filter_tests : (p q : List ℕ → Bool) (rows : List (List ℕ)) → ((us : List ℕ) → p us ≡ q us) → filter p rows ≡ filter q rows
filter_tests p q rows f = ap (λ t. filter t rows) (λ i us. f us i)

-- a row of no unit
pub over-zero : (net : List NodeDecl) (next : List (List ℕ)) (most : ℕ) (first : List ℕ) → first_over net next 0 most first ≡ (if nat_lt most 1 then Some [] else None)
over-zero net next most first = ap (λ rows. first_row (filter (λ us. nat_lt most (slots_product net us)) rows)) (rows-zero (λ u. get_or next u []) first) ∙ by (nat_lt most 1)
  where
    by : (b : Bool) → first_row (if b then [] ∷ [] else []) ≡ (if b then Some [] else None)
    by true = refl
    by false = refl

-- no unit to begin with
pub over-nil : (net : List NodeDecl) (next : List (List ℕ)) (k most : ℕ) → first_over net next (suc k) most [] ≡ None
over-nil net next k most = ap (λ rows. first_row (filter (λ us. nat_lt most (slots_product net us)) rows)) (rows-suc (λ u. get_or next u []) k [])

-- a unit to begin with, and others
pub over-cons : (net : List NodeDecl) (next : List (List ℕ)) (k most u : ℕ) (us : List ℕ) → 1 ≤ unit_slots (unit_at net u) → first_over net next (suc k) most (u ∷ us) ≡ or_else (option_map (λ r. u ∷ r) (first_over net next k (most / unit_slots (unit_at net u)) (get_or next u []))) (first_over net next (suc k) most us)
over-cons net next k most u us l =
    ap (λ rows. first_row (filter p rows)) (rows-suc step k (u ∷ us))
    ∙ ap first_row (filter-append p (map (λ r. u ∷ r) (unit_rows_from step k (step u))) (flat_map behind us))
    ∙ first_row-append (filter p (map (λ r. u ∷ r) (unit_rows_from step k (step u)))) (filter p (flat_map behind us))
    ∙ ap (λ o. or_else o (first_row (filter p (flat_map behind us)))) (first_row-front u p (unit_rows_from step k (step u)) ∙ ap (λ rows. option_map (λ r. u ∷ r) (first_row rows)) (filter_tests (λ r. p (u ∷ r)) (λ r. nat_lt (most / unit_slots (unit_at net u)) (slots_product net r)) (unit_rows_from step k (step u)) (λ r. more_than most (unit_slots (unit_at net u)) (slots_product net r) l)))
    ∙ ap (λ rows. or_else (option_map (λ r. u ∷ r) (first_over net next k (most / unit_slots (unit_at net u)) (get_or next u []))) (first_row (filter p rows))) (sym (rows-suc step k us))
  where
    step : ℕ → List ℕ
    step u = get_or next u []

    p : List ℕ → Bool
    p r = nat_lt most (slots_product net r)

    behind : ℕ → List (List ℕ)
    behind u = map (λ r. u ∷ r) (unit_rows_from step k (step u))

-- UNIT BY UNIT
-- where no unit is left, only a product of 1 counts
pub over_none_left : (net : List NodeDecl) (next : List (List ℕ)) (left most : ℕ) (units : List ℕ) → left ≡ 0 → most ≡ 0 → first_over net next left most units ≡ Some []
over_none_left net next left most units e f =
    ap (λ n. first_over net next n most units) e
    ∙ over-zero net next most units
    ∙ ap (λ b. if b then Some [] else None) (lt-ltb most 1 (omega arith))

pub over_too_few : (net : List NodeDecl) (next : List (List ℕ)) (left most : ℕ) (units : List ℕ) → left ≡ 0 → (most ≡ 0 → ⊥) → first_over net next left most units ≡ None
over_too_few net next left most units e f =
    ap (λ n. first_over net next n most units) e
    ∙ over-zero net next most units
    ∙ ap (λ b. if b then Some [] else None) (le-ltb most 1 (some most f))
  where
    some : (n : ℕ) → (n ≡ 0 → ⊥) → 1 ≤ n
    some zero g = absurd (g refl)
    some (suc n) g = omega arith

pub over_no_more : (net : List NodeDecl) (next : List (List ℕ)) (left most i : ℕ) (units : List ℕ) → (left ≡ 0 → ⊥) → length units ≤ i → first_over net next left most (drop i units) ≡ None
over_no_more net next left most i units some l = ap (first_over net next left most) (drop_all i units l) ∙ by left some
  where
    by : (n : ℕ) → (n ≡ 0 → ⊥) → first_over net next n most [] ≡ None
    by zero f = absurd (f refl)
    by (suc n) f = over-nil net next n most

-- the unit at a place begins the row, or the units behind it do
pub over_at : (net : List NodeDecl) (next : List (List ℕ)) (left most i : ℕ) (units : List ℕ) (n s : ℕ) (b behind : List ℕ) (o : Option (List ℕ)) → (left ≡ 0 → ⊥) → i < length units → n ≡ get_or units i 0 → n < length next → b ≡ get_or next n b → behind ≡ b → s ≡ unit_slots (unit_at net (get_or units i 0)) → 1 ≤ s → o ≡ first_over net next (left - 1) (most / s) behind → first_over net next left most (drop i units) ≡ or_else (option_map (λ r. get_or units i 0 ∷ r) o) (first_over net next left most (drop (i + 1) units))
over_at net next left most i units n s b behind o some l at there is same slots one found = by left some found
  where
    u : ℕ
    u = get_or units i 0

    list : behind ≡ get_or next u []
    list = same ∙ is ∙ get_or_default next n b [] there ∙ ap (λ m. get_or next m []) at

    by : (left : ℕ) → (left ≡ 0 → ⊥) → o ≡ first_over net next (left - 1) (most / s) behind → first_over net next left most (drop i units) ≡ or_else (option_map (λ r. u ∷ r) o) (first_over net next left most (drop (i + 1) units))
    by zero f g = absurd (f refl)
    by (suc k) f g =
        let p : suc k - 1 ≡ k = omega arith in
        let q : o ≡ first_over net next k (most / unit_slots (unit_at net u)) (get_or next u []) =
        g ∙ ap (λ m. first_over net next m (most / s) behind) p ∙ ap (λ m. first_over net next k (most / m) behind) slots ∙ ap (first_over net next k (most / unit_slots (unit_at net u))) list in
        ap (first_over net next (suc k) most) (drop_at units i u l (get_or_default units i 0 u l))
        ∙ over-cons net next k most u (drop (i + 1) units) (subst (λ m. 1 ≤ m) slots one)
        ∙ ap (λ x. or_else (option_map (λ r. u ∷ r) x) (first_over net next (suc k) most (drop (i + 1) units))) (sym q)

-- so the row is found there, or further on
pub over_found : (net : List NodeDecl) (next : List (List ℕ)) (left most u : ℕ) (units more r : List ℕ) (o : Option (List ℕ)) → first_over net next left most units ≡ or_else (option_map (λ r. u ∷ r) o) (first_over net next left most more) → o ≡ Some r → first_over net next left most units ≡ Some (u ∷ r)
over_found net next left most u units more r o e f = e ∙ ap (λ x. or_else (option_map (λ r. u ∷ r) x) (first_over net next left most more)) f

pub over_passed : (net : List NodeDecl) (next : List (List ℕ)) (left most u : ℕ) (units more : List ℕ) (o : Option (List ℕ)) → first_over net next left most units ≡ or_else (option_map (λ r. u ∷ r) o) (first_over net next left most more) → o ≡ None → first_over net next left most units ≡ first_over net next left most more
over_passed net next left most u units more o e f = e ∙ ap (λ x. or_else (option_map (λ r. u ∷ r) x) (first_over net next left most more)) f

-- none, where it is no value
pub none_of : {X : Type 0} (o : Option X) → ((x : X) → o ≡ Some x → ⊥) → o ≡ None
none_of None f = refl
none_of (Some x) f = absurd (f x refl)

-- a unit of a plain shape has a slot, and so has what is no unit
pub some_slots : (net : List NodeDecl) → IsTrue (has_plain_units net) → (u : ℕ) → 1 ≤ unit_slots (unit_at net u)
some_slots net plain u = by (unit_at net u) refl
  where
    by : (o : Option UnitPart) → unit_at net u ≡ o → 1 ≤ unit_slots o
    by None e = omega arith
    by (Some p) e = (plain_facts p (plain_at net u p plain e)).0

some_product : (net : List NodeDecl) → IsTrue (has_plain_units net) → (us : List ℕ) → 1 ≤ slots_product net us
some_product net plain [] = omega arith
some_product net plain (u ∷ us) = let l = some_slots net plain u in let m = some_product net plain us in mul-le 1 1 (unit_slots (unit_at net u)) (slots_product net us) l m

filter_all : (p : List ℕ → Bool) (rows : List (List ℕ)) → ((us : List ℕ) → p us ≡ true) → filter p rows ≡ rows
filter_all p [] f = refl
filter_all p (us ∷ rows) f = ap (λ b. if b then us ∷ filter p rows else filter p rows) (f us) ∙ ap (λ l. us ∷ l) (filter_all p rows f)

slots_limit_is : 1048576 ≡ slots_limit
unfolding slots_limit
slots_limit_is = refl

-- with the units to which each leads, the rows are those of the net
module _ (net : List NodeDecl) (next : List (List ℕ)) (same : (u : ℕ) → get_or next u [] ≡ next_units net u) where
  rows_are : (k : ℕ) → unit_rows_from (λ u. get_or next u []) k (unit_numbers net) ≡ unit_rows net k
  rows_are k = ap (λ f. unit_rows_from f k (unit_numbers net)) (λ i u. same u i)

  -- the first row of so many units
  any_row : IsTrue (has_plain_units net) → (k : ℕ) → first_over net next k 0 (unit_numbers net) ≡ first_row (unit_rows net k)
  any_row plain k = ap (λ rows. first_row (filter (λ us. nat_lt 0 (slots_product net us)) rows)) (rows_are k) ∙ ap first_row (filter_all (λ us. nat_lt 0 (slots_product net us)) (unit_rows net k) (λ us. lt-ltb 0 (slots_product net us) (some_product net plain us)))

  large : (k : ℕ) → first_over net next k 1048576 (unit_numbers net) ≡ large_row net k
  large k = ap (λ rows. first_row (filter (λ us. nat_lt 1048576 (slots_product net us)) rows)) (rows_are k) ∙ ap (λ n. first_row (filter (λ us. nat_lt n (slots_product net us)) (unit_rows net k))) slots_limit_is

  -- the row that is carried is the first of these
  pub chain_is : IsTrue (has_plain_units net) → chain_by net next (unit_numbers net) ≡ first_chain net
  chain_is plain =
      ap (λ x. or_else x (or_else (over 1 1048576) (or_else (over 2 1048576) (over 3 1048576)))) (any_row plain 4)
      ∙ ap (λ x. or_else (first_row (unit_rows net 4)) (or_else x (or_else (over 2 1048576) (over 3 1048576)))) (large 1)
      ∙ ap (λ x. or_else (first_row (unit_rows net 4)) (or_else (large_row net 1) (or_else x (over 3 1048576)))) (large 2)
      ∙ ap (λ x. or_else (first_row (unit_rows net 4)) (or_else (large_row net 1) (or_else (large_row net 2) x))) (large 3)
      ∙ sym (first_chain_is net)
    where
      over : ℕ → ℕ → Option (List ℕ)
      over k most = first_over net next k most (unit_numbers net)

-- the lists of units are those of the net, also past its nodes
pub next_everywhere : (net : List NodeDecl) → KeepsNodeRules net → IsShallow net → (rows : List BareWalk) → rows ≡ map bare_walk (live_walks net step_limit) → (next : List (List ℕ)) → length next ≡ length net → ((u : ℕ) → u < length net → get_or next u [] ≡ next_by_rows net rows u) → (u : ℕ) → get_or next u [] ≡ next_units net u
next_everywhere net checked shallow rows e next size each u = by (cases_lt u (length net))
  where
    past : (o : Option UnitPart) → unit_at net u ≡ o → o ≡ None → [] ≡ next_by_rows net rows u
    past o at none = ap (λ p. next_units_by (leads_by_rows rows) (unit_numbers net) p) (sym (at ∙ none))

    by : (u < length net) ⊎ (length net ≤ u) → get_or next u [] ≡ next_units net u
    by (inl l) = each u l ∙ next_is net checked shallow rows e u
    by (inr l) =
        get_or_past next u [] (subst (λ n. n ≤ u) (sym size) l)
        ∙ past (unit_at net u) refl (ap unit_of (slice_get_past net u l))
        ∙ next_is net checked shallow rows e u

-- so each of them is one of the net's nodes
pub next_below : (net : List NodeDecl) (next : List (List ℕ)) → ((u : ℕ) → get_or next u [] ≡ next_units net u) → All (λ us. All (λ u. u < length net) us) next
next_below net next same k d l i e m =
    let at : get_or next k d ≡ next_units net k = get_or_default next k d [] l ∙ same k in
    let n : Member (get_or (get_or next k d) i e) (next_units net k) = subst (λ us. Member (get_or (get_or next k d) i e) us) at (member_at (get_or next k d) i e m) in
    let u = member_filter (unit_leads net k) (unit_numbers net) (get_or (get_or next k d) i e) n in
    unit_there net (get_or (get_or next k d) i e) (unit_of_number net (get_or (get_or next k d) i e) u.0)

-- the nodes of the rows are there
pub rows_there : (net : List NodeDecl) → KeepsNodeRules net → (rows : List WalkRow) → map row_view rows ≡ map bare_walk (live_walks net step_limit) → All (λ (r : WalkRow). (r.start < length net) × (r.end < length net)) rows
rows_there net checked rows e k d l =
    let m : Member (row_view (get_or rows k d)) (map bare_walk (live_walks net step_limit)) = subst (λ ts. Member (row_view (get_or rows k d)) ts) e (member_map row_view rows (get_or rows k d) (member_get_or rows k d l)) in
    let w = map_member bare_walk (live_walks net step_limit) (row_view (get_or rows k d)) m in
    let n = nodes_there net checked w.0 w.1 in
    (subst (λ (t : BareWalk). t.start < length net) w.2 n.0, subst (λ (t : BareWalk). t.end < length net) w.2 n.1)
