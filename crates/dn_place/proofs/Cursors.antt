-- The hops that a cursor has yet to give.
use Rattle.std.proofs.Common.{◌≡◌, ℕ, suc, ◌+◌, ◌-◌, ◌*◌, ◌/◌, ◌%◌, ◌^◌, ◌<◌, ◌≤◌, ◌⊎◌, inl, inr, true, false, ◌&&◌, nat_eq, List, [], ◌∷◌, ◌++◌, drop, length, get_or, slice_get, Option, Some, None, IfNone, IfSome, sym, ap, ◌∙◌, subst, arith, eq-eqb, eqb-true, zero, Bool}
use Rattle.std.specs.List.{All}
use Rattle.std.proofs.lemmas.Bool.{and_parts, cases_lt, cases_order, false≢true, or_cases, or_left, or_right}
use Rattle.std.proofs.lemmas.List.Elements.{All-head, All-nil, All-tail, All-weaker}
use Rattle.std.proofs.lemmas.Nat.{pow_pos}
use Rattle.std.proofs.Math.Nat.{mod-le, mod-mod}
use Rattle.dn_view.proofs.Pages.{power_below}
use Rattle.std.proofs.Math.Seq.{drop-cons}
use Rattle.std.proofs.Math.ListN.{drop_of_length-le}
use Rattle.dn_interval.specs.declared.row.End.{End}
use Rattle.dn_net.specs.declared.node.NodeDecl.{NodeDecl}
use Rattle.dn_net.specs.declared.node.Unit.{Unit as UnitPart}
use Rattle.dn_net.specs.Decode.{unit_at}
use Rattle.dn_flat.specs.Levels.{is_among}
use Rattle.dn_tables.specs.declared.placement.Hop.{Hop}
use Rattle.dn_tables.specs.Placement.{Place}
use Rattle.dn_placement.specs.Keys.{comes_before}
use Rattle.dn_placement.specs.Order.{key_of, precedes}
use Rattle.dn_placement.proofs.Keys.{not_before, one_more, same_front}
use Rattle.dn_place.specs.declared.cursor.HopCursor.{HopCursor}
use Rattle.dn_place.specs.declared.cursor.Inputs.{Inputs}
use Rattle.dn_place.specs.declared.exits.Exit.{Exit}
use Rattle.dn_place.specs.declared.slots.Input.{Input}
use Rattle.dn_place.specs.Candidates.{IsChosen, IsFirstUnder, IsUnder, NoneUnder, key_of_hops, to_output, to_port, to_unit}
use Rattle.dn_place.specs.Cursors.{AreAllToCome, AreAllUseless, AreAtHand, AreExitsOf, AreInputs, GivesHop, GoesByExit, GoesByInput, GoesByInputs, GoesByUnit, GoesOnWithoutHop, HasRange, IsBelow, IsCursor, IsInputRange, IsNextUsable, IsOutputIn, IsToCome, IsUsableInput, LeavesInputs, hops_left, inputs_left}
use Rattle.dn_walk.specs.Ends.{name_of_end}
use Rattle.dn_place.specs.Exits.{AreOutputs, Ascend, IsAloneBefore, IsOutput, IsRankedOutput, IsSooner, has_exit}
use Rattle.dn_place.specs.Marks.{AreMarked, AreUnitsFrom, IsEntry, mark_at}
use Rattle.dn_place.specs.Slots.{AreFreeTo, AreUseless, IsUseless}
use Rattle.dn_place.specs.Sought.{HasUnitBounds, IsSearchReady, Sought}
use Rattle.std.proofs.lemmas.Option.{same_Some, slice_get_within}
use Rattle.dn_placement.specs.Placement.{Meets}
use Rattle.dn_place.proofs.Nexts.{behind, between, chosen_on, Next, next_agrees, next_of, not_entered, not_served, not_whole, through_output, unit_next, unit_of, unmarked, weaker, x_of}
use Rattle.dn_place.proofs.Pages.{input_bound, page_few}
use Rattle.dn_place.proofs.Usable.{free_onward, none_free}

-- the order of placements

-- the one that goes on with the greater number does not come before the other
pub later : (s : Sought) (front : List ℕ) (i j : ℕ) (p q : Place) → IsUnder s (front ++ i ∷ []) p → IsUnder s (front ++ j ∷ []) q → i < j → precedes s.net q p ≡ false
later s front i j p q u v l =
    ap (λ k. comes_before k (key_of s.net p)) (v.begins.1 ∙ one_more front j v.begins.0)
    ∙ ap (comes_before (front ++ (j ∷ v.begins.0))) (u.begins.1 ∙ one_more front i u.begins.0)
    ∙ same_front front (j ∷ v.begins.0) (i ∷ u.begins.0)
    ∙ not_before j i v.begins.0 u.begins.0 l

-- a placement with a hop goes on with its unit, with its output, and with its input
pub at_input : (s : Sought) (count : ℕ) (nearer : List Hop) (unit port y x : ℕ) (p : Place) → IsUnder s (key_of_hops count (record { unit = unit; port = port; x = x; y = y } ∷ nearer)) p → IsUnder s (to_output count nearer unit port y ++ x ∷ []) p
at_input s count nearer unit port y x p u = subst (λ f. IsUnder s f p) (sym (behind count nearer unit port y x)) u

pub from_input : (s : Sought) (count : ℕ) (nearer : List Hop) (unit port y x : ℕ) (p : Place) → IsUnder s (to_output count nearer unit port y ++ x ∷ []) p → IsUnder s (key_of_hops count (record { unit = unit; port = port; x = x; y = y } ∷ nearer)) p
from_input s count nearer unit port y x p u = subst (λ f. IsUnder s f p) (behind count nearer unit port y x) u

at_output : (s : Sought) (count : ℕ) (nearer : List Hop) (unit port y x : ℕ) (p : Place) → IsUnder s (to_output count nearer unit port y ++ x ∷ []) p → IsUnder s (to_output count nearer unit port y) p
at_output s count nearer unit port y x p u = weaker s (to_output count nearer unit port y) x p u

at_unit : (s : Sought) (count : ℕ) (nearer : List Hop) (unit port y : ℕ) (p : Place) → IsUnder s (to_output count nearer unit port y) p → IsUnder s (to_unit count nearer unit) p
at_unit s count nearer unit port y p u = weaker s (to_unit count nearer unit) port p (weaker s (to_port count nearer unit port) y p u)

by_output : (s : Sought) (count : ℕ) (nearer : List Hop) (unit port y q z : ℕ) (a b : Place) → IsSooner port y q z → IsUnder s (to_output count nearer unit port y) a → IsUnder s (to_output count nearer unit q z) b → precedes s.net b a ≡ false
by_output s count nearer unit port y q z a b (inl l) u v = later s (to_unit count nearer unit) port q a b (weaker s (to_port count nearer unit port) y a u) (weaker s (to_port count nearer unit q) z b v) l
by_output s count nearer unit port y q z a b (inr e) u v = later s (to_port count nearer unit port) y z a b u (subst (λ n. IsUnder s (to_output count nearer unit n z) b) (sym e.0) v) e.1

by_unit : (s : Sought) (count : ℕ) (nearer : List Hop) (unit other : ℕ) (a b : Place) → unit < other → IsUnder s (to_unit count nearer unit) a → IsUnder s (to_unit count nearer other) b → precedes s.net b a ≡ false
by_unit s count nearer unit other a b l u v = later s (key_of_hops count nearer) unit other a b u v l

-- lists of units and of outputs

pub units_listed : (net : List NodeDecl) (bound : ℕ) (units : List ℕ) (n : ℕ) (u : UnitPart) → AreUnitsFrom net bound units → bound ≤ n → unit_at net n ≡ Some u → is_among n units ≡ true
units_listed net bound [] n u a l e = absurd (a n u l e)
units_listed net bound (m ∷ rest) n u a l e = go (λ k. units_listed net (suc m) rest n u a.2 k e) (cases_order n m)
  where
    go : (suc m ≤ n → is_among n rest ≡ true) → (n ≡ m) ⊎ ((n < m) ⊎ (m < n)) → is_among n (m ∷ rest) ≡ true
    go on (inl k) = or_left (nat_eq m n) (is_among n rest) (eq-eqb m n (sym k))
    go on (inr (inl k)) = absurd (a.1 n u l k e)
    go on (inr (inr k)) = or_right (nat_eq m n) (is_among n rest) (on (omega arith))

units_above : (net : List NodeDecl) (bound : ℕ) (units : List ℕ) (n : ℕ) → AreUnitsFrom net bound units → is_among n units ≡ true → bound ≤ n
units_above net bound [] n a t = absurd (false≢true t)
units_above net bound (m ∷ rest) n a t = go (λ e. units_above net (suc m) rest n a.2 e) (or_cases (nat_eq m n) (is_among n rest) t)
  where
    go : (is_among n rest ≡ true → suc m ≤ n) → (nat_eq m n ≡ true) ⊎ (is_among n rest ≡ true) → bound ≤ n
    go on (inl e) = let k : m ≡ n = eqb-true m n e in let f : bound ≤ m = a.0 in omega arith
    go on (inr e) = let k : suc m ≤ n = on e in let f : bound ≤ m = a.0 in omega arith

-- the first of a list of outputs, or one after it
exit_cases : (port y : ℕ) (e : Exit) (es : List Exit) → has_exit port y (e ∷ es) ≡ true → ((e.port ≡ port) × (e.y ≡ y)) ⊎ (has_exit port y es ≡ true)
exit_cases port y e es t = go (or_cases (nat_eq e.port port && nat_eq e.y y) (has_exit port y es) t)
  where
    go : ((nat_eq e.port port && nat_eq e.y y) ≡ true) ⊎ (has_exit port y es ≡ true) → ((e.port ≡ port) × (e.y ≡ y)) ⊎ (has_exit port y es ≡ true)
    go (inl k) = let w = and_parts (nat_eq e.port port) (nat_eq e.y y) k in inl (eqb-true e.port port w.0, eqb-true e.y y w.1)
    go (inr k) = inr k

-- what holds of each output holds of one that is listed
of_listed : (P : ℕ → ℕ → Type 0) (port y : ℕ) (es : List Exit) → All (λ (e : Exit). P e.port e.y) es → has_exit port y es ≡ true → P port y
of_listed P port y [] a t = absurd (false≢true t)
of_listed P port y (e ∷ es) a t = go (λ k. of_listed P port y es (All-tail (λ (x : Exit). P x.port x.y) e es a) k) (exit_cases port y e es t)
  where
    go : (has_exit port y es ≡ true → P port y) → ((e.port ≡ port) × (e.y ≡ y)) ⊎ (has_exit port y es ≡ true) → P port y
    go on (inl k) = subst (λ n. P n y) k.0 (subst (λ n. P e.port n) k.1 (All-head (λ (x : Exit). P x.port x.y) e es a))
    go on (inr k) = on k

-- a cursor before the first hop

pub cursor_begun : (s : Sought) (count : ℕ) (nearer : List Hop) (units : List ℕ) (c : HopCursor) → c.begun ≡ 0 → c.at ≡ 0 → c.exits.items ≡ [] → c.inputs ≡ None → AreUnitsFrom s.net 0 units → IsCursor s count nearer units c
cursor_begun s count nearer units c begun at exits inputs a = record {
  bound = 0;
  left = subst (λ n. AreUnitsFrom s.net 0 (drop n units)) (sym begun) a;
  each = subst (λ (es : List Exit). All (IsBelow s nearer c.unit 0) es) (sym none) (All-nil (IsBelow s nearer c.unit 0));
  order = subst (λ (es : List Exit). Ascend es) (sym none) tt;
  few = subst (λ (es : List Exit). length es < 2 ^ 64) (sym exits) (omega arith);
  inputs = subst (λ (o : Option Inputs). IfSome o (AreAtHand s count nearer c.unit 0 (drop c.at c.exits.items))) (sym inputs) tt;
}
  where
    none : drop c.at c.exits.items ≡ []
    none = ap (λ n. drop n c.exits.items) at ∙ exits

pub all_begun : (s : Sought) (count : ℕ) (nearer : List Hop) (units : List ℕ) (c : HopCursor) → c.begun ≡ 0 → AreUnitsFrom s.net 0 units → length nearer < count → AreAllToCome s count nearer units c
all_begun s count nearer units c begun a l = λ q u.
    let w = unit_next s count nearer q l u in
    inr (inr (record {
      unit = w.0;
      listed = subst (λ n. is_among w.0 (drop n units) ≡ true) (sym begun) (units_listed s.net 0 units w.0 w.1 a (omega arith) w.2);
      under = record { is = u.is; begins = w.3 };
    }))

-- the next unit

pub unit_begun : (s : Sought) (count : ℕ) (nearer : List Hop) (units : List ℕ) (old new : HopCursor) (m : ℕ) → IsCursor s count nearer units old → old.inputs ≡ None → length old.exits.items ≤ old.at → old.begun < length units → m ≡ get_or units old.begun 0 → AreExitsOf s count nearer m new.exits.items → length new.exits.items < 2 ^ 64 → new.begun ≡ old.begun + 1 → new.unit ≡ m → new.at ≡ 0 → new.inputs ≡ None → GoesOnWithoutHop s count nearer units old new
unit_begun s count nearer units old new m is none past more here exits few begun unit at inputs = record {
  cursor = record {
    bound = suc m;
    left = subst (λ n. AreUnitsFrom s.net (suc m) (drop n units)) (sym begun) left.2;
    each = subst (λ (es : List Exit). All (IsBelow s nearer new.unit (suc m)) es) (sym all) (All-weaker (λ (e : Exit). IsOutputIn s nearer m e.port e.y) (IsBelow s nearer new.unit (suc m)) (λ e o. below e o) new.exits.items exits.each);
    order = subst (λ (es : List Exit). Ascend es) (sym all) exits.order;
    few = few;
    inputs = subst (λ (o : Option Inputs). IfSome o (AreAtHand s count nearer new.unit (suc m) (drop new.at new.exits.items))) (sym inputs) tt;
  };
  keeps = λ q t. keeps q t;
  fewer = less;
}
  where
    rest : drop old.begun units ≡ m ∷ drop (old.begun + 1) units
    rest = drop-cons units old.begun 0 more ∙ ap (λ (x : ℕ). x ∷ drop (suc old.begun) units) (sym here) ∙ ap (λ n. m ∷ drop n units) (let p : suc old.begun ≡ old.begun + 1 = omega arith in p)

    left : AreUnitsFrom s.net is.bound (m ∷ drop (old.begun + 1) units)
    left = subst (λ (us : List ℕ). AreUnitsFrom s.net is.bound us) rest is.left

    all : drop new.at new.exits.items ≡ new.exits.items
    all = ap (λ n. drop n new.exits.items) at

    below : (e : Exit) → IsOutputIn s nearer m e.port e.y → IsBelow s nearer new.unit (suc m) e
    below e o = record { below = omega (arith, unit); output = subst (λ n. IsOutputIn s nearer n e.port e.y) (sym unit) o }

    of_unit : (q : Place) → IsUnder s (to_unit count nearer m) q → IsToCome s count nearer units new q
    of_unit q u = inr (inl (subst (λ (es : List Exit). GoesByExit s count nearer new.unit es q) (sym all) (subst (λ n. GoesByExit s count nearer n new.exits.items q) (sym unit) (exits.all q u))))

    of_listed_unit : (q : Place) (n : ℕ) → IsUnder s (to_unit count nearer n) q → (nat_eq m n ≡ true) ⊎ (is_among n (drop (old.begun + 1) units) ≡ true) → IsToCome s count nearer units new q
    of_listed_unit q n u (inl e) = of_unit q (subst (λ k. IsUnder s (to_unit count nearer k) q) (sym (eqb-true m n e)) u)
    of_listed_unit q n u (inr e) = inr (inr (record { unit = n; listed = subst (λ k. is_among n (drop k units) ≡ true) (sym begun) e; under = u }))

    keeps : (q : Place) → IsToCome s count nearer units old q → IsToCome s count nearer units new q
    keeps q (inl g) = absurd (subst (λ (o : Option Inputs). GoesByInputs s count nearer o q) none g)
    keeps q (inr (inl g)) = absurd (false≢true (subst (λ (es : List Exit). has_exit g.port g.y es ≡ true) (drop_of_length-le old.exits.items past) g.listed))
    keeps q (inr (inr g)) = of_listed_unit q g.unit g.under (or_cases (nat_eq m g.unit) (is_among g.unit (drop (old.begun + 1) units)) (subst (λ (us : List ℕ). is_among g.unit us ≡ true) rest g.listed))

    less : hops_left units new < hops_left units old
    less =
        let a : inputs_left new.inputs ≡ 0 = ap inputs_left inputs in
        let b : length new.exits.items - new.at < 2 ^ 64 = omega (arith, few) in
        omega (arith, a, b, begun, more)

-- the next output

pub exit_begun : (s : Sought) (count : ℕ) (nearer : List Hop) (units : List ℕ) (old new : HopCursor) (e : Exit) → IsSearchReady s → IsCursor s count nearer units old → old.inputs ≡ None → old.at < length old.exits.items → drop old.at old.exits.items ≡ e ∷ drop (old.at + 1) old.exits.items → new.begun ≡ old.begun → new.unit ≡ old.unit → new.exits.items ≡ old.exits.items → new.at ≡ old.at + 1 → IfSome new.inputs (λ i. AreInputs s count nearer i) → IfSome new.inputs (λ i. i.unit ≡ old.unit) → IfSome new.inputs (λ i. i.port ≡ e.port) → IfSome new.inputs (λ i. i.y ≡ e.y) → ((q : Place) → IsUnder s (to_output count nearer old.unit e.port e.y) q → GoesByInputs s count nearer new.inputs q) → GoesOnWithoutHop s count nearer units old new
exit_begun s count nearer units old new e ready is none more rest begun unit exits at inputs in_unit in_port in_y all = record {
  cursor = record {
    bound = is.bound;
    left = subst (λ n. AreUnitsFrom s.net is.bound (drop n units)) (sym begun) is.left;
    each = subst (λ (es : List Exit). All (IsBelow s nearer new.unit is.bound) es) (sym left) (subst (λ n. All (IsBelow s nearer n is.bound) (drop (old.at + 1) old.exits.items)) (sym unit) (All-tail (IsBelow s nearer old.unit is.bound) e (drop (old.at + 1) old.exits.items) each));
    order = subst (λ (es : List Exit). Ascend es) (sym left) order.1;
    few = subst (λ (es : List Exit). length es < 2 ^ 64) (sym exits) is.few;
    inputs = at_hand new.inputs inputs in_unit in_port in_y;
  };
  keeps = λ q t. keeps q t;
  fewer = less;
}
  where
    left : drop new.at new.exits.items ≡ drop (old.at + 1) old.exits.items
    left = ap (λ n. drop n new.exits.items) at ∙ ap (λ (es : List Exit). drop (old.at + 1) es) exits

    each : All (IsBelow s nearer old.unit is.bound) (e ∷ drop (old.at + 1) old.exits.items)
    each = subst (λ (es : List Exit). All (IsBelow s nearer old.unit is.bound) es) rest is.each

    order : Ascend (e ∷ drop (old.at + 1) old.exits.items)
    order = subst (λ (es : List Exit). Ascend es) rest is.order

    below : old.unit < is.bound
    below = (All-head (IsBelow s nearer old.unit is.bound) e (drop (old.at + 1) old.exits.items) each).below

    at_hand : (o : Option Inputs) → IfSome o (λ i. AreInputs s count nearer i) → IfSome o (λ i. i.unit ≡ old.unit) → IfSome o (λ i. i.port ≡ e.port) → IfSome o (λ i. i.y ≡ e.y) → IfSome o (AreAtHand s count nearer new.unit is.bound (drop new.at new.exits.items))
    at_hand None a b c d = tt
    at_hand (Some i) a b c d = record {
      inputs = a;
      same = b ∙ sym unit;
      below = omega (arith, unit, below);
      order = subst (λ (es : List Exit). All (λ (x : Exit). IsSooner i.port i.y x.port x.y) es) (sym left) (subst (λ n. All (λ (x : Exit). IsSooner n i.y x.port x.y) (drop (old.at + 1) old.exits.items)) (sym c) (subst (λ n. All (λ (x : Exit). IsSooner e.port n x.port x.y) (drop (old.at + 1) old.exits.items)) (sym d) order.0));
    }

    by_exit : (q : Place) (port y : ℕ) → IsUnder s (to_output count nearer old.unit port y) q → ((e.port ≡ port) × (e.y ≡ y)) ⊎ (has_exit port y (drop (old.at + 1) old.exits.items) ≡ true) → IsToCome s count nearer units new q
    by_exit q port y u (inl k) = inl (all q (subst (λ n. IsUnder s (to_output count nearer old.unit n e.y) q) (sym k.0) (subst (λ n. IsUnder s (to_output count nearer old.unit port n) q) (sym k.1) u)))
    by_exit q port y u (inr k) = inr (inl (record {
      port = port;
      y = y;
      listed = subst (λ (es : List Exit). has_exit port y es ≡ true) (sym left) k;
      under = subst (λ n. IsUnder s (to_output count nearer n port y) q) (sym unit) u;
    }))

    keeps : (q : Place) → IsToCome s count nearer units old q → IsToCome s count nearer units new q
    keeps q (inl g) = absurd (subst (λ (o : Option Inputs). GoesByInputs s count nearer o q) none g)
    keeps q (inr (inl g)) = by_exit q g.port g.y g.under (exit_cases g.port g.y e (drop (old.at + 1) old.exits.items) (subst (λ (es : List Exit). has_exit g.port g.y es ≡ true) rest g.listed))
    keeps q (inr (inr g)) = inr (inr (record { unit = g.unit; listed = subst (λ n. is_among g.unit (drop n units) ≡ true) (sym begun) g.listed; under = g.under }))

    small : (o : Option Inputs) → IfSome o (λ i. AreInputs s count nearer i) → inputs_left o < 2 ^ 61
    small None a = omega arith
    small (Some i) a =
        let f = ready.bounds i.unit a.u a.range.is_unit in
        let w : i.last + s.request.size ≤ a.u.slots * 2 ^ a.u.page = a.range.within in
        omega (arith, w, input_bound a.u.slots a.u.page f.page f.few)

    less : hops_left units new < hops_left units old
    less =
        let a : inputs_left new.inputs < 2 ^ 61 = small new.inputs inputs in
        let b : length new.exits.items ≡ length old.exits.items = ap length exits in
        omega (arith, a, b, begun, at, more)

-- the next input

-- none of the inputs before one serves
none_sooner : (s : Sought) (count : ℕ) (nearer : List Hop) (i : Inputs) (u : UnitPart) (place to : ℕ) → IsSearchReady s → length nearer < count → place ≡ count - length nearer → IsInputRange s u i → AreUseless s u place (record { unit = i.unit; port = i.port; x = i.x; y = i.y }) to → (q : Place) (x : ℕ) → i.x ≤ x → x < to → IsUnder s (to_output count nearer i.unit i.port i.y ++ x ∷ []) q → ⊥
none_sooner s count nearer i u place to ready l here range useless q x a b v =
    (not_served s count nearer i.unit i.port i.y x place i.x u ready l here range.is_unit (useless x a b ((x_of s count nearer i.unit i.port i.y x u l range.is_unit q v).joins.agree ∙ sym range.agree))).none q v

-- the inputs after one of them
abbrev pub inputs_past : Inputs → Input → ℕ → Inputs
inputs_past i input handed = record { unit = i.unit; port = i.port; y = i.y; page = i.page; x = input.x + i.page; last = i.last; free = input.free; handed = handed }

pub same_unit : (net : List NodeDecl) (n : ℕ) (u v : UnitPart) → unit_at net n ≡ Some u → unit_at net n ≡ Some v → u ≡ v
same_unit net n u v a b = some u v (sym a ∙ b)
  where
    some : (u v : UnitPart) → Some u ≡ Some v → u ≡ v
    some u v p = cc

pub input_given : (s : Sought) (count place : ℕ) (nearer : List Hop) (units : List ℕ) (old new : HopCursor) (i : Inputs) (input : Input) (handed : ℕ) (u : UnitPart) → IsSearchReady s → IsChosen s count nearer → length nearer < count → place ≡ count - length nearer → IsCursor s count nearer units old → old.inputs ≡ Some i → unit_at s.net i.unit ≡ Some u → IsUsableInput s u place i input → new.begun ≡ old.begun → new.unit ≡ old.unit → new.exits.items ≡ old.exits.items → new.at ≡ old.at → new.inputs ≡ Some (inputs_past i input handed) → GivesHop s count nearer units old new (record { unit = i.unit; port = i.port; x = input.x; y = i.y })
input_given s count place nearer units old new i input handed u ready chosen l here is some is_unit found begun unit exits at inputs = record {
  cursor = record {
    bound = is.bound;
    left = subst (λ n. AreUnitsFrom s.net is.bound (drop n units)) (sym begun) is.left;
    each = subst (λ (es : List Exit). All (IsBelow s nearer new.unit is.bound) es) (sym left) (subst (λ n. All (IsBelow s nearer n is.bound) (drop old.at old.exits.items)) (sym unit) is.each);
    order = subst (λ (es : List Exit). Ascend es) (sym left) is.order;
    few = subst (λ (es : List Exit). length es < 2 ^ 64) (sym exits) is.few;
    inputs = subst (λ (o : Option Inputs). IfSome o (AreAtHand s count nearer new.unit is.bound (drop new.at new.exits.items))) (sym inputs) after;
  };
  chosen = chosen_on s count nearer i.unit i.port i.y input.x u chosen l is_unit port_there found.agree within range.reached found.usable (λ n p. leads n p);
  parts = λ q t. parts q t;
  later = λ p q a t. order p q (at_input s count nearer i.unit i.port i.y input.x p a) t;
  fewer = less;
}
  where
    left : drop new.at new.exits.items ≡ drop old.at old.exits.items
    left = ap (λ n. drop n new.exits.items) at ∙ ap (λ (es : List Exit). drop old.at es) exits

    hand : AreAtHand s count nearer old.unit is.bound (drop old.at old.exits.items) i
    hand = subst (λ (o : Option Inputs). IfSome o (AreAtHand s count nearer old.unit is.bound (drop old.at old.exits.items))) some is.inputs

    same : hand.inputs.u ≡ u
    same = same_unit s.net i.unit hand.inputs.u u hand.inputs.range.is_unit is_unit

    range : IsInputRange s u i
    range = subst (λ (v : UnitPart). IsInputRange s v i) same hand.inputs.range

    output : IsOutput s.net u s.request nearer i.port i.y
    output = subst (λ (v : UnitPart). IsOutput s.net v s.request nearer i.port i.y) same hand.inputs.output

    bounds : HasUnitBounds s.net u
    bounds = ready.bounds i.unit u is_unit

    within : input.x + s.request.size ≤ u.slots * 2 ^ u.page
    within = omega (arith, found.to, range.within)

    port_there : i.port < length u.ports
    port_there = slice_get_within u.ports i.port output.node output.is_port

    leads : (n : ℕ) → slice_get u.ports i.port ≡ Some n → Meets s.net s.request n i.y nearer
    leads n p = subst (λ (k : ℕ). Meets s.net s.request k i.y nearer) (same_Some output.node n (sym output.is_port ∙ p)) output.meets

    step : i.page ≡ 2 ^ u.page
    step = range.page

    past : Inputs
    past = inputs_past i input handed

    after : AreAtHand s count nearer new.unit is.bound (drop new.at new.exits.items) past
    after = record {
      inputs = record {
        u = u;
        range = record {
          is_unit = is_unit;
          page = step;
          agree = ap (λ n. (input.x + n) % 2 ^ u.page) step ∙ next_agrees input.x (2 ^ u.page) (pow_pos u.page) ∙ found.agree;
          few = omega (arith, found.to, range.within, step, page_few u.page bounds.page, input_bound u.slots u.page bounds.page bounds.few);
          within = range.within;
          reached = range.reached;
          free = subst (λ n. AreFreeTo s.slots i.unit ((input.x + n) / 2 ^ u.page) input.free) (sym step) (free_onward s.slots i.unit input.x (input.x + 2 ^ u.page) u.page input.free (omega arith) found.free);
        };
        output = output;
        most = λ q x v m. hand.inputs.most q x v (omega (arith, m, found.from));
      };
      same = hand.same ∙ sym unit;
      below = omega (arith, unit, hand.below);
      order = subst (λ (es : List Exit). All (λ (x : Exit). IsSooner i.port i.y x.port x.y) es) (sym left) hand.order;
    }

    through : (q : Place) (x : ℕ) → i.x ≤ x → IsUnder s (to_output count nearer i.unit i.port i.y ++ x ∷ []) q → (x ≡ input.x) ⊎ ((x < input.x) ⊎ (input.x < x)) → IsUnder s (key_of_hops count (record { unit = i.unit; port = i.port; x = input.x; y = i.y } ∷ nearer)) q ⊎ IsToCome s count nearer units new q
    through q x from v (inl e) = inl (from_input s count nearer i.unit i.port i.y input.x q (subst (λ n. IsUnder s (to_output count nearer i.unit i.port i.y ++ n ∷ []) q) e v))
    through q x from v (inr (inl m)) = absurd (none_sooner s count nearer i u place input.x ready l here range found.useless q x from m v)
    through q x from v (inr (inr m)) = inr (inl (subst (λ (o : Option Inputs). GoesByInputs s count nearer o q) (sym inputs) (record { x = x; from = on (cases_lt x (input.x + i.page)); under = v })))
      where
        on : (x < input.x + i.page) ⊎ (input.x + i.page ≤ x) → input.x + i.page ≤ x
        on (inr k) = k
        on (inl k) = absurd (between input.x x (2 ^ u.page) (pow_pos u.page) (omega (arith, m)) (omega (arith, k, step)) ((x_of s count nearer i.unit i.port i.y x u l is_unit q v).joins.agree ∙ sym found.agree))

    parts : (q : Place) → IsToCome s count nearer units old q → IsUnder s (key_of_hops count (record { unit = i.unit; port = i.port; x = input.x; y = i.y } ∷ nearer)) q ⊎ IsToCome s count nearer units new q
    parts q (inl g) = let k : GoesByInput s count nearer i q = subst (λ (o : Option Inputs). GoesByInputs s count nearer o q) some g in through q k.x k.from k.under (cases_order k.x input.x)
    parts q (inr (inl g)) = inr (inr (inl (subst (λ (es : List Exit). GoesByExit s count nearer new.unit es q) (sym left) (subst (λ n. GoesByExit s count nearer n (drop old.at old.exits.items) q) (sym unit) g))))
    parts q (inr (inr g)) = inr (inr (inr (record { unit = g.unit; listed = subst (λ n. is_among g.unit (drop n units) ≡ true) (sym begun) g.listed; under = g.under })))

    order : (p q : Place) → IsUnder s (to_output count nearer i.unit i.port i.y ++ input.x ∷ []) p → IsToCome s count nearer units new q → precedes s.net q p ≡ false
    order p q a (inl g) =
        let k : GoesByInput s count nearer past q = subst (λ (o : Option Inputs). GoesByInputs s count nearer o q) inputs g in
        later s (to_output count nearer i.unit i.port i.y) input.x k.x p q a k.under (omega (arith, k.from, step, pow_pos u.page))
    order p q a (inr (inl g)) =
        let e : i.unit ≡ new.unit = hand.same ∙ sym unit in
        let sooner : IsSooner i.port i.y g.port g.y = of_listed (λ port y. IsSooner i.port i.y port y) g.port g.y (drop new.at new.exits.items) (subst (λ (es : List Exit). All (λ (x : Exit). IsSooner i.port i.y x.port x.y) es) (sym left) hand.order) g.listed in
        by_output s count nearer i.unit i.port i.y g.port g.y p q sooner (at_output s count nearer i.unit i.port i.y input.x p a) (subst (λ n. IsUnder s (to_output count nearer n g.port g.y) q) (sym e) g.under)
    order p q a (inr (inr g)) =
        let above : is.bound ≤ g.unit = units_above s.net is.bound (drop old.begun units) g.unit is.left (subst (λ n. is_among g.unit (drop n units) ≡ true) begun g.listed) in
        by_unit s count nearer i.unit g.unit p q (omega (arith, hand.same, hand.below, above)) (at_unit s count nearer i.unit i.port i.y p (at_output s count nearer i.unit i.port i.y input.x p a)) g.under

    less : hops_left units new < hops_left units old
    less =
        let a : inputs_left old.inputs ≡ suc i.last - i.x = ap inputs_left some in
        let b : inputs_left new.inputs ≡ suc i.last - (input.x + i.page) = ap inputs_left inputs in
        let c : length new.exits.items ≡ length old.exits.items = ap length exits in
        let d : 1 ≤ i.page = omega (arith, step, pow_pos u.page) in
        omega (arith, a, b, c, d, begun, at, found.from, found.to)

-- the inputs are gone through
pub inputs_gone : (s : Sought) (count place : ℕ) (nearer : List Hop) (units : List ℕ) (old new : HopCursor) (i : Inputs) (u : UnitPart) → IsSearchReady s → length nearer < count → place ≡ count - length nearer → IsCursor s count nearer units old → old.inputs ≡ Some i → unit_at s.net i.unit ≡ Some u → AreAllUseless s u place i → new.begun ≡ old.begun → new.unit ≡ old.unit → new.exits.items ≡ old.exits.items → new.at ≡ old.at → new.inputs ≡ None → LeavesInputs s count nearer units old new
inputs_gone s count place nearer units old new i u ready l here is some is_unit useless begun unit exits at inputs = record {
  cursor = record {
    bound = is.bound;
    left = subst (λ n. AreUnitsFrom s.net is.bound (drop n units)) (sym begun) is.left;
    each = subst (λ (es : List Exit). All (IsBelow s nearer new.unit is.bound) es) (sym left) (subst (λ n. All (IsBelow s nearer n is.bound) (drop old.at old.exits.items)) (sym unit) is.each);
    order = subst (λ (es : List Exit). Ascend es) (sym left) is.order;
    few = subst (λ (es : List Exit). length es < 2 ^ 64) (sym exits) is.few;
    inputs = subst (λ (o : Option Inputs). IfSome o (AreAtHand s count nearer new.unit is.bound (drop new.at new.exits.items))) (sym inputs) tt;
  };
  none = inputs;
  keeps = λ q t. keeps q t;
  fewer = (
      let a : inputs_left new.inputs ≡ 0 = ap inputs_left inputs in
      let c : length new.exits.items ≡ length old.exits.items = ap length exits in
      omega (arith, a, c, begun, at));
}
  where
    left : drop new.at new.exits.items ≡ drop old.at old.exits.items
    left = ap (λ n. drop n new.exits.items) at ∙ ap (λ (es : List Exit). drop old.at es) exits

    hand : AreAtHand s count nearer old.unit is.bound (drop old.at old.exits.items) i
    hand = subst (λ (o : Option Inputs). IfSome o (AreAtHand s count nearer old.unit is.bound (drop old.at old.exits.items))) some is.inputs

    range : IsInputRange s u i
    range = subst (λ (v : UnitPart). IsInputRange s v i) (same_unit s.net i.unit hand.inputs.u u hand.inputs.range.is_unit is_unit) hand.inputs.range

    keeps : (q : Place) → IsToCome s count nearer units old q → IsToCome s count nearer units new q
    keeps q (inl g) =
        let k : GoesByInput s count nearer i q = subst (λ (o : Option Inputs). GoesByInputs s count nearer o q) some g in
        absurd (none_sooner s count nearer i u place (suc i.last) ready l here range useless q k.x k.from (omega (arith, hand.inputs.most q k.x k.under k.from)) k.under)
    keeps q (inr (inl g)) = inr (inl (subst (λ (es : List Exit). GoesByExit s count nearer new.unit es q) (sym left) (subst (λ n. GoesByExit s count nearer n (drop old.at old.exits.items) q) (sym unit) g)))
    keeps q (inr (inr g)) = inr (inr (record { unit = g.unit; listed = subst (λ n. is_among g.unit (drop n units) ≡ true) (sym begun) g.listed; under = g.under }))

-- a cursor that has no inputs at hand
pub none_at_hand : (s : Sought) (count : ℕ) (nearer : List Hop) (units : List ℕ) (c : HopCursor) → IsCursor s count nearer units c → c.inputs ≡ None → LeavesInputs s count nearer units c c
none_at_hand s count nearer units c is none = record { cursor = is; none = none; keeps = λ q t. t; fewer = omega arith }

-- from one state to a later one

-- the cursor may have gone on, without giving a hop
pub record WentOn (s : Sought) (count : ℕ) (nearer : List Hop) (units : List ℕ) (old new : HopCursor) : Type 0 where
  pub cursor : IsCursor s count nearer units new
  pub keeps : (q : Place) → IsToCome s count nearer units old q → IsToCome s count nearer units new q
  pub fewer : hops_left units new ≤ hops_left units old

pub went_nowhere : (s : Sought) (count : ℕ) (nearer : List Hop) (units : List ℕ) (c : HopCursor) → IsCursor s count nearer units c → WentOn s count nearer units c c
went_nowhere s count nearer units c is = record { cursor = is; keeps = λ q t. t; fewer = omega arith }

pub went_on : (s : Sought) (count : ℕ) (nearer : List Hop) (units : List ℕ) (first old mid new : HopCursor) → WentOn s count nearer units first old → LeavesInputs s count nearer units old mid → GoesOnWithoutHop s count nearer units mid new → WentOn s count nearer units first new
went_on s count nearer units first old mid new a b c = record { cursor = c.cursor; keeps = λ q t. c.keeps q (b.keeps q (a.keeps q t)); fewer = omega (arith, a.fewer, b.fewer, c.fewer) }

pub then_gives : (s : Sought) (count : ℕ) (nearer : List Hop) (units : List ℕ) (first old new : HopCursor) (hop : Hop) → WentOn s count nearer units first old → GivesHop s count nearer units old new hop → GivesHop s count nearer units first new hop
then_gives s count nearer units first old new hop a b = record { cursor = b.cursor; chosen = b.chosen; parts = λ q t. b.parts q (a.keeps q t); later = b.later; fewer = omega (arith, a.fewer, b.fewer) }

pub then_none : (s : Sought) (count : ℕ) (nearer : List Hop) (units : List ℕ) (first old mid : HopCursor) → WentOn s count nearer units first old → LeavesInputs s count nearer units old mid → ((q : Place) → IsToCome s count nearer units mid q → ⊥) → (q : Place) → IsToCome s count nearer units first q → ⊥
then_none s count nearer units first old mid a b none q t = none q (b.keeps q (a.keeps q t))

-- a loop over the hops that a cursor gives

pub given_first : (s : Sought) (count : ℕ) (nearer : List Hop) (units : List ℕ) (old new : HopCursor) (hop : Hop) (p : Place) → AreAllToCome s count nearer units old → GivesHop s count nearer units old new hop → IsFirstUnder s (key_of_hops count (hop ∷ nearer)) p → IsFirstUnder s (key_of_hops count nearer) p
given_first s count nearer units old new hop p all gives f = record {
  is = of_unit f.is;
  least = λ q u. go q (gives.parts q (all q u));
}
  where
    of_unit : IsUnder s (key_of_hops count (hop ∷ nearer)) p → IsUnder s (key_of_hops count nearer) p
    of_unit u = weaker s (key_of_hops count nearer) hop.unit p (at_unit s count nearer hop.unit hop.port hop.y p (at_output s count nearer hop.unit hop.port hop.y hop.x p (at_input s count nearer hop.unit hop.port hop.y hop.x p u)))

    go : (q : Place) → IsUnder s (key_of_hops count (hop ∷ nearer)) q ⊎ IsToCome s count nearer units new q → precedes s.net q p ≡ false
    go q (inl u) = f.least q u
    go q (inr t) = gives.later p q f.is t

pub given_none : (s : Sought) (count : ℕ) (nearer : List Hop) (units : List ℕ) (old new : HopCursor) (hop : Hop) → AreAllToCome s count nearer units old → GivesHop s count nearer units old new hop → NoneUnder s (key_of_hops count (hop ∷ nearer)) → AreAllToCome s count nearer units new
given_none s count nearer units old new hop all gives none = λ q u. go q (gives.parts q (all q u))
  where
    go : (q : Place) → IsUnder s (key_of_hops count (hop ∷ nearer)) q ⊎ IsToCome s count nearer units new q → IsToCome s count nearer units new q
    go q (inl u) = absurd (none.none q u)
    go q (inr t) = t

pub given_all : (s : Sought) (count : ℕ) (nearer : List Hop) (units : List ℕ) (c : HopCursor) → AreAllToCome s count nearer units c → ((q : Place) → IsToCome s count nearer units c q → ⊥) → NoneUnder s (key_of_hops count nearer)
given_all s count nearer units c all none = record { none = λ q u. none q (all q u) }

-- the inputs of an output

-- the input with which a placement goes on
pub record HasInput (s : Sought) (count : ℕ) (nearer : List Hop) (unit port y : ℕ) (u : UnitPart) (q : Place) : Type 0 where
  pub x : ℕ
  pub under : IsUnder s (to_output count nearer unit port y ++ x ∷ []) q
  pub from : y % 2 ^ u.page ≤ x
  pub agree : x % 2 ^ u.page ≡ y % 2 ^ u.page
  pub within : x + s.request.size ≤ u.slots * 2 ^ u.page

pub has_input : (s : Sought) (count : ℕ) (nearer : List Hop) (unit port y : ℕ) (u : UnitPart) → length nearer < count → unit_at s.net unit ≡ Some u → (q : Place) → IsUnder s (to_output count nearer unit port y) q → HasInput s count nearer unit port y u q
has_input s count nearer unit port y u l e q v =
    let w = through_output s count nearer q unit port y u l e v in
    let k = w.through.joins in
    record {
      x = w.x;
      under = record { is = v.is; begins = (w.rest, w.key ∙ sym (one_more (to_output count nearer unit port y) w.x w.rest)) };
      from = omega (arith, k.agree, mod-le w.x (2 ^ u.page));
      agree = k.agree;
      within = k.within;
    }

-- where an address is asked for, it is the input that the address reaches
pub asked_input : (s : Sought) (count : ℕ) (nearer : List Hop) (unit port y x : ℕ) (entry : Option End) (z : End) → IsSearchReady s → IsEntry s.net s.request.agent s.at entry → length nearer < count → count ≡ suc (length nearer) → entry ≡ Some z → (q : Place) → IsUnder s (to_output count nearer unit port y ++ x ∷ []) q → x ≡ z.base
asked_input s count nearer unit port y x entry z ready e l one is q v = go (cases_order x z.base)
  where
    some : (a : End) → Some z ≡ None → ⊥
    some a p = cc

    bases : (a : End) → Some z ≡ Some a → z.base ≡ a.base
    bases a p = cc

    differ : (x ≡ z.base → ⊥) → x ≡ z.base
    differ f = absurd ((not_entered s count nearer unit port y x entry ready e l one (λ p. some z (sym is ∙ p)) (λ a p b. f (sym b ∙ sym (bases a (sym is ∙ p))))).none q v)

    go : (x ≡ z.base) ⊎ ((x < z.base) ⊎ (z.base < x)) → x ≡ z.base
    go (inl p) = p
    go (inr (inl m)) = differ (λ p. omega arith)
    go (inr (inr m)) = differ (λ p. omega arith)

-- the inputs at hand are those of a unit that is there
pub hand_range : (s : Sought) (count : ℕ) (nearer : List Hop) (units : List ℕ) (c : HopCursor) (i : Inputs) → IsCursor s count nearer units c → c.inputs ≡ Some i → HasRange s i
hand_range s count nearer units c i is some = let hand : AreAtHand s count nearer c.unit is.bound (drop c.at c.exits.items) i = subst (λ (o : Option Inputs). IfSome o (AreAtHand s count nearer c.unit is.bound (drop c.at c.exits.items))) some is.inputs in record { u = hand.inputs.u; range = hand.inputs.range }

-- no outputs of a unit, where no placement goes on with it
pub no_exits : (s : Sought) (count : ℕ) (nearer : List Hop) (unit : ℕ) → NoneUnder s (to_unit count nearer unit) → AreExitsOf s count nearer unit []
no_exits s count nearer unit none = record { each = All-nil (λ (e : Exit). IsOutputIn s nearer unit e.port e.y); order = tt; all = λ q u. absurd (none.none q u) }

-- the output with which a placement goes on
pub record HasOutput (s : Sought) (count : ℕ) (nearer : List Hop) (unit : ℕ) (q : Place) : Type 0 where
  pub port : ℕ
  pub y : ℕ
  pub under : IsUnder s (to_output count nearer unit port y) q

unit_output : (s : Sought) (count : ℕ) (nearer : List Hop) (unit : ℕ) (q : Place) → length nearer < count → IsUnder s (to_unit count nearer unit) q → HasOutput s count nearer unit q
unit_output s count nearer unit q l v = record {
  port = hop.port;
  y = hop.y;
  under = record { is = v.is; begins = (hop.x ∷ w.opens.rest, key) };
}
  where
    w : Next s count nearer q (unit ∷ [])
    w = next_of s count nearer q (unit ∷ []) l v

    hop : Hop
    hop = w.opens.hop

    key : key_of s.net q ≡ to_output count nearer unit hop.port hop.y ++ (hop.x ∷ w.opens.rest)
    key =
        w.opens.key
        ∙ ap (λ n. key_of_hops count nearer ++ (n ∷ hop.port ∷ hop.y ∷ hop.x ∷ w.opens.rest)) (unit_of s count nearer q unit w)
        ∙ sym (one_more (key_of_hops count nearer) unit (hop.port ∷ hop.y ∷ hop.x ∷ w.opens.rest))
        ∙ sym (one_more (to_unit count nearer unit) hop.port (hop.y ∷ hop.x ∷ w.opens.rest))
        ∙ sym (one_more (to_port count nearer unit hop.port) hop.y (hop.x ∷ w.opens.rest))

-- the outputs of a unit that lead on
pub exits_are : (s : Sought) (count : ℕ) (nearer : List Hop) (unit : ℕ) (u : UnitPart) (exits : List Exit) → IsSearchReady s → length nearer < count → unit_at s.net unit ≡ Some u → AreOutputs s.net u s.request nearer exits → AreExitsOf s count nearer unit exits
exits_are s count nearer unit u exits ready l e are = record {
  each = All-weaker (IsRankedOutput s.net u s.request nearer) (λ (x : Exit). IsOutputIn s nearer unit x.port x.y) (λ x r. record { u = u; is_unit = e; leads = r.gives }) exits are.each;
  order = are.order;
  all = λ q v. go q (unit_output s count nearer unit q l v);
}
  where
    go : (q : Place) → HasOutput s count nearer unit q → GoesByExit s count nearer unit exits q
    go q w =
        let j = (through_output s count nearer q unit w.port w.y u l e w.under).through.joins in
        record {
          port = w.port;
          y = w.y;
          listed = are.all w.port w.y (record { node = j.node; is_port = j.is_port; reached = j.reached; meets = j.meets }) (alone nearer w.port w.y q l w.under);
          under = w.under;
        }
      where
        alone : (hops : List Hop) (port y : ℕ) (q : Place) → length hops < count → IsUnder s (to_output count hops unit port y) q → IsAloneBefore s.net u s.request hops port y
        alone [] port y q m v = λ node block p blocks beside. (not_whole s count unit port node y block beside.place beside.address (name_of_end beside.name) u ready blocks (omega arith) e p beside.below beside.inside beside.apart beside.resolves).none q v
        alone (hop ∷ hops) port y q m v = tt

-- inputs of which none serves, and then those up to another
pub useless_on : (s : Sought) (u : UnitPart) (place unit port y from x to : ℕ) → AreUseless s u place (record { unit = unit; port = port; x = from; y = y }) x → AreUseless s u place (record { unit = unit; port = port; x = x; y = y }) to → x % 2 ^ u.page ≡ from % 2 ^ u.page → AreUseless s u place (record { unit = unit; port = port; x = from; y = y }) to
useless_on s u place unit port y from x to old new same = λ z a b e. go z a b e (cases_lt z x)
  where
    go : (z : ℕ) → from ≤ z → z < to → z % 2 ^ u.page ≡ from % 2 ^ u.page → (z < x) ⊎ (x ≤ z) → IsUseless s u place (record { unit = unit; port = port; x = from; y = y }) z
    go z a b e (inl l) = old z a l e
    go z a b e (inr l) = new z l b (e ∙ sym same)

-- the next output of the unit
pub next_output : (s : Sought) (count : ℕ) (nearer : List Hop) (units : List ℕ) (c : HopCursor) (e : Exit) → IsCursor s count nearer units c → drop c.at c.exits.items ≡ e ∷ drop (c.at + 1) c.exits.items → IsOutputIn s nearer c.unit e.port e.y
next_output s count nearer units c e is rest = (All-head (IsBelow s nearer c.unit is.bound) e (drop (c.at + 1) c.exits.items) (subst (λ (es : List Exit). All (IsBelow s nearer c.unit is.bound) es) rest is.each)).output

-- all inputs that an output may have, in steps of the page

pub all_inputs : (s : Sought) (count : ℕ) (nearer : List Hop) (unit port y page last handed : ℕ) (u : UnitPart) → IsSearchReady s → length nearer < count → unit_at s.net unit ≡ Some u → IsOutput s.net u s.request nearer port y → page ≡ 2 ^ u.page → last + s.request.size ≡ u.slots * 2 ^ u.page → AreInputs s count nearer (record { unit = unit; port = port; y = y; page = page; x = y % page; last = last; free = 0; handed = handed })
all_inputs s count nearer unit port y page last handed u ready l is output step end = record {
  u = u;
  range = record {
    is_unit = is;
    page = step;
    agree = ap (λ n. y % n % 2 ^ u.page) step ∙ mod-mod y (2 ^ u.page);
    few = omega (arith, mod-le y page, power_below u.reach bounds.reach, output.reached);
    within = omega (arith, end);
    reached = output.reached;
    free = none_free s.slots unit (y % page / 2 ^ u.page);
  };
  output = output;
  most = λ q x v m. let k = (x_of s count nearer unit port y x u l is q v).joins.within in omega (arith, k, end);
}
  where
    bounds : HasUnitBounds s.net u
    bounds = ready.bounds unit u is

pub all_inputs_go : (s : Sought) (count : ℕ) (nearer : List Hop) (unit port y page last handed : ℕ) (u : UnitPart) → length nearer < count → unit_at s.net unit ≡ Some u → page ≡ 2 ^ u.page → (q : Place) → IsUnder s (to_output count nearer unit port y) q → GoesByInput s count nearer (record { unit = unit; port = port; y = y; page = page; x = y % page; last = last; free = 0; handed = handed }) q
all_inputs_go s count nearer unit port y page last handed u l is step q v =
    let w = has_input s count nearer unit port y u l is q v in
    record { x = w.x; from = subst (λ n. y % n ≤ w.x) (sym step) w.from; under = w.under }

-- the one input that the address asked for reaches

pub one_input : (s : Sought) (count : ℕ) (nearer : List Hop) (unit port y page last handed : ℕ) (u : UnitPart) (entry : Option End) (z : End) → IsSearchReady s → IsEntry s.net s.request.agent s.at entry → length nearer < count → count ≡ suc (length nearer) → entry ≡ Some z → unit_at s.net unit ≡ Some u → IsOutput s.net u s.request nearer port y → page ≡ 2 ^ u.page → last + s.request.size ≡ u.slots * 2 ^ u.page → z.base ≤ last → z.base % page ≡ y % page → AreInputs s count nearer (record { unit = unit; port = port; y = y; page = page; x = z.base; last = z.base; free = 0; handed = handed })
one_input s count nearer unit port y page last handed u entry z ready e l one some is output step end low agree = record {
  u = u;
  range = record {
    is_unit = is;
    page = step;
    agree = subst (λ n. z.base % n ≡ y % n) step agree;
    few = omega (arith, low, end, input_bound u.slots u.page bounds.page bounds.few);
    within = omega (arith, low, end);
    reached = output.reached;
    free = none_free s.slots unit (z.base / 2 ^ u.page);
  };
  output = output;
  most = λ q x v m. let k : x ≡ z.base = asked_input s count nearer unit port y x entry z ready e l one some q v in omega (arith, k);
}
  where
    bounds : HasUnitBounds s.net u
    bounds = ready.bounds unit u is

pub one_input_goes : (s : Sought) (count : ℕ) (nearer : List Hop) (unit port y page handed : ℕ) (u : UnitPart) (entry : Option End) (z : End) → IsSearchReady s → IsEntry s.net s.request.agent s.at entry → length nearer < count → count ≡ suc (length nearer) → entry ≡ Some z → unit_at s.net unit ≡ Some u → (q : Place) → IsUnder s (to_output count nearer unit port y) q → GoesByInput s count nearer (record { unit = unit; port = port; y = y; page = page; x = z.base; last = z.base; free = 0; handed = handed }) q
one_input_goes s count nearer unit port y page handed u entry z ready e l one some is q v =
    let w = has_input s count nearer unit port y u l is q v in
    let k : w.x ≡ z.base = asked_input s count nearer unit port y w.x entry z ready e l one some q w.under in
    record { x = w.x; from = omega (arith, k); under = w.under }

pub none_asked_for : (s : Sought) (count : ℕ) (nearer : List Hop) (unit port y page last : ℕ) (u : UnitPart) (entry : Option End) (z : End) → IsSearchReady s → IsEntry s.net s.request.agent s.at entry → length nearer < count → count ≡ suc (length nearer) → entry ≡ Some z → unit_at s.net unit ≡ Some u → page ≡ 2 ^ u.page → last + s.request.size ≡ u.slots * 2 ^ u.page → (z.base ≤ last → z.base % page ≡ y % page → ⊥) → (q : Place) → IsUnder s (to_output count nearer unit port y) q → ⊥
none_asked_for s count nearer unit port y page last u entry z ready e l one some is step end none q v =
    let w = has_input s count nearer unit port y u l is q v in
    let k : w.x ≡ z.base = asked_input s count nearer unit port y w.x entry z ready e l one some q w.under in
    none (omega (arith, k, w.within, end)) (subst (λ n. z.base % n ≡ y % n) (sym step) (subst (λ n. n % 2 ^ u.page ≡ y % 2 ^ u.page) k w.agree))

-- slots for fewer addresses than are asked for have no input
pub none_fits : (s : Sought) (count : ℕ) (nearer : List Hop) (unit port y : ℕ) (u : UnitPart) → length nearer < count → unit_at s.net unit ≡ Some u → u.slots * 2 ^ u.page < s.request.size → (q : Place) → IsUnder s (to_output count nearer unit port y) q → ⊥
none_fits s count nearer unit port y u l is small q v = let w = has_input s count nearer unit port y u l is q v in omega (arith, w.within, small)

-- the one of the inputs that is chosen, if it is among them

pub chosen_inputs : (s : Sought) (count : ℕ) (nearer : List Hop) (o : Option Inputs) (j : Inputs) (low agree : Type 0) → IfSome o (λ i. i ≡ j) → IfSome o (λ i. low) → IfSome o (λ i. agree) → (low → agree → AreInputs s count nearer j) → IfSome o (λ i. AreInputs s count nearer i)
chosen_inputs s count nearer None j low agree e a b f = tt
chosen_inputs s count nearer (Some i) j low agree e a b f = subst (λ (k : Inputs). AreInputs s count nearer k) (sym e) (f a b)

pub chosen_go : (s : Sought) (count : ℕ) (nearer : List Hop) (o : Option Inputs) (j : Inputs) (low agree : Type 0) (q : Place) → IfSome o (λ i. i ≡ j) → IfNone o (low → agree → ⊥) → ((low → agree → ⊥) → ⊥) → GoesByInput s count nearer j q → GoesByInputs s count nearer o q
chosen_go s count nearer None j low agree q e n k g = k n
chosen_go s count nearer (Some i) j low agree q e n k g = subst (λ (k : Inputs). GoesByInput s count nearer k q) (sym e) g

-- the input after one of them fits its type
pub past_fits : (s : Sought) (count place : ℕ) (nearer : List Hop) (units : List ℕ) (c : HopCursor) (i : Inputs) (input : Input) → IsSearchReady s → IsCursor s count nearer units c → c.inputs ≡ Some i → IsNextUsable s place i input → input.x + i.page < 18446744073709551616
past_fits s count place nearer units c i input ready is some found =
    let w = hand_range s count nearer units c i is some in
    let f = ready.bounds i.unit w.u w.range.is_unit in
    omega (arith, found.found.to, w.range.within, w.range.page, page_few w.u.page f.page, input_bound w.u.slots w.u.page f.page f.few)

-- units that are passed over

-- what is listed from a place on stands before a later place, or is listed from that on
among_past : (units : List ℕ) (d i n : ℕ) → is_among n (drop i units) ≡ true → ((k : ℕ) × (i ≤ k) × (k < i + d) × (get_or units k 0 ≡ n)) ⊎ (is_among n (drop (i + d) units) ≡ true)
among_past units zero i n t = inr (subst (λ k. is_among n (drop k units) ≡ true) (omega arith) t)
among_past units (suc d) i n t = at (λ u. among_past units d (suc i) n u) (cases_lt i (length units))
  where
    later : ((k : ℕ) × (suc i ≤ k) × (k < suc i + d) × (get_or units k 0 ≡ n)) ⊎ (is_among n (drop (suc i + d) units) ≡ true) → ((k : ℕ) × (i ≤ k) × (k < i + suc d) × (get_or units k 0 ≡ n)) ⊎ (is_among n (drop (i + suc d) units) ≡ true)
    later (inl k) = inl (k.0, (let a : suc i ≤ k.0 = k.1 in omega arith), (let b : k.0 < suc i + d = k.2 in omega arith), k.3)
    later (inr u) = inr (subst (λ k. is_among n (drop k units) ≡ true) (omega arith) u)

    head : (is_among n (drop (suc i) units) ≡ true → ((k : ℕ) × (suc i ≤ k) × (k < suc i + d) × (get_or units k 0 ≡ n)) ⊎ (is_among n (drop (suc i + d) units) ≡ true)) → (nat_eq (get_or units i 0) n ≡ true) ⊎ (is_among n (drop (suc i) units) ≡ true) → ((k : ℕ) × (i ≤ k) × (k < i + suc d) × (get_or units k 0 ≡ n)) ⊎ (is_among n (drop (i + suc d) units) ≡ true)
    head on (inl e) = inl (i, (omega arith), (omega arith), eqb-true (get_or units i 0) n e)
    head on (inr u) = later (on u)

    at : (is_among n (drop (suc i) units) ≡ true → ((k : ℕ) × (suc i ≤ k) × (k < suc i + d) × (get_or units k 0 ≡ n)) ⊎ (is_among n (drop (suc i + d) units) ≡ true)) → (i < length units) ⊎ (length units ≤ i) → ((k : ℕ) × (i ≤ k) × (k < i + suc d) × (get_or units k 0 ≡ n)) ⊎ (is_among n (drop (i + suc d) units) ≡ true)
    at on (inl l) = head on (or_cases (nat_eq (get_or units i 0) n) (is_among n (drop (suc i) units)) (subst (λ (us : List ℕ). is_among n us ≡ true) (drop-cons units i 0 l) t))
    at on (inr l) = absurd (false≢true (subst (λ (us : List ℕ). is_among n us ≡ true) (drop_of_length-le units l) t))

-- the units from a later place on are all from a later bound on
record UnitsPast (net : List NodeDecl) (bound : ℕ) (rest : List ℕ) : Type 0 where
  later : ℕ
  from : bound ≤ later
  left : AreUnitsFrom net later rest

units_past : (net : List NodeDecl) (units : List ℕ) (d i bound : ℕ) → AreUnitsFrom net bound (drop i units) → UnitsPast net bound (drop (i + d) units)
units_past net units zero i bound a = record { later = bound; from = omega arith; left = subst (λ k. AreUnitsFrom net bound (drop k units)) (omega arith) a }
units_past net units (suc d) i bound a = at (λ b r. units_past net units d (suc i) b r) (cases_lt i (length units))
  where
    next : i + suc d ≡ suc i + d
    next = omega arith

    on : (m : ℕ) → bound ≤ m → UnitsPast net (suc m) (drop (suc i + d) units) → UnitsPast net bound (drop (i + suc d) units)
    on m l w = record { later = w.later; from = omega (arith, w.from); left = subst (λ k. AreUnitsFrom net w.later (drop k units)) (sym next) w.left }

    at : ((b : ℕ) → AreUnitsFrom net b (drop (suc i) units) → UnitsPast net b (drop (suc i + d) units)) → (i < length units) ⊎ (length units ≤ i) → UnitsPast net bound (drop (i + suc d) units)
    at rec (inl l) = let r = subst (λ (us : List ℕ). AreUnitsFrom net bound us) (drop-cons units i 0 l) a in on (get_or units i 0) r.0 (rec (suc (get_or units i 0)) r.2)
    at rec (inr l) = record { later = bound; from = omega arith; left = subst (λ (us : List ℕ). AreUnitsFrom net bound us) (drop_of_length-le units l ∙ sym (drop_of_length-le units (omega (arith, l)))) a }

-- units in which no hop can stand are passed over
pub units_skipped : (s : Sought) (count place : ℕ) (nearer : List Hop) (units : List ℕ) (old : HopCursor) (to : ℕ) (first second third : List Bool) → IsSearchReady s → AreMarked s.net s.request.agent first second third → length nearer < count → count ≤ 3 → place ≡ count - length nearer → IsCursor s count nearer units old → old.inputs ≡ None → length old.exits.items ≤ old.at → old.begun ≤ to → ((k : ℕ) → old.begun ≤ k → k < to → mark_at first second third place (get_or units k 0) ≡ false) → LeavesInputs s count nearer units old (record { begun = to; unit = old.unit; exits = old.exits; at = old.at; inputs = old.inputs })
units_skipped s count place nearer units old to first second third ready marked l most here is none past onward unmarked_all = record {
  cursor = record {
    bound = w.later;
    left = subst (λ k. AreUnitsFrom s.net w.later (drop k units)) far w.left;
    each = subst (λ (es : List Exit). All (IsBelow s nearer old.unit w.later) es) (sym gone) (All-nil (IsBelow s nearer old.unit w.later));
    order = subst (λ (es : List Exit). Ascend es) (sym gone) tt;
    few = is.few;
    inputs = subst (λ (o : Option Inputs). IfSome o (AreAtHand s count nearer old.unit w.later (drop old.at old.exits.items))) (sym none) tt;
  };
  none = none;
  keeps = λ q t. keeps q t;
  fewer = omega (arith, onward);
}
  where
    far : old.begun + (to - old.begun) ≡ to
    far = omega arith

    gone : drop old.at old.exits.items ≡ []
    gone = drop_of_length-le old.exits.items past

    w : UnitsPast s.net is.bound (drop (old.begun + (to - old.begun)) units)
    w = units_past s.net units (to - old.begun) old.begun is.bound is.left

    by_unit_past : (q : Place) (n : ℕ) → IsUnder s (to_unit count nearer n) q → ((k : ℕ) × (old.begun ≤ k) × (k < old.begun + (to - old.begun)) × (get_or units k 0 ≡ n)) ⊎ (is_among n (drop (old.begun + (to - old.begun)) units) ≡ true) → GoesByUnit s count nearer (drop to units) q
    by_unit_past q n u (inl k) = absurd ((unmarked s count nearer n place first second third ready marked l most here (subst (λ m. mark_at first second third place m ≡ false) k.3 (unmarked_all k.0 k.1 (let b : k.0 < old.begun + (to - old.begun) = k.2 in omega (arith, far))))).none q u)
    by_unit_past q n u (inr t) = record { unit = n; listed = subst (λ k. is_among n (drop k units) ≡ true) far t; under = u }

    keeps : (q : Place) → IsToCome s count nearer units old q → IsToCome s count nearer units (record { begun = to; unit = old.unit; exits = old.exits; at = old.at; inputs = old.inputs }) q
    keeps q (inl g) = inl g
    keeps q (inr (inl g)) = inr (inl g)
    keeps q (inr (inr g)) = inr (inr (by_unit_past q g.unit g.under (among_past units (to - old.begun) old.begun g.unit g.listed)))

-- none is left: no inputs, no outputs, no units
pub none_to_come : (s : Sought) (count : ℕ) (nearer : List Hop) (units : List ℕ) (c : HopCursor) → c.inputs ≡ None → length c.exits.items ≤ c.at → length units ≤ c.begun → (q : Place) → IsToCome s count nearer units c q → ⊥
none_to_come s count nearer units c none past done q (inl g) = subst (λ (o : Option Inputs). GoesByInputs s count nearer o q) none g
none_to_come s count nearer units c none past done q (inr (inl g)) = false≢true (subst (λ (es : List Exit). has_exit g.port g.y es ≡ true) (drop_of_length-le c.exits.items past) g.listed)
none_to_come s count nearer units c none past done q (inr (inr g)) = false≢true (subst (λ (us : List ℕ). is_among g.unit us ≡ true) (drop_of_length-le units done) g.listed)
