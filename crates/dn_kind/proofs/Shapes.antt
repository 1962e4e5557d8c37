-- The rule on units, node by node.
use Rattle.std.proofs.Common.{◌≡◌, ℕ, zero, suc, ◌+◌, ◌<◌, ◌≤◌, Bool, true, false, if◌then◌else◌, List, [], ◌∷◌, drop, length, slice_get, Option, Some, None, option_map, IsTrue, refl, sym, ap, ◌∙◌, subst, arith}
use Rattle.std.specs.List.{list_all}
use Rattle.std.proofs.lemmas.Bool.{and_parts}
use Rattle.std.proofs.lemmas.List.{at_drop_all}
use Rattle.dn_net.specs.declared.node.NodeDecl.{NodeDecl}
use Rattle.dn_net.specs.declared.node.Unit.{Unit as UnitPart}
use Rattle.dn_net.specs.Decode.{unit_at}
use Rattle.dn_net.specs.Units.{has_plain_units}
use Rattle.dn_net.proofs.Members.{some_same}
use Rattle.dn_net.proofs.Plain.{plain_each}
use Rattle.dn_kind.specs.Kind.{Meaning, is_plain_unit_shape}
use Rattle.dn_kind.specs.Units.{unit_shape, fits_shape, is_shaped, has_shape, has_kind, shape_fault, shape_fault_from, IsFirstMisshapen, ShapeFaultIsFirst}

-- the unit of a node has one of the kinds where that of each node has
pub kind_known : (count : ℕ) (net : List NodeDecl) (i : ℕ) (o : Option UnitPart) → IsTrue (list_all (λ n. has_kind count n.unit) net) → option_map (λ d. d.unit) (slice_get net i) ≡ Some o → IsTrue (has_kind count o)
kind_known count [] i o all at = cc
kind_known count (n ∷ ns) zero o all at =
    let e : n.unit ≡ o = cc in
    subst (λ p. IsTrue (has_kind count p)) e (and_parts (has_kind count n.unit) (list_all (λ m. has_kind count m.unit) ns) all).0
kind_known count (n ∷ ns) (suc i) o all at = kind_known count ns i o (and_parts (has_kind count n.unit) (list_all (λ m. has_kind count m.unit) ns) all).1 at

-- the fault from a node on, by whether that node keeps the rule
pub fault_from : (kinds : List Meaning) (number i : ℕ) (net : List NodeDecl) (o : Option UnitPart) → option_map (λ d. d.unit) (slice_get net i) ≡ Some o → shape_fault_from kinds number (drop i net) ≡ (if has_shape kinds o then shape_fault_from kinds (number + 1) (drop (i + 1) net) else Some number)
fault_from kinds number i [] o at = cc
fault_from kinds number zero (n ∷ ns) o at =
    let e : n.unit ≡ o = cc in
    ap (λ p. if has_shape kinds p then shape_fault_from kinds (number + 1) ns else Some number) e
fault_from kinds number (suc i) (n ∷ ns) o at =
    let e : suc i + 1 ≡ suc (i + 1) = omega arith in
    fault_from kinds number i ns o at
    ∙ ap (λ k. if has_shape kinds o then shape_fault_from kinds (number + 1) (drop k (n ∷ ns)) else Some number) (sym e)

-- a node that keeps the rule is passed over
pub fault_later : (kinds : List Meaning) (number : ℕ) (net : List NodeDecl) (o : Option UnitPart) → option_map (λ d. d.unit) (slice_get net number) ≡ Some o → has_shape kinds o ≡ true → shape_fault_from kinds number (drop number net) ≡ shape_fault_from kinds (number + 1) (drop (number + 1) net)
fault_later kinds number net o at kept =
    fault_from kinds number number net o at
    ∙ ap (λ b. if b then shape_fault_from kinds (number + 1) (drop (number + 1) net) else Some number) kept

-- one that breaks it is the fault
pub fault_here : (kinds : List Meaning) (number : ℕ) (net : List NodeDecl) (o : Option UnitPart) → option_map (λ d. d.unit) (slice_get net number) ≡ Some o → has_shape kinds o ≡ false → shape_fault_from kinds number (drop number net) ≡ Some number
fault_here kinds number net o at broken =
    fault_from kinds number number net o at
    ∙ ap (λ b. if b then shape_fault_from kinds (number + 1) (drop (number + 1) net) else Some number) broken

-- and past the last node there is none
pub fault_past : (kinds : List Meaning) (number : ℕ) (net : List NodeDecl) → length net ≤ number → shape_fault_from kinds number (drop number net) ≡ None
fault_past kinds number net l = at_drop_all (λ ns. shape_fault_from kinds number ns) net number l

-- what holds of a unit, where it holds of the node that is one
shaped_at : (kinds : List Meaning) (o p : Option UnitPart) → o ≡ p → (b : Bool) → has_shape kinds p ≡ b → (u : UnitPart) → o ≡ Some u → is_shaped kinds u ≡ b
shaped_at kinds o None e b h u at = let f : ◌≡◌ {A = Option UnitPart} None (Some u) = sym e ∙ at in cc
shaped_at kinds o (Some v) e b h u at =
    let f : v ≡ u = some_same v u (sym e ∙ at) in
    subst (λ w. is_shaped kinds w ≡ b) f h

-- every unit of the rest keeps the rule where the rest has no fault
kept_from : (kinds : List Meaning) (number : ℕ) (net : List NodeDecl) → shape_fault_from kinds number net ≡ None → (i : ℕ) (u : UnitPart) → unit_at net i ≡ Some u → IsTrue (is_shaped kinds u)
kept_from kinds number [] h i u at = cc
kept_from kinds number (n ∷ ns) h i u at = by (kept_from kinds (number + 1) ns) (has_shape kinds n.unit) refl h i u at
  where
    by : (shape_fault_from kinds (number + 1) ns ≡ None → (i : ℕ) (u : UnitPart) → unit_at ns i ≡ Some u → IsTrue (is_shaped kinds u)) → (b : Bool) → has_shape kinds n.unit ≡ b → (if b then shape_fault_from kinds (number + 1) ns else Some number) ≡ None → (i : ℕ) (u : UnitPart) → unit_at (n ∷ ns) i ≡ Some u → IsTrue (is_shaped kinds u)
    by rest true e h zero u at = shaped_at kinds n.unit n.unit refl true e u at
    by rest true e h (suc i) u at = rest h i u at
    by rest false e h i u at = cc

-- and the rest has no fault where every unit of it keeps the rule
none_from : (kinds : List Meaning) (number : ℕ) (net : List NodeDecl) → ((i : ℕ) (u : UnitPart) → unit_at net i ≡ Some u → IsTrue (is_shaped kinds u)) → shape_fault_from kinds number net ≡ None
none_from kinds number [] kept = refl
none_from kinds number (n ∷ ns) kept =
    ap (λ b. if b then shape_fault_from kinds (number + 1) ns else Some number) (by n.unit refl)
    ∙ none_from kinds (number + 1) ns (λ i u at. kept (suc i) u at)
  where
    by : (o : Option UnitPart) → n.unit ≡ o → has_shape kinds n.unit ≡ true
    by None e = ap (has_shape kinds) e
    by (Some u) e = ap (has_shape kinds) e ∙ kept 0 u e

-- a fault of the rest is its first unit that breaks the rule
first_from : (kinds : List Meaning) (number : ℕ) (net : List NodeDecl) (n : ℕ) → shape_fault_from kinds number net ≡ Some n → (i : ℕ) × (n ≡ number + i) × IsFirstMisshapen kinds net i
first_from kinds number [] n h = cc
first_from kinds number (d ∷ ds) n h = by (first_from kinds (number + 1) ds n) (has_shape kinds d.unit) refl h
  where
    broken : (o : Option UnitPart) → d.unit ≡ o → has_shape kinds o ≡ false → (u : UnitPart) × (d.unit ≡ Some u) × (is_shaped kinds u ≡ false)
    broken None e f = cc
    broken (Some u) e f = (u, e, f)

    less : has_shape kinds d.unit ≡ true → (i : ℕ) → IsFirstMisshapen kinds ds i → (m : ℕ) (u : UnitPart) → m < suc i → unit_at (d ∷ ds) m ≡ Some u → IsTrue (is_shaped kinds u)
    less e i f zero u l at = shaped_at kinds d.unit d.unit refl true e u at
    less e i f (suc m) u l at = f.none_less m u (omega arith) at

    by : (shape_fault_from kinds (number + 1) ds ≡ Some n → (i : ℕ) × (n ≡ number + 1 + i) × IsFirstMisshapen kinds ds i) → (b : Bool) → has_shape kinds d.unit ≡ b → (if b then shape_fault_from kinds (number + 1) ds else Some number) ≡ Some n → (i : ℕ) × (n ≡ number + i) × IsFirstMisshapen kinds (d ∷ ds) i
    by rest false e h = let f : number ≡ n = some_same number n h in (0, (omega arith), record { broken = broken d.unit refl e; none_less = λ m u l at. absurd (omega arith) })
    by rest true e h =
        let r = rest h in
        let f : n ≡ number + 1 + r.0 = r.1 in
        let first : IsFirstMisshapen kinds ds r.0 = r.2 in
        (suc r.0, (omega arith), record { broken = first.broken; none_less = less e r.0 first })

pub shape_fault_is_first : ShapeFaultIsFirst
shape_fault_is_first kinds net = (
  ((λ h. record { shaped = kept_from kinds 0 net h }), (λ k. none_from kinds 0 net k.shaped)),
  (λ n h. let r = first_from kinds 0 net n h in let e : r.0 ≡ n = omega (arith, r.1) in subst (IsFirstMisshapen kinds net) e r.2),
)

-- where no unit breaks the rule, each has a plain shape
pub shaped_plain : (kinds : List Meaning) (net : List NodeDecl) → shape_fault kinds net ≡ None → IsTrue (has_plain_units net)
shaped_plain kinds net h = plain_each net (λ n u at. (and_parts (is_plain_unit_shape (unit_shape u)) (fits_shape (slice_get kinds u.kind) (unit_shape u)) (((shape_fault_is_first kinds net).0.0 h).shaped n u at)).0)
