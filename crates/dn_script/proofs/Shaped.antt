-- The unit that breaks the rule on shapes is there, and units that keep it have kinds that are there.
use Rattle.std.proofs.Common.{◌≡◌, refl, arith, ℕ, zero, suc, ◌+◌, ◌<◌, Bool, true, false, if◌then◌else◌, List, [], ◌∷◌, length, slice_get, Option, IfSome, Some, None, IsTrue, lt-ltb}
use Rattle.std.proofs.lemmas.Bool.{and_parts}
use Rattle.std.proofs.lemmas.Option.{none-some, same_Some}
use Rattle.std.specs.List.{list_all}
use Rattle.dn_base.proofs.Booleans.{and_from}
use Rattle.dn_net.specs.declared.node.NodeDecl.{NodeDecl}
use Rattle.dn_net.specs.declared.node.Unit.{Unit as UnitPart}
use Rattle.dn_kind.specs.Kind.{Meaning, is_plain_unit_shape}
use Rattle.dn_kind.specs.Units.{KeepsUnitShape, fits_shape, has_kind, has_shape, shape_fault, shape_fault_from, unit_shape}
use Rattle.dn_kind.proofs.Shapes.{shape_fault_is_first}

-- a fault names one of the nodes
fault_from : (kinds : List Meaning) (number : ℕ) (net : List NodeDecl) (n : ℕ) → shape_fault_from kinds number net ≡ Some n → n < number + length net
fault_from kinds number [] n e = absurd (none-some n e)
fault_from kinds number (d ∷ ds) n e = go (fault_from kinds (number + 1) ds n) (has_shape kinds d.unit) e
  where
    go : (shape_fault_from kinds (number + 1) ds ≡ Some n → n < number + 1 + length ds) → (b : Bool) → (if b then shape_fault_from kinds (number + 1) ds else Some number) ≡ Some n → n < number + length (d ∷ ds)
    go later true f = let l = later f in omega arith
    go later false f = let s : number ≡ n = same_Some number n f in omega arith

-- the unit that breaks the rule is there
pub shape_fault_within : (kinds : List Meaning) (net : List NodeDecl) (v : Option ℕ) → IfSome v (λ n. shape_fault kinds net ≡ Some n) → IfSome v (λ n. n < length net)
shape_fault_within kinds net None h = tt
shape_fault_within kinds net (Some n) h = let l = fault_from kinds 0 net n h in omega arith

-- a kind that fits is there
there : (kinds : List Meaning) (k : ℕ) (u : UnitPart) → fits_shape (slice_get kinds k) (unit_shape u) ≡ true → k < length kinds
there [] k u e = cc
there (m ∷ ms) zero u e = omega arith
there (m ∷ ms) (suc k) u e = let l = there ms k u e in omega arith

-- a unit that keeps the rule has a kind that is there
kind_there : (kinds : List Meaning) (o : Option UnitPart) → has_shape kinds o ≡ true → IsTrue (has_kind (length kinds) o)
kind_there kinds None e = refl
kind_there kinds (Some u) e =
    lt-ltb u.kind (length kinds) (there kinds u.kind u (and_parts (is_plain_unit_shape (unit_shape u)) (fits_shape (slice_get kinds u.kind) (unit_shape u)) e).1)

kinds_from : (kinds : List Meaning) (number : ℕ) (net : List NodeDecl) → shape_fault_from kinds number net ≡ None → IsTrue (list_all (λ n. has_kind (length kinds) n.unit) net)
kinds_from kinds number [] e = refl
kinds_from kinds number (d ∷ ds) e = go (kinds_from kinds (number + 1) ds) (has_shape kinds d.unit) refl e
  where
    go : (shape_fault_from kinds (number + 1) ds ≡ None → IsTrue (list_all (λ n. has_kind (length kinds) n.unit) ds)) → (b : Bool) → has_shape kinds d.unit ≡ b → (if b then shape_fault_from kinds (number + 1) ds else Some number) ≡ None → IsTrue (list_all (λ n. has_kind (length kinds) n.unit) (d ∷ ds))
    go later true is f = and_from _ _ (kind_there kinds d.unit is) (later f)
    go later false is f = cc

-- the kind of each unit is there where each unit keeps the rule
pub kinds_fit : (kinds : List Meaning) (net : List NodeDecl) → KeepsUnitShape kinds net → IsTrue (list_all (λ n. has_kind (length kinds) n.unit) net)
kinds_fit kinds net fit = kinds_from kinds 0 net ((shape_fault_is_first kinds net).0.1 fit)
