-- The rule on units: each has a shape that a unit may have, and that its kind fits.
use Rattle.std.specs.Prelude.{◌≡◌, ℕ, ◌+◌, ◌<◌, ◌↔◌, Bool, true, false, if◌then◌else◌, ◌&&◌, nat_lt, List, [], ◌∷◌, length, slice_get, Option, Some, None, IsTrue}
use Rattle.dn_net.specs.declared.node.NodeDecl.{NodeDecl}
use Rattle.dn_net.specs.declared.node.Unit.{Unit as UnitPart}
use Rattle.dn_net.specs.Decode.{unit_at}
use Rattle.dn_net.specs.Legal.{IsLegalNet}
use Rattle.dn_kind.specs.declared.shape.Shape.{Shape}
use Rattle.dn_kind.specs.declared.units.UnitFault.{UnitFault}
use Rattle.dn_kind.specs.declared.units.UnitFault.TheVariants.{UnitShape}
use Rattle.dn_kind.specs.Kind.{Meaning, is_plain_unit_shape}

-- the shape of a unit
abbrev pub unit_shape : UnitPart → Shape
unit_shape u = record { page = u.page; slots = u.slots; reach = u.reach; ports = length u.ports }

-- a kind is there, and it fits the shape
abbrev pub fits_shape : Option Meaning → Shape → Bool
fits_shape None shape = false
fits_shape (Some kind) shape = kind.fits shape

-- the unit has a shape that a unit may have, and that its kind fits
abbrev pub is_shaped : List Meaning → UnitPart → Bool
is_shaped kinds u = is_plain_unit_shape (unit_shape u) && fits_shape (slice_get kinds u.kind) (unit_shape u)

-- a node that is no unit, or a unit that is shaped so
abbrev pub has_shape : List Meaning → Option UnitPart → Bool
has_shape kinds None = true
has_shape kinds (Some u) = is_shaped kinds u

-- the kind of a unit is one of so many
abbrev pub has_kind : ℕ → Option UnitPart → Bool
has_kind count None = true
has_kind count (Some u) = nat_lt u.kind count

-- the first node that breaks UnitShape among nodes of which the first has this number
abbrev pub shape_fault_from : List Meaning → ℕ → List NodeDecl → Option ℕ
shape_fault_from kinds number [] = None
shape_fault_from kinds number (n ∷ ns) =
    if has_shape kinds n.unit then shape_fault_from kinds (number + 1) ns else Some number

-- UnitShape: the first node that is a unit and has no shape that a unit may have, or one that its
-- kind does not fit
abbrev pub shape_fault : List Meaning → List NodeDecl → Option ℕ
shape_fault kinds net = shape_fault_from kinds 0 net

-- the node that a fault names
abbrev pub unit_fault_view : UnitFault → Option ℕ
unit_fault_view (UnitShape node) = Some node

-- what the rule leaves of a net: each unit is shaped
pub record KeepsUnitShape (kinds : List Meaning) (net : List NodeDecl) : Type 0 where
  pub shaped : (n : ℕ) (u : UnitPart) → unit_at net n ≡ Some u → IsTrue (is_shaped kinds u)

-- a unit breaks the rule, and none before it does
pub record IsFirstMisshapen (kinds : List Meaning) (net : List NodeDecl) (n : ℕ) : Type 0 where
  pub broken : (u : UnitPart) × (unit_at net n ≡ Some u) × (is_shaped kinds u ≡ false)
  pub none_less : (m : ℕ) (u : UnitPart) → m < n → unit_at net m ≡ Some u →
      IsTrue (is_shaped kinds u)

-- A net has no fault exactly where each of its units is shaped, and a fault is the first unit that
-- is not.
abbrev pub ShapeFaultIsFirst : Type 0
ShapeFaultIsFirst = (kinds : List Meaning) (net : List NodeDecl) →
    ((shape_fault kinds net ≡ None) ↔ KeepsUnitShape kinds net)
    × ((n : ℕ) → shape_fault kinds net ≡ Some n → IsFirstMisshapen kinds net n)

-- a net that is legal with a list of kinds: each unit has a kind that fits its shape, too
pub record IsLegalWith (kinds : List Meaning) (net : List NodeDecl) : Type 0 where
  pub legal : IsLegalNet net
  pub shaped : KeepsUnitShape kinds net
