-- What the helpers of these tests say of units and of records, and what they carry from call to call.
use Rattle.std.specs.Prelude.{◌≡◌, ℕ, List, Some, IsTrue}
use Rattle.std.specs.List.{All}
use Rattle.dn_base.specs.Device.{sizes_of}
use Rattle.dn_net.specs.declared.node.Unit.{Unit as UnitPart}
use Rattle.dn_kind.specs.declared.kinds.Kinds.{Kinds}
use Rattle.dn_kind.specs.declared.shape.Shape.{Shape}
use Rattle.dn_kind.specs.declared.unit_kind.Record.{Record}
use Rattle.dn_kind.specs.Kind.{IsLawful, Meaning, is_plain_unit_shape, is_within}
use Rattle.dn_kind.specs.Kinded.{kinds_of}
use Rattle.dn_kind.specs.Rights.{are_rights}
use Rattle.dn_kind.specs.Units.{IsLegalWith, unit_shape}
use Rattle.dn_tables.specs.declared.table.NodeTable.{NodeTable}
use Rattle.dn_tables.specs.Set.{FitsNet, IsOnDevice, unit_in}
use Rattle.test_tables.specs.declared.bench.Bench.{Bench}

-- a unit of this shape, whatever its kind, can hold the record
pub record IsHoldable (shape : Shape) (r : Record) : Type 0 where
  pub plain : IsTrue (is_plain_unit_shape shape)
  pub within : IsTrue (is_within shape r)
  pub rights : IsTrue (are_rights r.rights)

-- where a node is a unit, it can hold the record
abbrev pub IsHoldableIn : List NodeTable → ℕ → Record → Type 0
IsHoldableIn set node r = (u : UnitPart) → unit_in set node ≡ Some u → IsHoldable (unit_shape u) r

-- kinds that are lawful, and a net that is legal with them, with tables that fit both, and the device that has
-- these tables
pub record IsBench {K : Type 0} {V : K → Type 0} (means : (k : K) × V k → Meaning) (kinds : Kinds K V) (b : Bench) : Type 0 where
  pub lawful : All (λ k. IsLawful (means (k.vtable, k.value))) kinds.list.items
  pub legal : IsLegalWith (kinds_of means kinds) b.net
  pub fits : FitsNet b.net (kinds_of means kinds) b.set
  pub on_device : IsOnDevice b.set (sizes_of b.device.tables) (Some b.device.tables)
