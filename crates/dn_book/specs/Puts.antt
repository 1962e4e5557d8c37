-- What is asked where records are put into a set of tables that a device has.
use Rattle.std.specs.Prelude.{◌≡◌, ℕ, List, [], ◌∷◌, Option, IsSome, IfSome, IsTrue}
use Rattle.std.specs.List.{All}
use Rattle.dn_base.specs.Device.{UnitSize}
use Rattle.dn_base.specs.declared.device.UnitWords.{UnitWords}
use Rattle.dn_net.specs.declared.node.Unit.{Unit as UnitPart}
use Rattle.dn_kind.specs.declared.rights.Rights.{Rights}
use Rattle.dn_kind.specs.declared.kinded.KindedNet.{KindedNet}
use Rattle.dn_kind.specs.declared.kinds.Kinds.{Kinds}
use Rattle.dn_kind.specs.Kind.{IsLawful, Meaning}
use Rattle.dn_kind.specs.Kinded.{kinds_of}
use Rattle.dn_kind.specs.Rights.{are_rights}
use Rattle.dn_kind.specs.Units.{KeepsUnitShape, has_shape}
use Rattle.dn_tables.specs.declared.placement.Hop.{Hop}
use Rattle.dn_tables.specs.declared.table.NodeTable.{NodeTable}
use Rattle.dn_tables.specs.Set.{FitsNet, IsOnDevice, IsPackableIn, fits_kinds, has_slot, unit_in}
use Rattle.dn_book.specs.declared.grant.Grant.{Grant}
use Rattle.dn_book.specs.Sets.{AreFit, AreOpen, TakesSlots}
use Rattle.dn_book.specs.Writes.{Put, grant_slots, hop_slots_by, joined_slots}

-- the records of a grant may be put into a set that is on a device and fits the net and these kinds
pub record MayPutGrant {K : Type 0} {V : K → Type 0} (means : (k : K) × V k → Meaning)
    (on : KindedNet K V) (g : Grant) (set : List NodeTable) (sizes : List UnitSize)
    (told : Option (List UnitWords)) : Type 0 where
  pub lawful : All (λ k. IsLawful (means (k.vtable, k.value))) on.kinds.now.list.items
  pub shaped : KeepsUnitShape (kinds_of means on.kinds.now) on.net.now
  pub fits : FitsNet on.net.now (kinds_of means on.kinds.now) set
  pub on_device : IsOnDevice set sizes told
  pub hops : AreFit on.net.now g.request.size g.placement.hops
  pub rights : IsTrue (are_rights g.request.rights)
  pub opened : AreOpen set (joined_slots (grant_slots on.net.now g))

-- the records of a hop in this unit may be put into a set that is on a device and fits these kinds
pub record MayPutHop (o : Option UnitPart) (size : ℕ) (r : Rights) (hop : Hop) {K : Type 0}
    {V : K → Type 0} (means : (k : K) × V k → Meaning) (kinds : Kinds K V) (set : List NodeTable)
    (sizes : List UnitSize) (told : Option (List UnitWords)) : Type 0 where
  pub lawful : All (λ k. IsLawful (means (k.vtable, k.value))) kinds.list.items
  pub fits : IsTrue (fits_kinds (kinds_of means kinds) set)
  pub on_device : IsOnDevice set sizes told
  pub is_unit : unit_in set hop.unit ≡ o
  pub some : IsSome o
  pub there : IfSome o (λ u. TakesSlots u size hop)
  pub shaped : IsTrue (has_shape (kinds_of means kinds) o)
  pub rights : IsTrue (are_rights r)
  pub opened : AreOpen set (hop_slots_by o size r hop)

-- a record may be put into its slot of a set that is on a device and fits these kinds
pub record MayPut (s : Put) {K : Type 0} {V : K → Type 0} (means : (k : K) × V k → Meaning)
    (kinds : Kinds K V) (set : List NodeTable) (sizes : List UnitSize)
    (told : Option (List UnitWords)) : Type 0 where
  pub lawful : All (λ k. IsLawful (means (k.vtable, k.value))) kinds.list.items
  pub fits : IsTrue (fits_kinds (kinds_of means kinds) set)
  pub on_device : IsOnDevice set sizes told
  pub there : IsTrue (has_slot set s.unit s.slot)
  pub opened : AreOpen set (s ∷ [])
  pub packable : IsPackableIn (kinds_of means kinds) set s.unit s.holds
