-- Systems: a net with the kinds of its units, and what its nodes see.
use Rattle.std.specs.Prelude.{List}
use Rattle.std.specs.List.{All}
use Rattle.dn_kind.specs.declared.kinded.KindedNet.{KindedNet}
use Rattle.dn_kind.specs.Kind.{IsLawful, Meaning}
use Rattle.dn_kind.specs.Kinded.{IsKinded, kinds_of}
use Rattle.dn_kind.specs.Units.{IsLegalWith}
use Rattle.dn_flat.specs.Levels.{AreFlats}
use Rattle.dn_tables.specs.declared.table.NodeTable.{NodeTable}
use Rattle.dn_tables.specs.Set.{FitsNet}
use Rattle.dn_view.specs.declared.system.System.{System}

-- the net is legal with its kinds, which are lawful, and what its nodes see is what they see
pub record IsSystem {K : Type 0} {V : K → Type 0} (means : (k : K) × V k → Meaning)
    (system : System K V) : Type 0 where
  pub kinded : IsKinded means system.on
  pub flat : AreFlats system.on.net.now system.flats.now

-- the net is legal with its kinds, which are lawful, and the tables fit it
pub record AreSystemTables {K : Type 0} {V : K → Type 0} (means : (k : K) × V k → Meaning)
    (on : KindedNet K V) (set : List NodeTable) : Type 0 where
  pub lawful : All (λ k. IsLawful (means (k.vtable, k.value))) on.kinds.now.list.items
  pub legal : IsLegalWith (kinds_of means on.kinds.now) on.net.now
  pub fits : FitsNet on.net.now (kinds_of means on.kinds.now) set
