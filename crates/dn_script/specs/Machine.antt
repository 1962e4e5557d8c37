-- Machines: a net with the kinds of its units, and its live walks; and what a run of one asks.
use Rattle.std.specs.Prelude.{◌≡◌, ◌≤◌, List, [], length}
use Rattle.dn_base.specs.Device.{UnitSize}
use Rattle.dn_kind.specs.declared.kinds.Kinds.{Kinds}
use Rattle.dn_kind.specs.Kind.{Meaning}
use Rattle.dn_kind.specs.Kinded.{AreKinds, IsKinded}
use Rattle.dn_walk.specs.Rows.{AreWalksOf}
use Rattle.dn_script.specs.declared.machine.Machine.{Machine}

-- the net is legal with its kinds, which are lawful, and the walks are its live walks
pub record IsMachine {K : Type 0} {V : K → Type 0} (means : (k : K) × V k → Meaning)
    (m : Machine K V) : Type 0 where
  pub kinded : IsKinded means m.on
  pub walked : AreWalksOf m.on.net.now m.walks.now

-- the kinds are at most 255 and lawful, and no unit was made on the device
pub record MayRun {K : Type 0} {V : K → Type 0} (means : (k : K) × V k → Meaning) (ks : Kinds K V)
    (units : List UnitSize) : Type 0 where
  pub few_kinds : length ks.list.items ≤ 255
  pub kinds : AreKinds means ks
  pub none : units ≡ []
