-- Where the hops of an agent's requests can stand.
use Rattle.std.specs.Prelude.{ℕ, List}
use Rattle.dn_net.specs.declared.node.NodeDecl.{NodeDecl}
use Rattle.dn_place.specs.declared.reach.ReachMarks.{ReachMarks}
use Rattle.dn_place.specs.Marks.{AreMarked, AreUnitsFrom, IsEntry}

-- the marks tell in which units the hops of an agent can stand, and the entry what the address reaches
pub record IsHopReach (net : List NodeDecl) (agent : ℕ) (reach : ReachMarks) : Type 0 where
  pub marked : AreMarked net agent reach.first.items reach.second.items reach.third.items
  pub entry : IsEntry net agent reach.at reach.entry
  pub units : AreUnitsFrom net 0 reach.units.items
