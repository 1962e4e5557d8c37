-- Names in units to which addresses of agents come by records.
use Rattle.std.specs.Prelude.{◌≡◌, ℕ, true, List, slice_get, IsTrue}
use Rattle.dn_interval.specs.declared.row.End.{End}
use Rattle.dn_interval.specs.declared.row.Seg.{Seg}
use Rattle.dn_interval.specs.Strands.{segs_give}
use Rattle.dn_net.specs.declared.node.Name.{Name}
use Rattle.dn_net.specs.declared.node.NodeDecl.{NodeDecl}
use Rattle.dn_net.specs.Chain.{Reaches}
use Rattle.dn_net.specs.Decode.{is_agent_at, is_stop}
use Rattle.dn_kind.specs.Tables.{Held, StepUnder}
use Rattle.dn_walk.specs.Ends.{name_of_end}

-- an address of an agent, other than this one, comes by the records to the name, which is in a unit
pub record IsKeptStop (net : List NodeDecl) (h : Held) (agent : ℕ) (t : Name) : Type 0 where
  pub from : Name
  pub is_agent : IsTrue (is_agent_at (slice_get net from.node))
  pub other : from.node ≡ agent → ⊥
  pub comes : Reaches (StepUnder net h) from t
  pub stop : IsTrue (is_stop net t)

-- so it is of each name that segments give
abbrev pub ListKeptStops : List NodeDecl → Held → ℕ → List Seg → Type 0
ListKeptStops net h agent segs = (a : ℕ) (z : End) → segs_give segs a z ≡ true →
    IsKeptStop net h agent (name_of_end z)
