-- What records show to agents, and the placements that show exactly a buffer.
use Rattle.std.specs.Prelude.{◌≡◌, ℕ, ◌<◌, ◌⊎◌, ◌↔◌, List, slice_get, IsTrue}
use Rattle.dn_net.specs.declared.node.Name.{Name}
use Rattle.dn_net.specs.declared.node.NodeDecl.{NodeDecl}
use Rattle.dn_net.specs.Decode.{is_agent_at}
use Rattle.dn_kind.specs.declared.rights.Access.{Access}
use Rattle.dn_kind.specs.Rights.{allows}
use Rattle.dn_kind.specs.Tables.{Held, ResolvesUnder, allowing}
use Rattle.dn_tables.specs.Placement.{Place}
use Rattle.dn_placement.specs.declared.request.Request.{Request}
use Rattle.dn_placement.specs.Placement.{name_on}
use Rattle.dn_placement.specs.Records.{joined_records, placed_records}

-- what a request adds where its buffer stands at an address of its agent: the one name is so far on
-- in the agent as the other in the buffer
pub record Adds (rq : Request) (v : ℕ) (x y : Name) : Type 0 where
  pub i : ℕ
  pub below : i < rq.size
  pub from : x ≡ name_on rq.agent v i
  pub to : y ≡ name_on rq.node rq.base i

-- For each access every agent resolves every address under the second records as under the first,
-- but that, for each access that the request's rights allow, the buffer is added at an address of
-- its agent.
abbrev pub Gives : List NodeDecl → Held → Held → Request → ℕ → Type 0
Gives net h h' rq v = (access : Access) (x y : Name) →
    IsTrue (is_agent_at (slice_get net x.node)) →
    ResolvesUnder net (allowing access h') x y
    ↔ (ResolvesUnder net (allowing access h) x y ⊎ (IsTrue (allows rq.rights access) × Adds rq v x y))

-- a placement is admissible under records: with its own records added they give exactly the buffer
abbrev pub IsAdmissible : List NodeDecl → Held → Request → Place → Type 0
IsAdmissible net h rq p = Gives net h (joined_records h (placed_records net rq p)) rq p.v
