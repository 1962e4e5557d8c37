-- Requests for which placements are looked for.
use Rattle.std.specs.Prelude.{◌+◌, ◌≤◌, List, slice_get, IsTrue}
use Rattle.dn_net.specs.declared.node.NodeDecl.{NodeDecl}
use Rattle.dn_net.specs.Decode.{is_agent_at, top}
use Rattle.dn_kind.specs.Rights.{are_rights}
use Rattle.dn_placement.specs.declared.request.Request.{Request}

-- an agent asks, with rights, for some addresses, none past the last
pub record IsRequest (net : List NodeDecl) (request : Request) : Type 0 where
  pub agent : IsTrue (is_agent_at (slice_get net request.agent))
  pub rights : IsTrue (are_rights request.rights)
  pub some : 1 ≤ request.size
  pub buffer : request.base + request.size ≤ top + 1
