-- The refusals of a route that need no search.
use Rattle.std.specs.Prelude.{ℕ, if◌then◌else◌, not, List, slice_get, Option, Some, None}
use Rattle.dn_net.specs.declared.node.NodeDecl.{NodeDecl}
use Rattle.dn_net.specs.Decode.{is_agent_at}
use Rattle.dn_placement.specs.Roles.{is_vectors_at}
use Rattle.dn_book.specs.declared.grant.Grant.{Grant}
use Rattle.dn_book.specs.Book.{has_id, is_full}
use Rattle.dn_vector.specs.declared.refusal.RouteRefusal.{RouteRefusal}
use Rattle.dn_vector.specs.declared.refusal.RouteRefusal.TheVariants.{IdUsed, NoAgent, NoTarget, BookFull}

-- the first refusal of a route that holds, of those that need no search: the id is that of a live
-- grant; the agent is none; the node is none or has no interrupt vectors; the book is full
abbrev pub route_refusal : List NodeDecl → List Grant → ℕ → ℕ → ℕ → Option RouteRefusal
route_refusal net book id agent node =
    if has_id id book then Some IdUsed
    else (if not (is_agent_at (slice_get net agent)) then Some NoAgent
    else (if not (is_vectors_at (slice_get net node)) then Some NoTarget
    else (if is_full book then Some BookFull else None)))
