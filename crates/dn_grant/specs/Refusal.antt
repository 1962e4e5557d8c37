-- The refusals of a request that need no search.
use Rattle.std.specs.Prelude.{ℕ, if◌then◌else◌, not, List, slice_get, Option, Some, None}
use Rattle.dn_net.specs.declared.node.NodeDecl.{NodeDecl}
use Rattle.dn_net.specs.Decode.{is_agent_at}
use Rattle.dn_placement.specs.declared.request.Request.{Request}
use Rattle.dn_book.specs.declared.grant.Grant.{Grant}
use Rattle.dn_book.specs.Book.{has_id, is_full}
use Rattle.dn_place.specs.Targets.{is_target_at, refused_address}
use Rattle.dn_grant.specs.declared.refusal.GrantRefusal.{GrantRefusal}
use Rattle.dn_grant.specs.declared.refusal.GrantRefusal.TheVariants.{IdUsed, NoAgent, NoTarget, NotAccepted, BookFull}

-- the refusal for an address, and where there is none the one for want of room in the book
abbrev pub refusal_by : List Grant → Option ℕ → Option GrantRefusal
refusal_by book (Some first) = Some (NotAccepted first)
refusal_by book None = if is_full book then Some BookFull else None

-- the first refusal of a request that holds, of those that need no search: the id is that of a live
-- grant; the agent is none; the node is none or has interrupt vectors; the node does not accept all
-- of the buffer; the book is full
abbrev pub grant_refusal : List NodeDecl → List Grant → ℕ → Request → Option GrantRefusal
grant_refusal net book id rq =
    if has_id id book then Some IdUsed
    else (if not (is_agent_at (slice_get net rq.agent)) then Some NoAgent
    else (if not (is_target_at (slice_get net rq.node)) then Some NoTarget
    else refusal_by book (refused_address (slice_get net rq.node) rq.base rq.size)))
