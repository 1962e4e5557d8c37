-- The vectors of a node that a route may take, and the request for one.
use Rattle.std.specs.Prelude.{ℕ, ◌+◌, Bool, false, ◌&&◌, not, nat_eq, nat_le, nat_lt, List, slice_get, Option, Some, None}
use Rattle.std.specs.List.{list_any}
use Rattle.dn_interval.specs.declared.span.Span.{Span}
use Rattle.dn_interval.specs.Spans.{in_span}
use Rattle.dn_net.specs.declared.node.NodeDecl.{NodeDecl}
use Rattle.dn_net.specs.Decode.{is_accepted_at}
use Rattle.dn_kind.specs.Rights.{both_rights}
use Rattle.dn_placement.specs.declared.request.Request.{Request}
use Rattle.dn_book.specs.declared.grant.Grant.{Grant}

-- the request for a vector: one address of its node, for reading and writing
abbrev pub vector_request : ℕ → ℕ → ℕ → Request
vector_request agent node vector =
    record { agent = agent; node = node; base = vector; size = 1; rights = both_rights }

-- the grant has the vector of the node
abbrev pub has_vector : ℕ → ℕ → Grant → Bool
has_vector node vector g =
    nat_eq g.request.node node
    && (nat_le g.request.base vector && nat_lt vector (g.request.base + g.request.size))

-- a live grant has the vector of the node
abbrev pub is_taken_vector : List Grant → ℕ → ℕ → Bool
is_taken_vector book node vector = list_any (has_vector node vector) book

-- a span is there that has the address
abbrev pub in_some_span : Option Span → ℕ → Bool
in_some_span None a = false
in_some_span (Some s) a = in_span s a

-- the node accepts the vector, and no live grant has it
abbrev pub is_free_vector : List NodeDecl → List Grant → ℕ → ℕ → Bool
is_free_vector net book node vector =
    is_accepted_at vector (slice_get net node) && not (is_taken_vector book node vector)
