-- What a placement must show newly to be admissible.
use Rattle.std.specs.Prelude.{ℕ, ◌+◌, ◌-◌, ◌≤◌, ◌↔◌, Bool, false, ◌&&◌, nat_eq, nat_le, List, [], ◌∷◌, slice_get, IsTrue}
use Rattle.dn_interval.specs.declared.row.End.{End}
use Rattle.dn_interval.specs.declared.row.Row.{Row}
use Rattle.dn_interval.specs.declared.row.Seg.{Seg}
use Rattle.dn_interval.specs.declared.span.TheConstants.{TOP}
use Rattle.dn_net.specs.declared.node.Name.{Name}
use Rattle.dn_net.specs.declared.node.NodeDecl.{NodeDecl}
use Rattle.dn_net.specs.Decode.{is_agent_at}
use Rattle.dn_kind.specs.declared.rights.Access.{Access}
use Rattle.dn_kind.specs.Rights.{allows}
use Rattle.dn_kind.specs.Tables.{Held, allowing}
use Rattle.dn_tables.specs.Placement.{Place}
use Rattle.dn_placement.specs.declared.request.Request.{Request}
use Rattle.dn_placement.specs.Exposure.{Adds}
use Rattle.dn_placement.specs.Records.{joined_records, placed_records}
use Rattle.dn_walk.specs.Ends.{name_of_end}
use Rattle.dn_view.specs.Records.{fresh_records}
use Rattle.dn_view.specs.Through.{IsShownNewly}

-- what an address shows newly for an access, where a placement's records are added
abbrev pub IsAdded : List NodeDecl → Held → Request → Place → Access → Name → Name → Type 0
IsAdded net h rq p access x z =
    IsShownNewly net (allowing access h)
    (allowing access (fresh_records h (placed_records net rq p)))
    (allowing access (joined_records h (placed_records net rq p))) x z

-- what a request adds for an access
abbrev pub IsAsked : Request → ℕ → Access → Name → Name → Type 0
IsAsked rq v access x z = IsTrue (allows rq.rights access) × Adds rq v x z

-- the addresses of a node show newly for an access exactly what is asked for; no search unfolds it
unfoldable pub IsExactAt : List NodeDecl → Held → Request → Place → Access → ℕ → Type 0
IsExactAt net h rq p access node = (a : ℕ) (z : End) → a ≤ TOP →
    IsAdded net h rq p access (record { node = node; addr = a }) (name_of_end z)
    ↔ IsAsked rq p.v access (record { node = node; addr = a }) (name_of_end z)

-- so do those of every agent
abbrev pub AreExact : List NodeDecl → Held → Request → Place → Access → Type 0
AreExact net h rq p access = (node : ℕ) → IsTrue (is_agent_at (slice_get net node)) →
    IsExactAt net h rq p access node

-- the address of the request's agent has the name of the buffer
abbrev pub IsAskedAt : Request → ℕ → ℕ → End → Type 0
IsAskedAt rq v a z = Adds rq v (record { node = rq.agent; addr = a }) (name_of_end z)

-- the segment gives addresses of the buffer alone, where the agent is to have them
abbrev pub is_part_of_buffer : Seg → Request → ℕ → Bool
is_part_of_buffer s rq v =
    nat_le v s.span.lo && (nat_le s.span.hi (v + (rq.size - 1)) && (nat_eq s.node rq.node
    && (nat_le rq.base s.base && nat_eq (s.base - rq.base) (s.span.lo - v))))

-- the one name is the first of the buffer
abbrev pub is_buffer_end : List End → Request → Bool
is_buffer_end [] rq = false
is_buffer_end (e ∷ []) rq = nat_eq e.node rq.node && nat_eq e.base rq.base
is_buffer_end (e ∷ (f ∷ es)) rq = false

-- the row shows exactly the buffer, at an address of the agent
abbrev pub is_buffer_row : Row → Request → ℕ → Bool
is_buffer_row r rq v =
    nat_eq r.span.lo v && (nat_eq r.span.hi (v + (rq.size - 1)) && is_buffer_end r.ends rq)

-- the rows show exactly the buffer, at an address of the agent
abbrev pub are_buffer : List Row → Request → ℕ → Bool
are_buffer [] rq v = false
are_buffer (r ∷ []) rq v = is_buffer_row r rq v
are_buffer (r ∷ (s ∷ rs)) rq v = false
