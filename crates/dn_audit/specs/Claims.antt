-- Claims of agents to addresses.
use Rattle.std.specs.Prelude.{ℕ, ◌+◌, ◌-◌, Bool, false, true, if◌then◌else◌, ◌&&◌, nat_eq, nat_le, List, [], ◌∷◌, map, slice_index_or}
use Rattle.std.specs.List.{list_all, list_any}
use Rattle.dn_interval.specs.declared.span.Span.{Span}
use Rattle.dn_interval.specs.declared.row.End.{End}
use Rattle.dn_interval.specs.declared.row.Row.{Row}
use Rattle.dn_interval.specs.Rows.{ends_within}
use Rattle.dn_interval.specs.Spans.{in_span}
use Rattle.dn_audit.specs.declared.claims.Claim.{Claim}
use Rattle.dn_audit.specs.declared.report.Seen.{Seen}
use Rattle.dn_audit.specs.declared.report.Shared.{Shared}

-- the agent has the address by the claim
abbrev pub claim_has : Claim → ℕ → ℕ → Bool
claim_has c agent a = nat_eq c.agent agent && in_span c.span a

-- the agent has the address by one of the claims
abbrev pub claims_give : List Claim → ℕ → ℕ → Bool
claims_give cs agent a = list_any (λ c. claim_has c agent a) cs

-- the claim as names: its agent at the address itself
abbrev pub claim_gives : Claim → ℕ → End → Bool
claim_gives c a y = claim_has c y.node a && nat_eq y.base a

-- there are two names or more
abbrev pub is_several : List End → Bool
is_several [] = false
is_several (e ∷ []) = false
is_several (e ∷ (f ∷ es)) = true

-- the row of shared addresses of a node by a row of names
abbrev pub shared_by : ℕ → Span → List End → Shared
shared_by node span ends =
    record { node = node; span = span; agents = map (λ (e : End). e.node) ends }

-- the rows of shared addresses of a node by rows of names: those with two names or more
abbrev pub several_rows : ℕ → List Row → List Shared
several_rows node [] = []
several_rows node (r ∷ rows) =
    if is_several r.ends then shared_by node r.span r.ends ∷ several_rows node rows
    else several_rows node rows

-- an agent that sees the addresses of a span as those from a name on has an address of a node
abbrev pub end_has : ℕ → Span → End → ℕ → ℕ → ℕ → Bool
end_has seer span e node agent a =
    nat_eq e.node node
    && (nat_eq seer agent && (nat_le e.base a && nat_le a (e.base + (span.hi - span.lo))))

-- by one of the names of a row
abbrev pub row_has : ℕ → Row → ℕ → ℕ → ℕ → Bool
row_has seer r node agent a = list_any (λ e. end_has seer r.span e node agent a) r.ends

-- by one of the rows of a view
abbrev pub view_has : Seen → ℕ → ℕ → ℕ → Bool
view_has s node agent a = list_any (λ r. row_has s.agent r node agent a) s.rows

-- by one of the views
abbrev pub views_have : List Seen → ℕ → ℕ → ℕ → Bool
views_have views node agent a = list_any (λ s. view_has s node agent a) views

-- an agent has an address of a node by the claims to it
abbrev pub claimed : List (List Claim) → ℕ → ℕ → ℕ → Bool
claimed claims node agent a = claims_give (slice_index_or claims node []) agent a

-- each name of the views is in one of so many nodes
abbrev pub are_within : ℕ → List Seen → Bool
are_within count views = list_all (λ s. ends_within count s.rows) views
