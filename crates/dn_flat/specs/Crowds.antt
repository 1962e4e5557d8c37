-- Names in units that addresses of agents reach: one of them, or two.
use Rattle.std.specs.Prelude.{◌≡◌, ℕ, ◌+◌, ◌-◌, ◌<◌, ◌≤◌, true, List, slice_get, IfSome, IsTrue, Option}
use Rattle.std.specs.List.{All, Contains}
use Rattle.dn_interval.specs.declared.span.Span.{Span}
use Rattle.dn_interval.specs.Spans.{in_span}
use Rattle.dn_net.specs.declared.node.Name.{Name}
use Rattle.dn_net.specs.declared.node.NodeDecl.{NodeDecl}
use Rattle.dn_net.specs.Decode.{is_agent_at, StopsAt}
use Rattle.dn_flat.specs.declared.crowds.UnitSpan.{UnitSpan}
use Rattle.dn_flat.specs.declared.crowds.Way.{Way}
use Rattle.dn_flat.specs.Views.{StopsFrom}

-- the name is the stop of two different addresses of agents
pub record IsCrowded (net : List NodeDecl) (stop : Name) : Type 0 where
  pub one : Name
  pub other : Name
  pub one_agent : IsTrue (is_agent_at (slice_get net one.node))
  pub other_agent : IsTrue (is_agent_at (slice_get net other.node))
  pub one_stops : StopsAt net one stop
  pub other_stops : StopsAt net other stop
  pub differ : one ≡ other → ⊥

-- the name is the stop of an address of an agent
pub record IsAgentStop (net : List NodeDecl) (stop : Name) : Type 0 where
  pub from : Name
  pub agent : IsTrue (is_agent_at (slice_get net from.node))
  pub stops : StopsAt net from stop

-- each name of a span of a unit has the property
abbrev pub HoldAlong : (Name → Type 0) → ℕ → Span → Type 0
HoldAlong has unit span = (a : ℕ) → in_span span a ≡ true → has (record { node = unit; addr = a })

-- so has each name of those that are listed
abbrev pub HoldAlongAll : (Name → Type 0) → List UnitSpan → Type 0
HoldAlongAll has spans = All (λ (s : UnitSpan). HoldAlong has s.unit s.span) spans

-- each name of a span of a unit is crowded
abbrev pub AreCrowded : List NodeDecl → ℕ → Span → Type 0
AreCrowded net = HoldAlong (IsCrowded net)

-- each is the stop of an address of an agent
abbrev pub AreAgentStops : List NodeDecl → ℕ → Span → Type 0
AreAgentStops net = HoldAlong (IsAgentStop net)

-- a span that is found is listed for the unit, and has some of so many names from one on
pub record IsSpanAmong (spans : List UnitSpan) (unit first size : ℕ) (found : Option Span) : Type 0 where
  pub listed : IfSome found (λ s. Contains spans (record { unit = unit; span = s }))
  pub from : IfSome found (λ s. first ≤ s.hi)
  pub to : IfSome found (λ s. s.lo < first + size)

-- the node is an agent, and the names that the segment gives to its addresses are their stops
pub record IsWay (net : List NodeDecl) (way : Way) : Type 0 where
  pub agent : IsTrue (is_agent_at (slice_get net way.agent))
  pub stops : (a : ℕ) → in_span way.seg.span a ≡ true → StopsFrom net way.agent a
      (record { node = way.seg.node; base = way.seg.base + (a - way.seg.span.lo) })

-- so it is of each way that is listed
abbrev pub AreWays : List NodeDecl → List Way → Type 0
AreWays net ways = All (IsWay net) ways
