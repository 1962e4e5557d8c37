-- What the rows of the code are: the live walks of a net, without their choices.
use Rattle.std.specs.Prelude.{◌≡◌, ℕ, List, [], map, length, slice_index_or, Option, Some, None}
use Rattle.dn_net.specs.declared.node.NodeDecl.{NodeDecl}
use Rattle.dn_interval.specs.declared.span.Span.{Span}
use Rattle.dn_interval.specs.Spans.{has}
use Rattle.dn_net.specs.Decode.{step_limit, is_accepted}
use Rattle.dn_net.specs.Legal.{IsLegalNet}
use Rattle.dn_net.specs.Walks.{Walk, live_walks}
use Rattle.dn_net.specs.WalkRules.{Broken, is_wide, has_loop, is_deep, has_fork, has_chain}
use Rattle.dn_walk.specs.Legs.{BareLeg, bare_legs}
use Rattle.dn_walk.specs.declared.walks.WalkRow.{WalkRow}
use Rattle.dn_walk.specs.declared.fault.WalkFault.{WalkFault}
use Rattle.dn_walk.specs.declared.fault.WalkFault.TheVariants.{Wide, Loop, Deep, Fork, Chain, OutOfMemory}

-- what a row tells of a walk: its start, the addresses that follow it, where the first of them comes, and its length
pub record BareWalk : Type 0 where
  pub start : ℕ
  pub lo : ℕ
  pub hi : ℕ
  pub end : ℕ
  pub base : ℕ
  pub len : ℕ

-- what a row of the code tells
abbrev pub row_view : WalkRow → BareWalk
row_view r = record { start = r.start; lo = r.span.lo; hi = r.span.hi; end = r.end; base = r.base; len = r.len }

-- what a walk tells, without its choices
abbrev pub bare_walk : Walk → BareWalk
bare_walk w = record { start = w.start; lo = w.span.lo; hi = w.span.hi; end = w.to.node; base = w.to.addr; len = length w.choices }

-- a table of walks: its rows, and for each node the spans of the addresses that it accepts, and its legs
pub record Table : Type 0 where
  pub rows : List WalkRow
  pub accepted : List (List Span)
  pub legs : List (List BareLeg)

-- each set has what its node accepts
pub record AreAccepted (net : List NodeDecl) (sets : List (List Span)) : Type 0 where
  pub every : length sets ≡ length net
  pub same : (node a : ℕ) → has (slice_index_or sets node []) a ≡ is_accepted net (record { node = node; addr = a })

-- the rows are the live walks of a legal net, of 1 to 65 choices, in their order, and the sets and the legs are
-- those of its nodes
pub record AreWalksOf (net : List NodeDecl) (table : Table) : Type 0 where
  pub legal : IsLegalNet net
  pub same : map row_view table.rows ≡ map bare_walk (live_walks net step_limit)
  pub accepted : AreAccepted net table.accepted
  pub legs : table.legs ≡ map bare_legs net

-- the broken rule that a fault says, with what it carries; allocation failure says none
abbrev pub walk_fault_view : WalkFault → Option Broken
walk_fault_view Wide = Some is_wide
walk_fault_view (Loop cycle) = Some (has_loop cycle)
walk_fault_view (Deep path) = Some (is_deep path)
walk_fault_view (Fork name unit) = Some (has_fork name unit)
walk_fault_view (Chain units) = Some (has_chain units)
walk_fault_view OutOfMemory = None
