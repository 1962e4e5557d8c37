-- The decoding net: what a node accepts, where a name stops, and the names to which it decodes in one step.
-- (Achermann, Humbel, Cock and Roscoe, MARS 2017 and ITP 2018.)
use Rattle.std.specs.Prelude.{ℕ, ◌+◌, ◌-◌, ◌^◌, Bool, true, false, if◌then◌else◌, ◌&&◌, ◌||◌, not, nat_le, nat_lt, List, [], ◌∷◌, map, length, slice_get, Option, Some, None}
use Rattle.std.specs.List.{list_all}
use Rattle.std.specs.Option.{is_some}
use Rattle.dn_net.specs.declared.node.Name.{Name}
use Rattle.dn_net.specs.declared.node.Block.{Block}
use Rattle.dn_net.specs.declared.node.Dest.{Dest}
use Rattle.dn_net.specs.declared.node.Entry.{Entry}
use Rattle.dn_net.specs.declared.node.Role.{Role}
use Rattle.dn_net.specs.declared.node.Role.TheVariants.{Agent, Unit as UnitRole}
use Rattle.dn_net.specs.declared.node.Unit.{Unit as UnitPart}
use Rattle.dn_net.specs.declared.node.NodeDecl.{NodeDecl}
use Rattle.dn_net.specs.declared.step.Step.{Step as StepCase}
use Rattle.dn_net.specs.declared.step.Step.TheVariants.{To}
use Rattle.dn_net.specs.Chain.{Member, Ends}

-- the last address
abbrev pub top : ℕ
top = 2 ^ 56 - 1

-- the address lies in the block
abbrev pub within : ℕ → Block → Bool
within a b = nat_le b.lo a && nat_le a b.hi

-- the address lies in one of the blocks
abbrev pub in_some_block : ℕ → List Block → Bool
in_some_block a [] = false
in_some_block a (b ∷ bs) = within a b || in_some_block a bs

-- a node is there that accepts the address
abbrev pub is_accepted_at : ℕ → Option NodeDecl → Bool
is_accepted_at a None = false
is_accepted_at a (Some n) = nat_le a top && in_some_block a n.accepts

-- the name is accepted where it stands
abbrev pub is_accepted : List NodeDecl → Name → Bool
is_accepted net x = is_accepted_at x.addr (slice_get net x.node)

-- the unit that a node is, where it is there and is one
abbrev pub unit_of : Option NodeDecl → Option UnitPart
unit_of None = None
unit_of (Some n) = n.unit

-- the unit that a node is
abbrev pub unit_at : List NodeDecl → ℕ → Option UnitPart
unit_at net n = unit_of (slice_get net n)

-- a unit is there, and the address is none past the last
abbrev pub is_stop_at : ℕ → Option UnitPart → Bool
is_stop_at a None = false
is_stop_at a (Some u) = nat_le a top

-- the name stands in a unit
abbrev pub is_stop : List NodeDecl → Name → Bool
is_stop net x = is_stop_at x.addr (unit_at net x.node)

-- a destination, moved on by an offset
abbrev pub dest_name : ℕ → Dest → Name
dest_name offset d = record { node = d.node; addr = d.addr + offset }

-- where an address goes on: destinations, and by how much the address of each is raised
pub record Sent : Type 0 where
  pub dests : List Dest
  pub offset : ℕ

-- by `over` it goes to the same address of a node: that node at 0, raised by the address
abbrev pub by_over : ℕ → Option ℕ → Option Sent
by_over a None = None
by_over a (Some m) = Some (record { dests = record { node = m; addr = 0 } ∷ []; offset = a })

-- by the first entry whose block has the address, and else by `over`
abbrev pub by_entries : ℕ → Option ℕ → List Entry → Option Sent
by_entries a over [] = by_over a over
by_entries a over (e ∷ es) =
    if within a e.block
    then Some (record { dests = e.dests; offset = a - e.block.lo })
    else by_entries a over es

-- where a node sends an address that it does not accept; a unit has neither entries nor `over`
abbrev pub decode : ℕ → Option NodeDecl → Option Sent
decode a None = None
decode a (Some n) =
    if nat_le a top then (if in_some_block a n.accepts then None else by_entries a n.over n.entries)
    else None

-- the names to which it is sent
abbrev pub sent_names : Option Sent → List Name
sent_names None = []
sent_names (Some s) = map (dest_name s.offset) s.dests

-- the names to which a name decodes in one step
abbrev pub steps : List NodeDecl → Name → List Name
steps net x = sent_names (decode x.addr (slice_get net x.node))

-- one step from a name to another
abbrev pub Step : List NodeDecl → Name → Name → Type 0
Step net x y = Member y (steps net x)

-- the longest chain that resolution follows; no proof unfolds it
unfoldable pub step_limit : ℕ
step_limit = 65

-- resolution: the accepted names that end a chain of at most so many steps
abbrev pub Resolves : List NodeDecl → Name → Name → Type 0
Resolves net x y = Ends (steps net) (is_accepted net) step_limit x y

-- the stops of a name: the names in units that end such a chain
abbrev pub StopsAt : List NodeDecl → Name → Name → Type 0
StopsAt net x y = Ends (steps net) (is_stop net) step_limit x y

-- where the answer of `step` sends
abbrev pub step_view : StepCase → Option Sent
step_view (To dests offset) = Some (record { dests = dests.now; offset = offset })
step_view _ = None

-- each destination of the answer of `step` is one of so many nodes
abbrev pub leads_within : ℕ → StepCase → Bool
leads_within count (To dests offset) = list_all (λ d. nat_lt d.node count) dests.now
leads_within count _ = true

-- each destination of the answer of `step` has an address
abbrev pub leads_in_range : StepCase → Bool
leads_in_range (To dests offset) = list_all (λ d. nat_le (d.addr + offset) top) dests.now
leads_in_range _ = true

-- the node of an `over` is one of so many
abbrev pub over_within : ℕ → Option ℕ → Bool
over_within count None = true
over_within count (Some m) = nat_lt m count

-- the ports of a unit are of so many nodes
abbrev pub ports_within : ℕ → Option UnitPart → Bool
ports_within count None = true
ports_within count (Some u) = list_all (λ p. nat_lt p count) u.ports

-- the role is that of a unit
abbrev pub is_unit : Role → Bool
is_unit UnitRole = true
is_unit _ = false

-- the node is one from which addresses are asked
abbrev pub is_agent : Role → Bool
is_agent Agent = true
is_agent _ = false

-- a node is there, and it is an agent
abbrev pub is_agent_at : Option NodeDecl → Bool
is_agent_at None = false
is_agent_at (Some n) = is_agent n.role

-- the node accepts nothing and sends nothing on
abbrev pub is_bare : NodeDecl → Bool
is_bare n = nat_le (length n.accepts) 0 && (nat_le (length n.entries) 0 && not (is_some n.over))

-- a node with this unit, or none, is formed
abbrev pub formed_by : NodeDecl → Option UnitPart → Bool
formed_by n None = not (is_unit n.role)
formed_by n (Some u) = is_unit n.role && is_bare n

-- the unit is some exactly where the role is `Unit`, and then the other parts are empty
abbrev pub is_formed : NodeDecl → Bool
is_formed n = formed_by n n.unit

-- each node to which this one refers is one of so many
abbrev pub refers_within : ℕ → NodeDecl → Bool
refers_within count n =
    list_all (λ e. list_all (λ d. nat_lt d.node count) e.dests) n.entries
    && (over_within count n.over && ports_within count n.unit)

-- each node to which a node of the net refers exists
abbrev pub is_closed : List NodeDecl → Bool
is_closed net = list_all (refers_within (length net)) net
