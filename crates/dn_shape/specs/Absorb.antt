-- Absorbing: each node that leads to a node is made to lead where that node leads.
use Rattle.std.specs.Prelude.{ℕ, suc, Bool, false, if◌then◌else◌, ◌&&◌, ◌||◌, not, ◌==◌, nat_lt, List, [], ◌∷◌, map, length, slice_get, Option, Some, None, Result, Ok, Err}
use Rattle.std.specs.List.{list_any}
use Rattle.std.specs.Option.{is_some}
use Rattle.dn_interval.specs.declared.row.End.{End}
use Rattle.dn_interval.specs.Listed.{Seen, listed_rows}
use Rattle.dn_net.specs.declared.node.Name.{Name}
use Rattle.dn_net.specs.declared.node.Dest.{Dest}
use Rattle.dn_net.specs.declared.node.Entry.{Entry}
use Rattle.dn_net.specs.declared.node.Unit.{Unit as UnitPart}
use Rattle.dn_net.specs.declared.node.NodeDecl.{NodeDecl}
use Rattle.dn_net.specs.Decode.{steps, is_agent}
use Rattle.dn_net.specs.Names.{each_step, sorted_names}
use Rattle.dn_net.specs.Rules.{is_vectors}
use Rattle.dn_walk.specs.Ends.{end_of}
use Rattle.dn_shape.specs.declared.fault.Why.{Why}
use Rattle.dn_shape.specs.declared.fault.Why.TheVariants.{Accepts, Agent, Unit, Port, SelfStep}
use Rattle.dn_shape.specs.Limits.{passed_limit}

-- the `over` is to the node
abbrev pub is_over_to : ℕ → Option ℕ → Bool
is_over_to m None = false
is_over_to m (Some n) = n == m

-- an entry has a destination in the node
abbrev pub maps_to : ℕ → Entry → Bool
maps_to m e = list_any (λ d. d.node == m) e.dests

-- an entry of the node, or its `over`, leads to the node of a number; also an `over` that serves
-- no address
abbrev pub leads_to : ℕ → NodeDecl → Bool
leads_to m n = list_any (maps_to m) n.entries || is_over_to m n.over

-- the unit has the node as a port
abbrev pub has_port : ℕ → Option UnitPart → Bool
has_port m None = false
has_port m (Some u) = list_any (λ p. p == m) u.ports

-- some unit of the net has the node as a port
abbrev pub is_port : List NodeDecl → ℕ → Bool
is_port net m = list_any (λ n. has_port m n.unit) net

-- the first reason for which a node of this number cannot be absorbed
abbrev pub why_not : List NodeDecl → ℕ → NodeDecl → Option Why
why_not net m n =
    if nat_lt 0 (length n.accepts) || is_vectors n.role then Some Accepts
    else (if is_agent n.role then Some Agent
    else (if is_some n.unit then Some Unit
    else (if is_port net m then Some Port
    else (if leads_to m n then Some SelfStep else None))))

-- the first reason for which the node of this number cannot be absorbed; none where there is no
-- such node
abbrev pub why_not_at : List NodeDecl → ℕ → Option NodeDecl → Option Why
why_not_at net m None = None
why_not_at net m (Some n) = why_not net m n

-- a name of the absorbed node is replaced by the names to which it decodes
abbrev pub names_past : List NodeDecl → ℕ → Name → List Name
names_past net m x = if x.node == m then steps net x else x ∷ []

-- the names to which a name decodes in one step past the absorbed node, ascending
abbrev pub steps_past : List NodeDecl → ℕ → Name → List Name
steps_past net m x = sorted_names (each_step (names_past net m) (steps net x))

-- the names to which the addresses of a node decode past the absorbed one, as the fewest rows
abbrev pub rows_past : List NodeDecl → ℕ → ℕ → List Seen
rows_past net m i = listed_rows (λ a. map end_of (steps_past net m (record { node = i; addr = a })))

-- a name of a row as a destination
abbrev pub dest_of_end : End → Dest
dest_of_end e = record { node = e.node; addr = e.base }

-- a row as a map entry
abbrev pub entry_of_row : Seen → Entry
entry_of_row r = record { block = record { lo = r.lo; hi = r.hi }; dests = map dest_of_end r.ends }

-- the node with rows in place of its map and its `over`
abbrev pub with_rows : List Seen → NodeDecl → NodeDecl
with_rows rows n = record {
  text = n.text;
  role = n.role;
  accepts = n.accepts;
  entries = map entry_of_row rows;
  over = None;
  unit = n.unit;
}

-- the node of a number, with the rows past the absorbed node
abbrev pub node_led_past : List NodeDecl → ℕ → ℕ → NodeDecl → NodeDecl
node_led_past net m i n = with_rows (rows_past net m i) n

-- the node of a number is rewritten: it is another node than the absorbed one, and leads to it
abbrev pub is_rewritten : ℕ → ℕ → NodeDecl → Bool
is_rewritten m i n = not (i == m) && leads_to m n

-- the node of a number, led past the absorbed one where it is rewritten
abbrev pub node_past : List NodeDecl → ℕ → ℕ → NodeDecl → NodeDecl
node_past net m i n = if is_rewritten m i n then node_led_past net m i n else n

-- the nodes past the absorbed one, of which the first has a number
abbrev pub nodes_past : List NodeDecl → ℕ → ℕ → List NodeDecl → List NodeDecl
nodes_past net m i [] = []
nodes_past net m i (n ∷ ns) = node_past net m i n ∷ nodes_past net m (suc i) ns

-- the net past the absorbed node, which stays in it
abbrev pub net_past : List NodeDecl → ℕ → List NodeDecl
net_past net m = nodes_past net m 0 net

-- why a node is not absorbed: it cannot be, or the net passes a limit
pub data Refusal : Type 0 where
  is_unfit : Why → Refusal
  passes : ℕ → Refusal

-- a net, or the limit that it passes
abbrev pub net_within : List NodeDecl → Option ℕ → Result (List NodeDecl) Refusal
net_within net None = Ok net
net_within net (Some limit) = Err (passes limit)

-- the net past a node, or the first reason for which there is none
abbrev pub net_unless : List NodeDecl → Option Why → Result (List NodeDecl) Refusal
net_unless net (Some why) = Err (is_unfit why)
net_unless net None = net_within net (passed_limit net)

-- what absorbing a node comes to
abbrev pub absorb_outcome : List NodeDecl → ℕ → Result (List NodeDecl) Refusal
absorb_outcome net m = net_unless (net_past net m) (why_not_at net m (slice_get net m))
