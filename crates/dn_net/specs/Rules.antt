-- The node rules, each as a test of one node, and the first that a net breaks.
use Rattle.std.specs.Prelude.{◌≡◌, ℕ, zero, suc, ◌+◌, ◌-◌, ◌≤◌, Bool, true, false, if◌then◌else◌, ◌&&◌, ◌||◌, not, nat_le, nat_lt, ◌==◌, List, [], ◌∷◌, ◌++◌, map, length, filter, count_by, Option, Some, None, IsSome, IsTrue}
use Rattle.std.specs.List.{All, list_all, list_any}
use Rattle.std.specs.Option.{is_some}
use Rattle.dn_net.specs.declared.node.Block.{Block}
use Rattle.dn_net.specs.declared.node.Dest.{Dest}
use Rattle.dn_net.specs.declared.node.Entry.{Entry}
use Rattle.dn_net.specs.declared.node.Role.{Role}
use Rattle.dn_net.specs.declared.node.Role.TheVariants.{Vectors}
use Rattle.dn_net.specs.declared.node.Unit.{Unit as UnitPart}
use Rattle.dn_net.specs.declared.node.NodeDecl.{NodeDecl}
use Rattle.dn_net.specs.declared.rules.NodeFault.{NodeFault}
use Rattle.dn_net.specs.declared.rules.NodeFault.TheVariants.{Range, Overlap, Repeat, VectorSpace, OutOfMemory}
use Rattle.dn_net.specs.Decode.{top, within, in_some_block, is_closed}

-- a broken node rule, with the number of the node, and for an overlap with its least address
pub data BrokenNode : Type 0 where
  out_of_range : ℕ → BrokenNode
  overlapping : (node addr : ℕ) → BrokenNode
  repeating : ℕ → BrokenNode
  past_space : ℕ → BrokenNode

-- the broken rule that a fault says; allocation failure says none
abbrev pub node_fault_view : NodeFault → Option BrokenNode
node_fault_view (Range node) = Some (out_of_range node)
node_fault_view (Overlap node addr) = Some (overlapping node addr)
node_fault_view (Repeat node) = Some (repeating node)
node_fault_view (VectorSpace node) = Some (past_space node)
node_fault_view OutOfMemory = None

-- Range: a block runs from its first address to its last, at or below the top, and so do the addresses to which it is sent.
abbrev pub block_in_range : Block → Bool
block_in_range b = nat_le b.lo b.hi && nat_le b.hi top

-- the last address of the block is sent to one at or below the top
abbrev pub dest_in_range : Block → Dest → Bool
dest_in_range b d = nat_le (d.addr + (b.hi - b.lo)) top

-- the block of an entry is in range, and so is where it is sent
abbrev pub entry_in_range : Entry → Bool
entry_in_range e = block_in_range e.block && list_all (dest_in_range e.block) e.dests

-- the blocks and the entries of a node are in range
abbrev pub is_in_range : NodeDecl → Bool
is_in_range n = list_all block_in_range n.accepts && list_all entry_in_range n.entries

-- Overlap: the address lies in two map blocks, or in a map block and an accept block.
abbrev pub map_blocks_at : NodeDecl → ℕ → ℕ
map_blocks_at n a = count_by (λ e. within a e.block) n.entries

-- the address lies in two map blocks, or in a map block and an accept block
abbrev pub overlaps : NodeDecl → ℕ → Bool
overlaps n a = nat_lt 1 (map_blocks_at n a) || (nat_lt 0 (map_blocks_at n a) && in_some_block a n.accepts)

-- the first addresses of the blocks
abbrev pub first_addresses : NodeDecl → List ℕ
first_addresses n = map (λ e. e.block.lo) n.entries ++ map (λ b. b.lo) n.accepts

-- the lesser of a number and one that may be there
abbrev pub lesser_number : ℕ → Option ℕ → Option ℕ
lesser_number a None = Some a
lesser_number a (Some b) = Some (if nat_le a b then a else b)

-- the least of some numbers
abbrev pub least_number : List ℕ → Option ℕ
least_number [] = None
least_number (a ∷ as') = lesser_number a (least_number as')

-- the least address that overlaps: it is the first address of a block
abbrev pub least_overlap : NodeDecl → Option ℕ
least_overlap n = least_number (filter (overlaps n) (first_addresses n))

-- an address overlaps, and none below it does
pub record IsLeastOverlap (n : NodeDecl) (a : ℕ) : Type 0 where
  pub overlap : overlaps n a ≡ true
  pub none_less : (b : ℕ) → overlaps n b ≡ true → a ≤ b

-- `least_overlap` is the least address that overlaps, where there is one.
abbrev pub LeastOverlapIsLeast : Type 0
LeastOverlapIsLeast = (n : NodeDecl) → ((a : ℕ) → least_overlap n ≡ Some a → IsLeastOverlap n a) × ((a : ℕ) → overlaps n a ≡ true → IsSome (least_overlap n))

-- Repeat: an entry has two equal destinations, or a unit names a port twice.
abbrev pub same_dest : Dest → Dest → Bool
same_dest d e = (d.node == e.node) && (d.addr == e.addr)

-- two destinations of a list are equal
abbrev pub dests_repeat : List Dest → Bool
dests_repeat [] = false
dests_repeat (d ∷ ds) = list_any (same_dest d) ds || dests_repeat ds

-- a list names a port twice
abbrev pub ports_repeat : List ℕ → Bool
ports_repeat [] = false
ports_repeat (p ∷ ps) = list_any (λ q. p == q) ps || ports_repeat ps

-- a unit is there that names a port twice
abbrev pub unit_repeats : Option UnitPart → Bool
unit_repeats None = false
unit_repeats (Some u) = ports_repeat u.ports

-- a node names a destination or a port twice
abbrev pub repeats : NodeDecl → Bool
repeats n = list_any (λ e. dests_repeat e.dests) n.entries || unit_repeats n.unit

-- VectorSpace: a `vectors` node has a map or an `over`, or accepts more than 4,096 different addresses.
-- how many of the first so many addresses pass a test; no proof unfolds it at a numeral
unfoldable pub count_below : (ℕ → Bool) → ℕ → ℕ
count_below p zero = 0
count_below p (suc k) = count_below p k + (if p k then 1 else 0)

-- the role is that of interrupt vectors
abbrev pub is_vectors : Role → Bool
is_vectors Vectors = true
is_vectors _ = false

-- how many addresses the node accepts
abbrev pub accepted_count : NodeDecl → ℕ
accepted_count n = count_below (λ a. in_some_block a n.accepts) (top + 1)

-- a node is no `vectors` node, or has neither a map nor an `over`, and not too many addresses
abbrev pub passes_vector_space : NodeDecl → Bool
passes_vector_space n = not (is_vectors n.role) || ((nat_le (length n.entries) 0 && not (is_some n.over)) && nat_le (accepted_count n) 4096)

-- the first rule behind the range that the node of this number breaks, where its least overlap is known
abbrev pub later_fault : ℕ → NodeDecl → Option ℕ → Option BrokenNode
later_fault number n (Some a) = Some (overlapping number a)
later_fault number n None =
    if repeats n then Some (repeating number)
    else (if passes_vector_space n then None else Some (past_space number))

-- the first rule that the node of this number breaks
abbrev pub fault_of_node : ℕ → NodeDecl → Option BrokenNode
fault_of_node number n =
    if is_in_range n then later_fault number n (least_overlap n) else Some (out_of_range number)

-- one fault, or another where there is none
abbrev pub first_fault : Option BrokenNode → Option BrokenNode → Option BrokenNode
first_fault (Some f) g = Some f
first_fault None g = g

-- the first rule that is broken by nodes of which the first has this number
abbrev pub node_fault_from : ℕ → List NodeDecl → Option BrokenNode
node_fault_from number [] = None
node_fault_from number (n ∷ ns) = first_fault (fault_of_node number n) (node_fault_from (number + 1) ns)

-- the first node rule that is broken, node by node
abbrev pub node_fault : List NodeDecl → Option BrokenNode
node_fault net = node_fault_from 0 net

-- what the node rules leave of a node: its blocks are in range and apart, it names nothing twice, and a vectors node has room
pub record KeepsRules (n : NodeDecl) : Type 0 where
  pub in_range : IsTrue (is_in_range n)
  pub apart : (a : ℕ) → overlaps n a ≡ false
  pub once : repeats n ≡ false
  pub space : IsTrue (passes_vector_space n)

-- each node keeps the node rules, and each node to which one refers is there
pub record KeepsNodeRules (net : List NodeDecl) : Type 0 where
  pub closed : IsTrue (is_closed net)
  pub each : All KeepsRules net
