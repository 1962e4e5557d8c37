-- Splitting: each node that accepts and translates is divided into one that translates and one
-- that accepts.
use Rattle.std.specs.Prelude.{◌≡◌, ℕ, zero, suc, ◌+◌, ◌^◌, ◌<◌, ◌≤◌, Bool, true, false, if◌then◌else◌, ◌&&◌, ◌||◌, nat_lt, List, [], ◌∷◌, ◌++◌, map, length, take, codes, slice_get, Option, Some, None, Result, IsTrue, bytes_eq}
use Rattle.std.specs.Fmt.{decimal}
use Rattle.std.specs.List.{list_all, list_any}
use Rattle.std.specs.Option.{is_some}
use Rattle.dn_net.specs.declared.node.Name.{Name}
use Rattle.dn_net.specs.declared.node.Block.{Block}
use Rattle.dn_net.specs.declared.node.Entry.{Entry}
use Rattle.dn_net.specs.declared.node.Role.TheVariants.{Plain}
use Rattle.dn_net.specs.declared.node.NodeDecl.{NodeDecl}
use Rattle.dn_net.specs.Decode.{top, in_some_block}
use Rattle.dn_net.specs.Parts.{parts_of_node}
use Rattle.dn_net.specs.Rules.{block_in_range}
use Rattle.dn_net.specs.Walks.{all_addresses, cut_each}
use Rattle.dn_shape.specs.Limits.{passed_limit, value_by_limit}

-- the maximal spans of blocks, ascending: what is left of all addresses when all that the blocks
-- leave is cut out
abbrev pub maximal_spans : List Block → List Block
maximal_spans blocks = cut_each (cut_each blocks (all_addresses ∷ [])) (all_addresses ∷ [])

-- the node has accept blocks, and a map or an `over`
abbrev pub is_divided : NodeDecl → Bool
is_divided n = nat_lt 0 (length n.accepts) && (nat_lt 0 (length n.entries) || is_some n.over)

-- the new nodes for a node: one where it is divided, else none
abbrev pub new_nodes : NodeDecl → ℕ
new_nodes n = if is_divided n then 1 else 0

-- how many of the nodes are divided
abbrev pub divided_count : List NodeDecl → ℕ
divided_count [] = 0
divided_count (n ∷ ns) = new_nodes n + divided_count ns

-- the map entry from a block to the same addresses of a node
abbrev pub entry_onto : ℕ → Block → Entry
entry_onto m b = record { block = b; dests = record { node = m; addr = b.lo } ∷ [] }

-- the node without its accept blocks, whose spans it sends to another node, after its own entries
abbrev pub sender_to : ℕ → NodeDecl → NodeDecl
sender_to m n = record {
  text = n.text;
  role = n.role;
  accepts = [];
  entries = n.entries ++ map (entry_onto m) (maximal_spans n.accepts);
  over = n.over;
  unit = n.unit;
}

-- the node, which sends its spans to the other where it is divided
abbrev pub sending_node : ℕ → NodeDecl → NodeDecl
sending_node m n = if is_divided n then sender_to m n else n

-- the nodes, where each divided one sends to the next new node: the first new one has a number
abbrev pub sending_nodes : ℕ → List NodeDecl → List NodeDecl
sending_nodes next [] = []
sending_nodes next (n ∷ ns) = sending_node next n ∷ sending_nodes (next + new_nodes n) ns

-- the full name `N.accK`
abbrev pub accepter_text : List ℕ → ℕ → List ℕ
accepter_text text k = text ++ (codes ".acc" ++ decimal k)

-- a node has the full name
abbrev pub is_named : List NodeDecl → List ℕ → Bool
is_named net text = list_any (λ d. bytes_eq text d.text) net

-- the first number from one on that fails a test, where so many are tried; else the next
abbrev pub first_failing : (ℕ → Bool) → ℕ → ℕ → ℕ
first_failing test zero k = k
first_failing test (suc n) k = if test k then first_failing test n (suc k) else k

-- the first K from 0 on for which `N.accK` names no node: of one number more than there are
-- nodes, one names none
abbrev pub free_number : List NodeDecl → List ℕ → ℕ
free_number net text = first_failing (λ k. is_named net (accepter_text text k)) (length net) 0

-- the new node of a divided one accepts its spans, and has the first such name that names no node
abbrev pub accepter : List NodeDecl → NodeDecl → NodeDecl
accepter net n = record {
  text = accepter_text n.text (free_number net n.text);
  role = Plain;
  accepts = maximal_spans n.accepts;
  entries = [];
  over = None;
  unit = None;
}

-- nodes, with a new one for a node where that is divided
abbrev pub with_accepter : List NodeDecl → NodeDecl → List NodeDecl
with_accepter net n = if is_divided n then net ++ accepter net n ∷ [] else net

-- nodes, with a new one for each divided one of others, in their order
abbrev pub with_accepters : List NodeDecl → List NodeDecl → List NodeDecl
with_accepters net [] = net
with_accepters net (n ∷ ns) = with_accepters (with_accepter net n) ns

-- the split net: the old nodes, and behind them the new ones
abbrev pub split_net : List NodeDecl → List NodeDecl
split_net net = with_accepters (sending_nodes (length net) net) net

-- the split net, or the first limit that it passes
abbrev pub split_outcome : List NodeDecl → Result (List NodeDecl) ℕ
split_outcome net = value_by_limit (split_net net) (passed_limit (split_net net))

-- the parts of a node by which its addresses go on: its entries, and its `over`
abbrev pub ways_of : NodeDecl → ℕ
ways_of n = length n.entries + (if is_some n.over then 1 else 0)

-- the parts of a node in the split net, with those of the new one for it: each span is an entry of the
-- one and an accept block of the other
abbrev pub parts_when_split : NodeDecl → ℕ
parts_when_split n =
    if is_divided n
    then length (maximal_spans n.accepts) + (length (maximal_spans n.accepts) + ways_of n)
    else parts_of_node n

-- those of all nodes
abbrev pub parts_of_split : List NodeDecl → ℕ
parts_of_split [] = 0
parts_of_split (n ∷ ns) = parts_when_split n + parts_of_split ns

-- the name of a node, renamed to that of the node which accepts for it
abbrev pub renamed_at : List NodeDecl → Name → Option NodeDecl → Name
renamed_at net x None = x
renamed_at net x (Some n) =
    if is_divided n then record { node = length net + divided_count (take x.node net); addr = x.addr }
    else x

-- each name of a divided node is renamed to its new node
abbrev pub split_name : List NodeDecl → Name → Name
split_name net x = renamed_at net x (slice_get net x.node)

-- THE LAWS
-- the blocks stand at an address or above it, ascending up to the top, and leave out at least one
-- address between two
abbrev pub AreBlocksApart : ℕ → List Block → Type 0
AreBlocksApart from [] = Unit {0}
AreBlocksApart from (b ∷ bs) = (from ≤ b.lo) × (b.lo ≤ b.hi) × (b.hi ≤ top) × AreBlocksApart (b.hi + 2) bs

-- The maximal spans of blocks have exactly the addresses of the blocks, and no two of them
-- overlap or are adjacent.
abbrev pub SpansAreMaximal : Type 0
SpansAreMaximal = (blocks : List Block) → IsTrue (list_all block_in_range blocks) →
    AreBlocksApart 0 (maximal_spans blocks)
    × ((a : ℕ) → in_some_block a (maximal_spans blocks) ≡ in_some_block a blocks)

-- The number in a new node's name is the first for which the name names no node.
abbrev pub FreeNumberIsFirst : Type 0
FreeNumberIsFirst = (net : List NodeDecl) (text : List ℕ) → length net < 2 ^ 63 →
    (is_named net (accepter_text text (free_number net text)) ≡ false)
    × ((k : ℕ) → k < free_number net text → is_named net (accepter_text text k) ≡ true)
