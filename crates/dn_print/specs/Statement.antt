-- The text of a net: a statement for each node, in order.
use Rattle.std.specs.Prelude.{ℕ, List, [], ◌∷◌, ◌++◌, codes, slice_get, Option, Some, None}
use Rattle.std.specs.List.{flat_map}
use Rattle.std.specs.Fmt.{decimal}
use Rattle.dn_net.specs.declared.node.Block.{Block}
use Rattle.dn_net.specs.declared.node.Dest.{Dest}
use Rattle.dn_net.specs.declared.node.Entry.{Entry}
use Rattle.dn_net.specs.declared.node.Role.{Role}
use Rattle.dn_net.specs.declared.node.Role.TheVariants.{Plain, Agent, Vectors, Unit as UnitRole}
use Rattle.dn_net.specs.declared.node.Unit.{Unit as UnitPart}
use Rattle.dn_net.specs.declared.node.NodeDecl.{NodeDecl}
use Rattle.dn_kind.specs.Kind.{Meaning}
use Rattle.dn_print.specs.Names.{address_text, node_text}

-- each item's text after a mark
abbrev pub marked_texts : {X : Type 0} → List ℕ → (X → List ℕ) → List X → List ℕ
marked_texts mark text [] = []
marked_texts mark text (x ∷ xs) = mark ++ (text x ++ marked_texts mark text xs)

-- the items' texts with a mark between each two
abbrev pub joined_texts : {X : Type 0} → List ℕ → (X → List ℕ) → List X → List ℕ
joined_texts mark text [] = []
joined_texts mark text (x ∷ xs) = text x ++ marked_texts mark text xs

-- a block: its first and its last address, also where they are one
abbrev pub block_text : Block → List ℕ
block_text b = address_text b.lo ++ (codes "-" ++ address_text b.hi)

-- blocks, joined by commas
abbrev pub blocks_text : List Block → List ℕ
blocks_text bs = joined_texts (codes ", ") block_text bs

-- the full name of the node of this number
abbrev pub node_name : List NodeDecl → ℕ → List ℕ
node_name net m = node_text (slice_get net m)

-- a destination: the node's full name and the address
abbrev pub dest_text : List NodeDecl → Dest → List ℕ
dest_text net d = node_name net d.node ++ (codes " at " ++ address_text d.addr)

-- destinations, joined by `and`
abbrev pub dests_text : List NodeDecl → List Dest → List ℕ
dests_text net ds = joined_texts (codes " and ") (dest_text net) ds

-- an entry: the block and where it is sent
abbrev pub entry_text : List NodeDecl → Entry → List ℕ
entry_text net e = block_text e.block ++ (codes " to " ++ dests_text net e.dests)

-- entries, joined by commas
abbrev pub entries_text : List NodeDecl → List Entry → List ℕ
entries_text net es = joined_texts (codes ", ") (entry_text net) es

-- what a node accepts, where it accepts anything
abbrev pub accept_text : List Block → List ℕ
accept_text [] = []
accept_text (b ∷ bs) = codes " accept [" ++ (blocks_text (b ∷ bs) ++ codes "]")

-- what a node maps, where it maps anything
abbrev pub map_text : List NodeDecl → List Entry → List ℕ
map_text net [] = []
map_text net (e ∷ es) = codes " map [" ++ (entries_text net (e ∷ es) ++ codes "]")

-- the node that serves the rest, where there is one
abbrev pub over_text : List NodeDecl → Option ℕ → List ℕ
over_text net None = []
over_text net (Some m) = codes " over " ++ node_name net m

-- the parts of a node that is no unit, in their order
abbrev pub parts_text : List NodeDecl → NodeDecl → List ℕ
parts_text net n =
    codes " is" ++ (accept_text n.accepts ++ (map_text net n.entries ++ over_text net n.over))

-- the name of a kind, where there is one
abbrev pub kind_name : Option Meaning → List ℕ
kind_name None = []
kind_name (Some kind) = kind.name

-- the name of the kind of a number, empty where the list of kinds has none
abbrev pub kind_text : List Meaning → ℕ → List ℕ
kind_text kinds k = kind_name (slice_get kinds k)

-- the full names of ports, joined by commas
abbrev pub ports_text : List NodeDecl → List ℕ → List ℕ
ports_text net ps = joined_texts (codes ", ") (node_name net) ps

-- the parts of a unit of a kind of this name
abbrev pub unit_text : List ℕ → List NodeDecl → UnitPart → List ℕ
unit_text kind net u =
    codes " kind " ++ (kind ++ (codes " page " ++ (decimal u.page ++ (codes " slots " ++ (decimal u.slots ++ (
    codes " reach " ++ (decimal u.reach ++ (codes " to " ++ ports_text net u.ports))))))))

-- what stands after a node's name
abbrev pub body_text : List Meaning → List NodeDecl → NodeDecl → Option UnitPart → List ℕ
body_text kinds net n None = parts_text net n
body_text kinds net n (Some u) = unit_text (kind_text kinds u.kind) net u

-- the word before a node's name
abbrev pub role_text : Role → List ℕ
role_text Plain = []
role_text Agent = codes "agent "
role_text Vectors = codes "vectors "
role_text UnitRole = codes "unit "

-- a node's statement, a line
abbrev pub statement_text : List Meaning → List NodeDecl → NodeDecl → List ℕ
statement_text kinds net n = role_text n.role ++ (n.text ++ (body_text kinds net n n.unit ++ codes ";\n"))

-- the parts of a node that is no unit, where there is the node
abbrev pub parts_at : List NodeDecl → Option NodeDecl → List ℕ
parts_at net None = []
parts_at net (Some n) = parts_text net n

-- a node's statement, where there is the node
abbrev pub statement_text_at : List Meaning → List NodeDecl → Option NodeDecl → List ℕ
statement_text_at kinds net None = []
statement_text_at kinds net (Some n) = statement_text kinds net n

-- the text of a net whose units are of these kinds: each node's statement, in order
abbrev pub net_text : List Meaning → List NodeDecl → List ℕ
net_text kinds net = flat_map (statement_text kinds net) net
