-- Nets that a text can say, by the net alone.
use Rattle.std.specs.Prelude.{◌≡◌, ℕ, ◌<◌, ◌≤◌, ◌^◌, List, [], map, length, sum, count_by, Option, Some, None, Ok, IsTrue}
use Rattle.std.specs.List.{All}
use Rattle.dn_parse.specs.Tree.{Tree}
use Rattle.dn_parse.specs.Whole.{text_reading}
use Rattle.dn_net.specs.declared.node.Block.{Block}
use Rattle.dn_net.specs.declared.node.Dest.{Dest}
use Rattle.dn_net.specs.declared.node.Entry.{Entry}
use Rattle.dn_net.specs.declared.node.NodeDecl.{NodeDecl}
use Rattle.dn_net.specs.declared.node.Unit.{Unit as UnitPart}
use Rattle.dn_net.specs.Decode.{is_agent, is_closed, is_unit}
use Rattle.dn_net.specs.Legal.{IsNet}
use Rattle.dn_net.specs.Parts.{parts_of_node}
use Rattle.dn_kind.specs.Kind.{Meaning, kind_place}
use Rattle.dn_module.specs.Expand.{Expansion, expansion_of}
use Rattle.dn_print.specs.Spelled.{IsAnyWord, IsFullName}
use Rattle.dn_print.specs.Statement.{kind_text, net_text}

-- a block of two numbers of 64 bits
abbrev pub IsPrintableBlock : Block → Type 0
IsPrintableBlock b = (b.lo < 2 ^ 64) × (b.hi < 2 ^ 64)

-- an entry of 1 to 8 destinations, all of its addresses numbers of 64 bits
pub record IsPrintableEntry (e : Entry) : Type 0 where
  pub block : IsPrintableBlock e.block
  pub addresses : All (λ (d : Dest). d.addr < 2 ^ 64) e.dests
  pub some : 1 ≤ length e.dests
  pub few : length e.dests ≤ 8

-- A unit whose kind is the first in the list that is called by its word, whose page and reach are
-- at most 255 and its slots at most 2^32 - 1, with 1 to 8 ports.
pub record IsPrintableUnit (kinds : List Meaning) (u : UnitPart) : Type 0 where
  pub word : IsAnyWord (kind_text kinds u.kind)
  pub first : kind_place kinds (kind_text kinds u.kind) ≡ Some u.kind
  pub page : u.page ≤ 255
  pub slots : u.slots ≤ 4294967295
  pub reach : u.reach ≤ 255
  pub some : 1 ≤ length u.ports
  pub few : length u.ports ≤ 8

-- the same, where there is a unit
abbrev pub HasPrintableUnit : List Meaning → Option UnitPart → Type 0
HasPrintableUnit kinds None = Unit {0}
HasPrintableUnit kinds (Some u) = IsPrintableUnit kinds u

-- a node with a full name that a text can spell, and with parts that it can say
pub record IsPrintableNode (kinds : List Meaning) (n : NodeDecl) : Type 0 where
  pub name : IsFullName n.text
  pub accepts : All IsPrintableBlock n.accepts
  pub entries : All IsPrintableEntry n.entries
  pub unit : HasPrintableUnit kinds n.unit

-- A net that a text can say, where units are of these kinds: at most 1,024 formed nodes with
-- different full names, each node to which one refers there, each node printable, and at most 64
-- agents, 64 units and 16,384 parts.
pub record IsPrintable (kinds : List Meaning) (net : List NodeDecl) : Type 0 where
  pub is_net : IsNet net
  pub closed : IsTrue (is_closed net)
  pub nodes : All (IsPrintableNode kinds) net
  pub agents : count_by (λ (n : NodeDecl). is_agent n.role) net ≤ 64
  pub units : count_by (λ (n : NodeDecl). is_unit n.role) net ≤ 64
  pub parts : sum (map parts_of_node net) ≤ 16384

-- THE LAWS
-- reading and expanding the text gives the net, with no commands
abbrev pub GivesBack : List Meaning → List ℕ → List NodeDecl → Type 0
GivesBack kinds text net =
    (again : Tree) × (text_reading text ≡ Ok again)
    × (expansion_of kinds again ≡ Ok (record { net = net; commands = [] }))

-- A net that came of a text is printable.
abbrev pub TextsArePrintable : Type 0
TextsArePrintable = (kinds : List Meaning) (text : List ℕ) (tree : Tree) (made : Expansion) →
    text_reading text ≡ Ok tree → expansion_of kinds tree ≡ Ok made → IsPrintable kinds made.net

-- Reading and expanding the text of a printable net gives that net, with the same kinds of units,
-- where its text is not too long.
abbrev pub PrintableIsReadBack : Type 0
PrintableIsReadBack = (kinds : List Meaning) (net : List NodeDecl) → IsPrintable kinds net →
    length (net_text kinds net) ≤ 4194304 → GivesBack kinds (net_text kinds net) net
