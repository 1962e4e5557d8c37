-- A refusal: the rule that a text breaks, and the line that says so, without its end.
use Rattle.std.specs.Prelude.{ℕ, ◌<◌, List, ◌++◌, codes, nat_lt, IsTrue}
use Rattle.std.specs.Fmt.{decimal}
use Rattle.std.specs.List.{list_all}
use Rattle.dn_parse.specs.Whole.{TextFault, too_long, bad_token, statement_fault, block_fault, nesting_fault}
use Rattle.dn_net.specs.declared.node.Name.{Name}
use Rattle.dn_net.specs.declared.node.NodeDecl.{NodeDecl}
use Rattle.dn_net.specs.Rules.{BrokenNode, out_of_range, overlapping, repeating, past_space}
use Rattle.dn_net.specs.WalkRules.{Broken, is_wide, has_loop, is_deep, has_fork, has_chain}
use Rattle.dn_kind.specs.Levels.{are_there}
use Rattle.dn_scope.specs.Faults.{ExpansionFault, is_duplicate, is_unknown, has_other_arguments, has_no_value, passes_limit}
use Rattle.dn_print.specs.Names.{name_text}
use Rattle.dn_print.specs.Statement.{node_name, joined_texts}
use Rattle.dn_tool.specs.declared.refusal.Refusal.{Refusal}
use Rattle.dn_tool.specs.declared.refusal.Rule.{Rule}
use Rattle.dn_tool.specs.declared.refusal.Rule.TheVariants.{Length, Token, Statement, Block, Nesting, Duplicate, Unknown, Arguments, Value, TooMany, Range, Overlap, Repeat, VectorSpace, UnitShape, Wide, Loop, Deep, Fork, Chain}

-- the name of a rule
abbrev pub rule_name : Rule → List ℕ
rule_name Length = codes "Length"
rule_name Token = codes "Token"
rule_name Statement = codes "Statement"
rule_name Block = codes "Block"
rule_name Nesting = codes "Nesting"
rule_name Duplicate = codes "Duplicate"
rule_name Unknown = codes "Unknown"
rule_name Arguments = codes "Arguments"
rule_name Value = codes "Value"
rule_name TooMany = codes "TooMany"
rule_name Range = codes "Range"
rule_name Overlap = codes "Overlap"
rule_name Repeat = codes "Repeat"
rule_name VectorSpace = codes "VectorSpace"
rule_name UnitShape = codes "UnitShape"
rule_name Wide = codes "Wide"
rule_name Loop = codes "Loop"
rule_name Deep = codes "Deep"
rule_name Fork = codes "Fork"
rule_name Chain = codes "Chain"

-- a rule that is broken by the text as a whole
abbrev pub by_text : Rule → Refusal
by_text rule = record { rule = rule; text = codes "refused: " ++ rule_name rule }

-- a rule that is broken at a line
abbrev pub by_line : Rule → ℕ → Refusal
by_line rule line = record { rule = rule; text = codes "refused: line " ++ (decimal line ++ (codes " " ++ rule_name rule)) }

-- a limit that is passed at a line
abbrev pub by_limit : ℕ → ℕ → Refusal
by_limit line limit = record { rule = TooMany; text = codes "refused: line " ++ (decimal line ++ (codes " TooMany " ++ decimal limit)) }

-- a rule that is broken by what is shown after it: nodes, names or a limit
abbrev pub by_shown : Rule → List ℕ → Refusal
by_shown rule text = record { rule = rule; text = codes "refused: " ++ (rule_name rule ++ (codes " " ++ text)) }

-- the refusal of a text that spells no tree
abbrev pub text_refusal : TextFault → Refusal
text_refusal too_long = by_text Length
text_refusal (bad_token line) = by_line Token line
text_refusal (statement_fault line) = by_line Statement line
text_refusal (block_fault line) = by_line Block line
text_refusal (nesting_fault line) = by_line Nesting line

-- the refusal of a tree that expands to no net
abbrev pub expand_refusal : ExpansionFault → Refusal
expand_refusal (is_duplicate line) = by_line Duplicate line
expand_refusal (is_unknown line) = by_line Unknown line
expand_refusal (has_other_arguments line) = by_line Arguments line
expand_refusal (has_no_value line) = by_line Value line
expand_refusal (passes_limit line limit) = by_limit line limit

-- the refusal of a net by a node rule, by the names of its nodes
abbrev pub node_refusal : List NodeDecl → BrokenNode → Refusal
node_refusal net (out_of_range node) = by_shown Range (node_name net node)
node_refusal net (overlapping node addr) = by_shown Overlap (name_text net (record { node = node; addr = addr }))
node_refusal net (repeating node) = by_shown Repeat (node_name net node)
node_refusal net (past_space node) = by_shown VectorSpace (node_name net node)

-- the refusal of a net by the rule on the shape of units, by the name of the unit
abbrev pub unit_refusal : List NodeDecl → ℕ → Refusal
unit_refusal net node = by_shown UnitShape (node_name net node)

-- the names of a chain, from its first to its last
abbrev pub chain_text : List NodeDecl → List Name → List ℕ
chain_text net xs = joined_texts (codes " -> ") (name_text net) xs

-- a name that forks, and the unit that it reaches
abbrev pub fork_text : List NodeDecl → Name → ℕ → List ℕ
fork_text net name unit = name_text net name ++ (codes " " ++ node_name net unit)

-- the full names of units, in their order
abbrev pub units_text : List NodeDecl → List ℕ → List ℕ
units_text net units = joined_texts (codes " ") (node_name net) units

-- the refusal of a net by a rule on walks
abbrev pub walk_refusal : List NodeDecl → Broken → Refusal
walk_refusal net is_wide = by_shown Wide (codes "1048576")
walk_refusal net (has_loop cycle) = by_shown Loop (chain_text net cycle)
walk_refusal net (is_deep path) = by_shown Deep (chain_text net path)
walk_refusal net (has_fork name unit) = by_shown Fork (fork_text net name unit)
walk_refusal net (has_chain units) = by_shown Chain (units_text net units)

-- the first rule that a text breaks, with all that the rule carries: lines and limits, and nodes and names of a net
pub data BrokenRule : Type 0 where
  of_text : TextFault → BrokenRule
  of_expansion : ExpansionFault → BrokenRule
  of_nodes : List NodeDecl → BrokenNode → BrokenRule
  of_units : List NodeDecl → ℕ → BrokenRule
  of_walks : List NodeDecl → Broken → BrokenRule

-- the refusal of a text by the rule that it breaks
abbrev pub refusal_of : BrokenRule → Refusal
refusal_of (of_text fault) = text_refusal fault
refusal_of (of_expansion fault) = expand_refusal fault
refusal_of (of_nodes net fault) = node_refusal net fault
refusal_of (of_units net node) = unit_refusal net node
refusal_of (of_walks net fault) = walk_refusal net fault

-- the node that a broken rule names is one of so many
abbrev pub IsNodeWithin : ℕ → BrokenNode → Type 0
IsNodeWithin count (out_of_range node) = node < count
IsNodeWithin count (overlapping node addr) = node < count
IsNodeWithin count (repeating node) = node < count
IsNodeWithin count (past_space node) = node < count

-- each node that a broken rule on walks names is one of so many
abbrev pub AreNodesWithin : ℕ → Broken → Type 0
AreNodesWithin count is_wide = Unit {0}
AreNodesWithin count (has_loop cycle) = IsTrue (are_there count cycle)
AreNodesWithin count (is_deep path) = IsTrue (are_there count path)
AreNodesWithin count (has_fork name unit) = (name.node < count) × (unit < count)
AreNodesWithin count (has_chain units) = IsTrue (list_all (λ u. nat_lt u count) units)
