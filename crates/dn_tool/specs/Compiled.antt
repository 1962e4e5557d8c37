-- What a text comes to: its net and commands, or the first rule that it breaks.
use Rattle.std.specs.Prelude.{◌≡◌, ℕ, List, Option, Some, None, Result, Ok, Err}
use Rattle.dn_parse.specs.Tree.{Tree}
use Rattle.dn_parse.specs.Whole.{TextFault, text_reading}
use Rattle.dn_net.specs.Rules.{BrokenNode, node_fault}
use Rattle.dn_net.specs.WalkRules.{Broken, walk_fault}
use Rattle.dn_kind.specs.Kind.{Meaning}
use Rattle.dn_kind.specs.Units.{shape_fault}
use Rattle.dn_scope.specs.Faults.{ExpansionFault}
use Rattle.dn_module.specs.Expand.{Expansion, expansion_of}
use Rattle.dn_tool.specs.declared.compile.CompileFault.{CompileFault}
use Rattle.dn_tool.specs.declared.compile.CompileFault.TheVariants.{Refused, OutOfMemory}
use Rattle.dn_tool.specs.Platform.{PlatformState}
use Rattle.dn_tool.specs.declared.refusal.Refusal.{Refusal}
use Rattle.dn_tool.specs.Refused.{BrokenRule, of_expansion, of_nodes, of_text, of_units, of_walks, refusal_of}

-- a net and commands, or a broken rule
abbrev pub Compilation : Type 0
Compilation = Result Expansion BrokenRule

-- the rules on walks come last
abbrev pub by_walk_rules : Expansion → Option Broken → Compilation
by_walk_rules o (Some fault) = Err (of_walks o.net fault)
by_walk_rules o None = Ok o

-- the rule on the shape of units comes before them
abbrev pub by_unit_rule : Expansion → Option ℕ → Compilation
by_unit_rule o (Some node) = Err (of_units o.net node)
by_unit_rule o None = by_walk_rules o (walk_fault o.net)

-- the node rules come before that
abbrev pub by_node_rules : List Meaning → Expansion → Option BrokenNode → Compilation
by_node_rules kinds o (Some fault) = Err (of_nodes o.net fault)
by_node_rules kinds o None = by_unit_rule o (shape_fault kinds o.net)

-- what an expansion comes to: the node rules, the rule on units, and then the rules on walks
abbrev pub expansion_compilation : List Meaning → Result Expansion ExpansionFault → Compilation
expansion_compilation kinds (Err fault) = Err (of_expansion fault)
expansion_compilation kinds (Ok o) = by_node_rules kinds o (node_fault o.net)

-- what a reading comes to: the rules on what a tree expands to, and then those on the net
abbrev pub reading_compilation : List Meaning → Result Tree TextFault → Compilation
reading_compilation kinds (Err fault) = Err (of_text fault)
reading_compilation kinds (Ok tree) = expansion_compilation kinds (expansion_of kinds tree)

-- what a text comes to where these kinds of units are known: the reader's faults first, and then
-- the rules
unfoldable pub compilation : List Meaning → List ℕ → Compilation
compilation kinds text = reading_compilation kinds (text_reading text)

-- the broken rule, where there is one
abbrev pub broken_rule : Compilation → Option BrokenRule
broken_rule (Err broken) = Some broken
broken_rule (Ok o) = None

-- the first rule that a text breaks with all that it carries, or none
abbrev pub fault : List Meaning → List ℕ → Option BrokenRule
fault kinds text = broken_rule (compilation kinds text)

-- a text that breaks none
abbrev pub IsLegal : List Meaning → List ℕ → Type 0
IsLegal kinds text = fault kinds text ≡ None

-- a broken rule as its refusal: the rule and its line
abbrev pub with_refusal : Compilation → Result Expansion Refusal
with_refusal (Err broken) = Err (refusal_of broken)
with_refusal (Ok o) = Ok o

-- a platform as the net and commands of the definitions; its walks are those of the net
abbrev pub platform_view : PlatformState → Expansion
platform_view p = record { net = p.net; commands = p.commands }

-- the fault of `compile` as the refusal that it is; want of memory is none
abbrev pub compile_fault_view : CompileFault → Option Refusal
compile_fault_view (Refused r) = Some r
compile_fault_view OutOfMemory = None
