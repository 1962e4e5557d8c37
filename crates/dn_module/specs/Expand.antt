-- Expansion by substitution: a list of statements is rewritten, the first one at a time, until none is left.
use Rattle.std.specs.Prelude.{ℕ, zero, suc, if◌then◌else◌, nat_le, List, [], ◌∷◌, ◌++◌, Result, Ok, Err}
use Rattle.dn_parse.specs.Tree.{Expression, Item, declared, module_of, instance, loop, Items, Tree}
use Rattle.dn_net.specs.declared.node.NodeDecl.{NodeDecl}
use Rattle.dn_kind.specs.Kind.{Meaning}
use Rattle.dn_module.specs.declared.draft.Draft.{Draft}
use Rattle.dn_module.specs.declared.command.Command.{Command}
use Rattle.dn_scope.specs.Values.{◌>>=◌, each, value}
use Rattle.dn_scope.specs.Faults.{at_line, ExpansionFault, passes_limit}
use Rattle.dn_module.specs.Drafts.{draft_of_declaration, with_draft, names, node_of}
use Rattle.dn_module.specs.Commands.{commands_of}
use Rattle.dn_scope.specs.Uses.{Module, Visibility, outside, Work, statement, turns, statements, line_of_work, with_module, usable_modules, module_from, use_rewriting, turn_of}

-- the modules known and the nodes made, in order
pub record ExpansionState : Type 0 where
  pub modules : List Module
  pub drafts : List Draft

-- no module and no node
abbrev pub nothing_yet : ExpansionState
nothing_yet = record { modules = []; drafts = [] }

-- a loop becomes its turns, if it has any
abbrev pub loop_of : Visibility → ℕ → List ℕ → Expression → Expression → Items → Result (List Work) ExpansionFault
loop_of s line w from upto body = do
  a ← at_line line (value from)
  b ← at_line line (value upto)
  Ok (if nat_le a b then turns s line w a b body ∷ [] else [])

-- a state with other nodes
abbrev pub with_drafts : ExpansionState → List Draft → ExpansionState
with_drafts state drafts = record { modules = state.modules; drafts = drafts }

-- a state with other modules
abbrev pub with_modules : ExpansionState → List Module → ExpansionState
with_modules state modules = record { modules = modules; drafts = state.drafts }

-- one rewriting: what takes the place of the first statement, and the state behind it
abbrev pub item_rewriting : List Meaning → Visibility → ExpansionState → Item → Result (List Work × ExpansionState) ExpansionFault
item_rewriting kinds s state (declared line d) = do
  draft ← draft_of_declaration kinds line d
  drafts ← with_draft state.drafts draft
  Ok ([], with_drafts state drafts)
item_rewriting kinds s state (module_of line title params body) = do
  modules ← with_module state.modules line (record { title = title; params = params; body = body })
  Ok ([], with_modules state modules)
item_rewriting kinds s state (instance line title args prefix) = do
  works ← use_rewriting line args prefix (module_from 0 title (usable_modules s state.modules))
  Ok (works, state)
item_rewriting kinds s state (loop line w from upto body) = do
  works ← loop_of s line w from upto body
  Ok (works, state)

-- one rewriting of a statement or of a turn
abbrev pub rewriting : List Meaning → ExpansionState → Work → Result (List Work × ExpansionState) ExpansionFault
rewriting kinds state (statement s i) = item_rewriting kinds s state i
rewriting kinds state (turns s line w a b body) = Ok (turn_of s line w a b body, state)

-- All rewritings. Each is a step, and no more than so many are left: each statement taken, and each turn.
abbrev pub all_rewritings : List Meaning → ℕ → List Work → ExpansionState → Result ExpansionState ExpansionFault
all_rewritings kinds left [] state = Ok state
all_rewritings kinds zero (w ∷ ws) state = Err (passes_limit (line_of_work w) 65536)
all_rewritings kinds (suc left) (w ∷ ws) state = do
  next ← rewriting kinds state w
  all_rewritings kinds left (next.0 ++ ws) next.1

-- no proof unfolds it
unfoldable pub most_steps : ℕ
most_steps = 65536

-- the net and the commands of a tree
pub record Expansion : Type 0 where
  pub net : List NodeDecl
  pub commands : List Command

-- What a tree expands to with these kinds of units, or its first fault: those of the declarations, of the
-- commands' expressions, and of the nodes' references.
unfoldable pub expansion_of : List Meaning → Tree → Result Expansion ExpansionFault
expansion_of kinds tree = do
  state ← all_rewritings kinds most_steps (statements outside tree.body) nothing_yet
  commands ← commands_of (names state.drafts) tree.commands
  net ← each (node_of (names state.drafts)) state.drafts
  Ok (record { net = net; commands = commands })
