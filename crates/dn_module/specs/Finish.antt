-- What is left to do once the statements are rewritten: the commands' expressions, and then the nodes' references.
use Rattle.std.specs.Prelude.{List, Result, Ok}
use Rattle.dn_parse.specs.Tree.{Command}
use Rattle.dn_module.specs.declared.draft.Draft.{Draft}
use Rattle.dn_module.specs.declared.expansion.Expanded.{Expanded}
use Rattle.dn_module.specs.Commands.{commands_of}
use Rattle.dn_module.specs.Drafts.{names, node_of}
use Rattle.dn_module.specs.Expand.{Expansion}
use Rattle.dn_scope.specs.Values.{◌>>=◌, each}
use Rattle.dn_scope.specs.Faults.{ExpansionFault}

-- the commands, and then the net of the drafts
abbrev pub outcome_of : List Draft → List Command → Result Expansion ExpansionFault
outcome_of drafts commands = do
  made ← commands_of (names drafts) commands
  net ← each (node_of (names drafts)) drafts
  Ok (record { net = net; commands = made })

-- a net, and the commands of its text
abbrev pub outcome_view : Expanded → Expansion
outcome_view e = record { net = e.net; commands = e.commands }
