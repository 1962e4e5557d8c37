use Rattle.std.proofs.Common.{length}
use Rattle.dn_parse.specs.Script.{script_view}
use Rattle.dn_module.specs.Commands.{commands_of}
use Rattle.dn_module.proofs.Made.{AreMade}
use Rattle.dn_module.proofs.orders.check_commands.Given as goal

abbrev pub invariant-commands : goal.invariant-commands
invariant-commands l = record {
  made : AreMade (length l.names) (commands_of l.names (script_view l.fn.script)) (commands_of l.names (script_view l.rest));
}

abbrev pub decreases-commands : goal.decreases-commands
decreases-commands l = length (script_view l.rest)
