use Rattle.std.proofs.Common.{◌≡◌, [], ◌∷◌, subst, MatchOption, length}
use Rattle.dn_parse.specs.Script.{script_view}
use Rattle.dn_parse.specs.Views.{command_view}
use Rattle.dn_module.specs.Commands.{command_of, commands_of}
use Rattle.dn_scope.specs.Faults.{at_line}
use Rattle.dn_module.proofs.Made.{made_more}
use Rattle.dn_module.proofs.PlainMade.{made_is, plain_list}
use Rattle.dn_module.proofs.orders.check_commands.Goals as goal

pub commands-preserved : goal.commands-preserved
commands-preserved c =
    let known = c.args.names.now in
    let next : script_view c.commands.rest ≡ command_view c.in-Some.asked ∷ script_view c.in-Some.behind = subst (λ o. MatchOption o (script_view c.commands.rest ≡ []) (λ p. script_view c.commands.rest ≡ command_view p.0 ∷ script_view p.1)) c.in-Some.is c.in_ok-asked.ensures in
    record { made = made_more (λ x. at_line x.line (command_of known x.order)) (length known) (commands_of known (script_view c.args.script)) _ _ _ next c.in_ok-check_command.ensures.made c.commands.invariant.made }

pub returns-then-is_plain-clause-made : goal.returns-then-is_plain-clause-made
returns-then-is_plain-clause-made c = made_is _ (plain_list c.args.names.now (script_view c.args.script) (c.is_plain.ensures c.if-is_plain.true)).0

pub returns-then-is_plain-clause-known : goal.returns-then-is_plain-clause-known
returns-then-is_plain-clause-known c = (plain_list c.args.names.now (script_view c.args.script) (c.is_plain.ensures c.if-is_plain.true)).1
