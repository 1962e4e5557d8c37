use Rattle.std.proofs.Common.{rules, ◌≡◌, ◌∙◌, ap, sym, List, Option, Some, None, Ok, option_map}
use Rattle.dn_token.specs.Token.{Token}
use Rattle.dn_token.specs.Cursor.{cursor_view}
use Rattle.dn_parse.specs.declared.syntax.Cmd.{Cmd}
use Rattle.dn_parse.specs.Tree.{Command}
use Rattle.dn_parse.specs.Plain.{is_plain_order}
use Rattle.dn_parse.specs.Views.{command_view}
use Rattle.dn_parse.proofs.Scripts.{answered_is, no_command, command_halts}
use Rattle.dn_parse.proofs.script.Script.pass_command.Goals as goal

pub returns-in-Ok-Some-clause-ok : goal.returns-in-Ok-Some-clause-ok
returns-in-Ok-Some-clause-ok c =
    let next = answered_is (cursor_view c.args.tokens.now) c.args.line c.in-Ok-Some.field-0 (Some c.in-Ok-Some.found) (cursor_view c.command.new.tokens) c.requires c.in-Ok-Some.ensures.gives (search rules) in
    ap (λ (o : Option (Command × List Token)). option_map (λ (d : Command × List Token). d.1) o) next

pub returns-in-Ok-Some-clause-plain : goal.returns-in-Ok-Some-clause-plain
returns-in-Ok-Some-clause-plain c =
    let next = answered_is (cursor_view c.args.tokens.now) c.args.line c.in-Ok-Some.field-0 (Some c.in-Ok-Some.found) (cursor_view c.command.new.tokens) c.requires c.in-Ok-Some.ensures.gives (search rules) in
    ap (λ (o : Option (Command × List Token)). option_map (λ (d : Command × List Token). is_plain_order d.0.order) o) next ∙ ap Some (sym c.is_plain-plain.ensures)

pub returns-in-Ok-None-clause-err : goal.returns-in-Ok-None-clause-err
returns-in-Ok-None-clause-err c =
    let is : c.in-Ok-None.field-0 ≡ None = search rules in
    let gives = c.in-Ok-None.ensures.gives ∙ ap (λ (o : Option Cmd). Ok (option_map (λ (q : Cmd). (command_view q, cursor_view c.command.new.tokens)) o)) is in
    λ last all b g. no_command last all b (cursor_view c.args.tokens.now) c.args.line g c.requires gives

pub returns-in-Err-clause-err : goal.returns-in-Err-clause-err
returns-in-Err-clause-err c = λ last all b g. command_halts last all b (cursor_view c.args.tokens.now) c.args.line c.in-Err.halt c.requires c.in-Err.ensures.gives
