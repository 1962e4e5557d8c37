use Rattle.std.proofs.Common.{rules, ◌≡◌, sym, subst, ℕ, List, [], length, true, refl, Result, Err, IfSome, IfErr, arith, Fits, w32}
use Rattle.dn_token.specs.Token.{Token}
use Rattle.dn_token.specs.Cursor.{cursor_view}
use Rattle.dn_parse.specs.declared.script.Script.{Script}
use Rattle.dn_parse.specs.declared.blocks.Trouble.{Trouble}
use Rattle.dn_parse.specs.Whole.{Blocks, judge}
use Rattle.dn_parse.specs.Commands.{commands_from, with_commands}
use Rattle.dn_parse.specs.Faults.{trouble_view}
use Rattle.dn_parse.specs.Script.{script_view}
use Rattle.dn_parse.proofs.Scripts.{none_yet, one_more, judge_commands, judge_script, fault_before}
use Rattle.dn_parse.proofs.PlainOnes.{plain_more}
use Rattle.dn_parse.proofs.script.Script.new.Goals as goal

pub commands-init : goal.commands-init
unfolding commands_from
commands-init c = record { read = none_yet (cursor_view c.args.tokens); plain = λ h. refl; room = omega arith }

pub returns-in_err-one-clause-err : goal.returns-in_err-one-clause-err
returns-in_err-one-clause-err c =
    let ts = cursor_view c.args.tokens in
    let same : c.from_residual.result ≡ Err c.in_err-one.field-0.0 = search rules in
    subst (λ (r : Result Script Trouble). IfErr r (λ e. (last : ℕ) → (all : List Token) → (b : Blocks) → b.begun ≡ true → IfSome (trouble_view e last all) (λ f. judge last all b ts ≡ Err f))) (sym same)
    (λ last all b g. fault_before (trouble_view c.in_err-one.field-0.0 last all) (judge last all b ts) (judge last all (with_commands b (commands_from c.commands.count ts)) (cursor_view c.commands.rest))
    (judge_commands last all c.commands.count b ts (cursor_view c.commands.rest) g c.commands.invariant.read)
    (c.in_err-one.ensures.err last all (with_commands b (commands_from c.commands.count ts)) g))

pub overflow_add-count : goal.overflow_add-count
unfolding cursor_view
overflow_add-count c =
    let fits : Fits w32 c.args.tokens.left = search rules in
    let counted : length (cursor_view c.args.tokens) ≡ c.args.tokens.left = sym c.args.tokens.counted in
    let shorter = c.in_ok-one.ensures.shorter in
    let room = c.commands.invariant.room in
    omega (arith, fits, counted, shorter, room)

pub commands-preserved : goal.commands-preserved
commands-preserved c =
    let shorter = c.in_ok-one.ensures.shorter in
    let room = c.commands.invariant.room in
    record {
      read = one_more c.commands.count (cursor_view c.args.tokens) (cursor_view c.commands.rest) (cursor_view c.pass_command.new.tokens) c.commands.invariant.read c.in_ok-one.ensures.ok;
      plain = plain_more c.commands.count (cursor_view c.args.tokens) (cursor_view c.commands.rest) c.commands.plain c.in_ok-one.one c.commands.invariant.read c.in_ok-one.ensures.plain c.commands.invariant.plain;
      room = omega (arith, shorter, room);
    }

pub returns-clause-ok : goal.returns-clause-ok
unfolding script_view
returns-clause-ok c =
    let ended : cursor_view c.commands.rest ≡ [] = search rules in
    λ last all b g. judge_script last all c.commands.count b (cursor_view c.args.tokens) (cursor_view c.commands.rest) g c.commands.invariant.read ended
