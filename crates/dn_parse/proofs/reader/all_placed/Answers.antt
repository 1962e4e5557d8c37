use Rattle.std.proofs.Common.{rules, ◌≡◌, ◌∙◌, ap, sym, subst, ℕ, List, [], true, false, Result, Err, IfSome, IfErr}
use Rattle.dn_token.specs.Token.{Token}
use Rattle.dn_token.specs.Cursor.{cursor_view}
use Rattle.dn_parse.specs.declared.blocks.Blocks.{Blocks as CodeBlocks}
use Rattle.dn_parse.specs.declared.blocks.Trouble.{Trouble}
use Rattle.dn_parse.specs.declared.script.Script.{Script}
use Rattle.dn_parse.specs.Tree.{Command}
use Rattle.dn_parse.specs.Machine.{whole}
use Rattle.dn_parse.specs.Whole.{judge, at_stop, no_blocks_yet}
use Rattle.dn_parse.specs.Commands.{with_commands}
use Rattle.dn_parse.specs.Faults.{trouble_view}
use Rattle.dn_parse.specs.Views.{blocks_view}
use Rattle.dn_parse.proofs.Judge.{judge_end}
use Rattle.dn_parse.proofs.Scripts.{fault_before}
use Rattle.dn_parse.proofs.reader.all_placed.Goals as goal

pub returns-then-not-blocks-clause-ok : goal.returns-then-not-blocks-clause-ok
returns-then-not-blocks-clause-ok c =
    let before : c.in_ok-blocks.blocks.begun ≡ false = search rules in
    let ended : cursor_view c.blocks_before.new.tokens ≡ [] = c.in_ok-blocks.ensures.ended before in
    λ last all.
    c.in_ok-blocks.ensures.placed last all
    ∙ ap (judge last all (blocks_view c.in_ok-blocks.blocks)) ended
    ∙ judge_end last all (blocks_view c.in_ok-blocks.blocks)
    ∙ ap (λ (cs : List Command). at_stop whole last all (with_commands (blocks_view c.in_ok-blocks.blocks) cs)) (sym c.none.ensures)

pub returns-in_err-commands-clause-err : goal.returns-in_err-commands-clause-err
returns-in_err-commands-clause-err c =
    let ts = cursor_view c.args.tokens in
    let begun : c.in_ok-blocks.blocks.begun ≡ true = search rules in
    let same : c.from_residual-in_err-commands.result ≡ Err c.in_err-commands.field-0.0 = search rules in
    subst (λ (r : Result (CodeBlocks × Script) Trouble). IfErr r (λ e. (last : ℕ) → (all : List Token) → IfSome (trouble_view e last all) (λ f. judge last all no_blocks_yet ts ≡ Err f))) (sym same)
    (λ last all. fault_before (trouble_view c.in_err-commands.field-0.0 last all) (judge last all no_blocks_yet ts) (judge last all (blocks_view c.in_ok-blocks.blocks) (cursor_view c.blocks_before.new.tokens))
    (c.in_ok-blocks.ensures.placed last all)
    (c.in_err-commands.ensures.err last all (blocks_view c.in_ok-blocks.blocks) begun))

pub returns-clause-ok : goal.returns-clause-ok
returns-clause-ok c =
    let begun : c.in_ok-blocks.blocks.begun ≡ true = search rules in
    λ last all. c.in_ok-blocks.ensures.placed last all ∙ c.in_ok-commands.ensures.ok last all (blocks_view c.in_ok-blocks.blocks) begun
