use Rattle.std.proofs.Common.{rules, ◌≡◌, sym, subst, Option, Err, IfSome}
use Rattle.dn_token.specs.Cursor.{cursor_view}
use Rattle.dn_base.specs.Answers.{Answers}
use Rattle.dn_parse.specs.Faults.{parse_fault_view, trouble_view}
use Rattle.dn_parse.specs.Whole.{TextFault, judge, last_line, no_blocks_yet}
use Rattle.dn_parse.specs.Views.{tree_view}
use Rattle.dn_parse.proofs.reader.statements.Goals as goal

pub returns-in-Ok : goal.returns-in-Ok
returns-in-Ok c = subst (Answers tree_view parse_fault_view c.finished_tree.result) (sym (c.in-Ok.ensures.ok (last_line c.args.text.now) (cursor_view c.args.tokens))) (c.finished_tree.ensures (cursor_view c.args.tokens))

pub returns-in-Err-Halted : goal.returns-in-Err-Halted
returns-in-Err-Halted c =
    let tokens = cursor_view c.args.tokens in
    let is : parse_fault_view c.fault_of.result ≡ trouble_view c.in-Err-Halted.field-0 (last_line c.args.text.now) tokens = search rules in
    subst (λ (o : Option TextFault). IfSome o (λ f. judge (last_line c.args.text.now) tokens no_blocks_yet tokens ≡ Err f)) (sym is) (c.in-Err-Halted.ensures.err (last_line c.args.text.now) tokens)

pub returns-in-Err-Misplaced : goal.returns-in-Err-Misplaced
returns-in-Err-Misplaced c =
    let tokens = cursor_view c.args.tokens in
    let is : parse_fault_view c.misplaced_fault.result ≡ trouble_view c.in-Err-Misplaced.field-0 (last_line c.args.text.now) tokens = search rules in
    subst (λ (o : Option TextFault). IfSome o (λ f. judge (last_line c.args.text.now) tokens no_blocks_yet tokens ≡ Err f)) (sym is) (c.in-Err-Misplaced.ensures.err (last_line c.args.text.now) tokens)
