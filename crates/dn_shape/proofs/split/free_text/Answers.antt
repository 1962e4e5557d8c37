-- The first number that is free.
use Rattle.std.proofs.Common.{◌∙◌, not, ap, length, arith}
use Rattle.dn_shape.specs.Split.{accepter_text}
use Rattle.dn_shape.proofs.Free.{found_free, found_taken}
use Rattle.dn_shape.proofs.split.free_text.Goals as goal

pub returns-then-is_none : goal.returns-then-is_none
returns-then-is_none c =
    c.in_ok-tried.ensures ∙ ap (accepter_text c.args.text.now) (found_free c.args.net.now c.args.text.now c.loop-number.number (length c.args.net.now) _ _ (omega (arith, c.nodes-number-end.ensures, c.loop-number-test.true)) (c.as_str.ensures ∙ c.in_ok-tried.ensures) c.find.ensures (c.is_none.ensures ∙ ap not c.if-is_none.true) ∙ c.loop-number.invariant)

pub loop-number-preserved : goal.loop-number-preserved
loop-number-preserved c =
    found_taken c.args.net.now c.args.text.now c.loop-number.number (length c.args.net.now) _ _ (omega (arith, c.nodes-number-end.ensures, c.loop-number-test.true)) (c.as_str.ensures ∙ c.in_ok-tried.ensures) c.find.ensures (c.is_none.ensures ∙ ap not c.if-is_none.false) ∙ c.loop-number.invariant
