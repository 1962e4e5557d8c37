use Rattle.std.proofs.Common.{◌∙◌, ap, sym, subst, ◌<◌, ◌+◌, length, IfSome, arith, Ok}
use Rattle.dn_token.specs.Ahead.{first_and_rest}
use Rattle.dn_token.proofs.Counting.{begun, one_more, and_more, no_more}
use Rattle.dn_token.proofs.cursor.count.Goals as goal

pub text-init : goal.text-init
text-init c = record { counted = begun c.args.text.now; room = omega arith; lines = omega arith }

pub text-preserved : goal.text-preserved
text-preserved c =
    let gives = c.in_ok-token.ensures.gives ∙ ap (λ o. first_and_rest (Ok o)) c.in-Some.is in
    let shorter = subst (λ o. IfSome o (λ p. length p.1.now < length c.text.rest.now)) c.in-Some.is c.in_ok-token.ensures.shorter in
    let lines = subst (λ o. IfSome o (λ p. p.0.line + length p.1.now < c.text.line + length c.text.rest.now)) c.in-Some.is c.in_ok-token.ensures.lines in
    record {
      counted = c.text.invariant.counted ∙ ap (and_more c.text.count) gives ∙ one_more c.text.count _ _;
      room = omega (arith, shorter, c.text.invariant.room);
      lines = omega (arith, lines, c.text.invariant.lines);
    }

pub returns : goal.returns
returns c =
    let gives = c.in_ok-token.ensures.gives ∙ ap (λ o. first_and_rest (Ok o)) c.in_default.is in
    sym (c.text.invariant.counted ∙ ap (and_more c.text.count) gives ∙ no_more c.text.count)
