-- One digit more.
use Rattle.std.proofs.Common.{◌≡◌, ◌∙◌, ◌-◌, ◌/◌, ◌%◌, ◌∷◌, false, ap, sym, arith, drop, length-set}
use Rattle.std.specs.Fmt.{digits_onto, digit_glyph}
use Rattle.dn_print.proofs.Digits.{last_digit, next_digit, digit_put}
use Rattle.dn_print.proofs.address.put_digits.Goals as goal

pub loop-place-init : goal.loop-place-init
loop-place-init c =
    let whole : c.args.end - (c.args.end - 64) ≡ 64 = omega arith in
    record {
      behind = omega arith;
      within = omega arith;
      long = omega arith;
      so_far = ap (λ k. digits_onto k 16 false c.args.number (drop c.args.end c.args.room.now)) whole;
    }

pub loop-place-preserved : goal.loop-place-preserved
loop-place-preserved c =
    let l = c.loop-place in
    let put = digit_put l.room l.place c.glyph.result (digit_glyph false (l.rest % 16)) (omega arith) (omega arith) c.glyph.ensures in
    let less : (l.place - 1) - (c.args.end - 64) ≡ (l.place - (c.args.end - 64)) - 1 = omega arith in
    record {
      behind = omega arith;
      within = omega arith;
      long = length-set l.room (l.place - 1) c.glyph.result ∙ l.invariant.long;
      so_far = ap (digits_onto ((l.place - 1) - (c.args.end - 64)) 16 false (l.rest / 16)) put ∙ ap (λ k. digits_onto k 16 false (l.rest / 16) (digit_glyph false (l.rest % 16) ∷ drop l.place l.room)) less ∙ sym (next_digit l.rest (drop l.place l.room) (l.place - (c.args.end - 64)) (omega arith) c.if-rest-eq0.false) ∙ l.invariant.so_far;
    }

pub returns-then-rest-eq0 : goal.returns-then-rest-eq0
returns-then-rest-eq0 c =
    let l = c.loop-place in
    let put = digit_put l.room l.place c.glyph.result (digit_glyph false (l.rest % 16)) (omega arith) (omega arith) c.glyph.ensures in
    record {
      before = omega arith;
      behind = omega arith;
      digits = put ∙ sym (last_digit l.rest (drop l.place l.room) (l.place - (c.args.end - 64)) (omega arith) c.if-rest-eq0.true) ∙ l.invariant.so_far;
    }
