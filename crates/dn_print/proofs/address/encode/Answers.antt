-- The mark in front of the digits.
use Rattle.std.proofs.Common.{◌≡◌, ◌∙◌, ◌-◌, ◌∷◌, ap, sym, arith, drop, length-set, set}
use Rattle.dn_print.proofs.Digits.{address_before, digit_put}
use Rattle.dn_print.proofs.address.encode.Goals as goal

pub returns-clause-text : goal.returns-clause-text
returns-clause-text c =
    let w = c.put_digits-first in
    let room = w.new.room in
    let i = w.result in
    let marked = digit_put room i 120 120 (omega arith) (omega arith) (omega arith) in
    let more : (i - 1) - 1 ≡ i - 2 = omega arith in
    let zero = digit_put (set room (i - 1) 120) (i - 1) 48 48 (omega arith) (omega (arith, length-set room (i - 1) 120)) (omega arith) in
    ap (λ k. drop k (set (set room (i - 1) 120) k 48)) (sym more) ∙ zero ∙ ap (λ l. 48 ∷ l) (marked ∙ ap (λ l. 120 ∷ l) w.ensures.digits) ∙ address_before c.args.number (drop c.args.end c.args.room.now)
