-- Each span ends a hole, or begins where the one before ended.
use Rattle.std.proofs.Common.{◌≡◌, ◌+◌, true, false, drop, is_ok, sym, subst, arith, rules, refl}
use Rattle.dn_interval.proofs.Standing.{stand_lower}
use Rattle.dn_interval.proofs.Passes.{Pass, left_out, rest_at, hole_made, hole_missing, last_made, last_missing, holes_same}
use Rattle.dn_interval.proofs.span_set.holes.Goals.{then-from-span+in_ok-push, else-from-span}
use Rattle.dn_interval.proofs.span_set.holes.Goals.{then-from-le-TOP+in_ok-push-2, else-from-le-TOP}
use Rattle.dn_interval.proofs.span_set.holes.Goals as goal

pub loop-span-preserved : goal.loop-span-preserved
loop-span-preserved c =
    let xs = c.args.spans.now in
    let i = c.loop-span.span-index in
    let from = c.loop-span.from in
    let s = c.span-item.result in
    let made = c.loop-span.holes.items in
    let inv = c.loop-span.invariant in
    let pass : Pass c.if-from-span.holes.items (left_out (s.hi + 1) (drop (i + 1) xs)) (left_out 0 xs) = elim c.if-from-span.branch [
      | then-from-span+in_ok-push w ↦
          let ok : is_ok w.push.result ≡ true = search rules in
          let e = rw ok at w.push.ensures.items in
          subst (λ v. Pass v.items (left_out (s.hi + 1) (drop (i + 1) xs)) (left_out 0 xs)) (sym w.holes-is)
          (subst (λ l. Pass l (left_out (s.hi + 1) (drop (i + 1) xs)) (left_out 0 xs)) (sym e)
          (hole_made from xs i s made (left_out 0 xs) (omega arith) c.span-item.is inv.stand inv.pass _ refl refl w.if-from-span.true))
      | else-from-span w ↦
          subst (λ v. Pass v.items (left_out (s.hi + 1) (drop (i + 1) xs)) (left_out 0 xs)) (sym w.holes-is)
          (hole_missing from xs i s made (left_out 0 xs) (omega arith) c.span-item.is inv.stand inv.pass w.if-from-span.false)
    ] in
    record {
      within = omega (arith, s.within);
      stand = stand_lower (s.hi + 1) (s.hi + 2) (drop (i + 1) xs) (rest_at from xs i s (omega arith) c.span-item.is inv.stand) (omega arith);
      pass = pass;
    }

pub returns : goal.returns
returns c =
    let xs = c.args.spans.now in
    let i = c.loop-span.span-index in
    let from = c.loop-span.from in
    let made = c.loop-span.holes.items in
    let pass : Pass c.if-from-le-TOP.holes.items (λ x. false) (left_out 0 xs) = elim c.if-from-le-TOP.branch [
      | then-from-le-TOP+in_ok-push-2 w ↦
          let ok : is_ok w.push-then-from-le-TOP.result ≡ true = search rules in
          let e = rw ok at w.push-then-from-le-TOP.ensures.items in
          subst (λ v. Pass v.items (λ x. false) (left_out 0 xs)) (sym w.holes-is)
          (subst (λ l. Pass l (λ x. false) (left_out 0 xs)) (sym e)
          (last_made from xs i made (left_out 0 xs) c.loop-span-test.false c.loop-span.invariant.pass _ refl refl))
      | else-from-le-TOP w ↦
          subst (λ v. Pass v.items (λ x. false) (left_out 0 xs)) (sym w.holes-is)
          (last_missing from xs i made (left_out 0 xs) c.loop-span-test.false c.loop-span.invariant.pass w.if-from-le-TOP.false)
    ] in
    record { same = holes_same xs c.if-from-le-TOP.holes.items pass; maximal = pass.apart }
