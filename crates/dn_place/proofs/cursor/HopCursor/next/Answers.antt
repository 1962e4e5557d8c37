use Rattle.std.proofs.Common.{arith}
use Rattle.dn_place.proofs.Cursors.{then_gives, then_none, went_nowhere, went_on}
use Rattle.dn_place.proofs.cursor.HopCursor.next.Goals as goal

pub steps-init : goal.steps-init
steps-init g c = went_nowhere _ _ _ _ _ c.requires.cursor

pub next_input-requires-clause-cursor : goal.next_input-requires-clause-cursor
next_input-requires-clause-cursor g c = c.steps.invariant.cursor

pub returns-in-Some-clause-some : goal.returns-in-Some-clause-some
returns-in-Some-clause-some g c = then_gives _ _ _ _ _ _ _ _ c.steps.invariant c.in-Some.ensures.some

pub advance-requires-clause-cursor : goal.advance-requires-clause-cursor
advance-requires-clause-cursor g c = c.in_default.ensures.none.cursor

pub advance-requires-clause-none : goal.advance-requires-clause-none
advance-requires-clause-none g c = c.in_default.ensures.none.none

pub returns-then-not-branch-clause-none : goal.returns-then-not-branch-clause-none
returns-then-not-branch-clause-none g c = λ is. then_none _ _ _ _ _ _ _ c.steps.invariant c.in_default.ensures.none (c.in_ok-advance.ensures.none c.if-not-branch.true)

pub steps-preserved : goal.steps-preserved
steps-preserved g c = went_on _ _ _ _ _ _ _ _ c.steps.invariant c.in_default.ensures.none (c.in_ok-advance.ensures.more c.if-not-branch.false)

pub steps-smaller : goal.steps-smaller
steps-smaller g c = let a = c.in_default.ensures.none.fewer in let b = (c.in_ok-advance.ensures.more c.if-not-branch.false).fewer in omega (arith, a, b)
