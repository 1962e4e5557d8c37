use Rattle.std.proofs.Common.{◌∙◌, sym, arith}
use Rattle.dn_scope.proofs.Scopes.{innermost_met, innermost_other}
use Rattle.dn_scope.proofs.scope.loop_number.Goals as goal

pub returns-then-eq : goal.returns-then-eq
returns-then-eq c =
    let within = c.loop-left.invariant.within in
    sym (c.loop-left.invariant.same ∙ innermost_met c.args.word.now c.args.loops.now c.loop-left.left _ c.loop-left-test.true within (sym c.eq.ensures ∙ c.if-eq.true))

pub loop-left-preserved : goal.loop-left-preserved
loop-left-preserved c =
    let within = c.loop-left.invariant.within in
    record {
      within = omega arith;
      same = c.loop-left.invariant.same ∙ innermost_other c.args.word.now c.args.loops.now c.loop-left.left _ c.loop-left-test.true within (sym c.eq.ensures ∙ c.if-eq.false);
    }
