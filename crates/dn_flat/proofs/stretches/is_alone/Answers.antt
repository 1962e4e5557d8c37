-- One level more.
use Rattle.std.proofs.Common.{ℕ, List}
use Rattle.dn_interval.specs.declared.row.End.{End}
use Rattle.dn_interval.specs.declared.row.Row.{Row}
use Rattle.dn_interval.specs.Onward.{rows_go}
use Rattle.dn_interval.specs.Spans.{in_span}
use Rattle.dn_flat.specs.declared.found.Continuation.TheVariants.{Accepts}
use Rattle.dn_flat.specs.Onward.{leads_by}
use Rattle.dn_flat.proofs.Stretched.{all_given, more_given, none_given, not_given}
use Rattle.dn_flat.proofs.stretches.is_alone.Goals as goal

pub loop-level-init : goal.loop-level-init
loop-level-init c = none_given (λ (a : ℕ). in_span c.args.seg.span a) (λ (rows : List Row) (a : ℕ) (z : End). rows_go (leads_by Accepts c.args.nodes.now) rows a z) c.args.levels.now c.args.seg

pub loop-level-preserved : goal.loop-level-preserved
loop-level-preserved c = more_given (λ (a : ℕ). in_span c.args.seg.span a) (λ (rows : List Row) (a : ℕ) (z : End). rows_go (leads_by Accepts c.args.nodes.now) rows a z) c.args.levels.now c.args.seg _ _ c.loop-level-test.true c.level-item.is c.loop-level.invariant (c.in_ok-alone.ensures.0 c.if-not-alone.false)

pub returns-then-not-alone : goal.returns-then-not-alone
returns-then-not-alone c = not_given (λ (a : ℕ). in_span c.args.seg.span a) (λ (rows : List Row) (a : ℕ) (z : End). rows_go (leads_by Accepts c.args.nodes.now) rows a z) c.args.levels.now c.args.seg _ _ c.loop-level-test.true c.level-item.is c.in_ok-alone.alone c.if-not-alone.true c.in_ok-alone.ensures

pub returns : goal.returns
returns c = all_given (λ (a : ℕ). in_span c.args.seg.span a) (λ (rows : List Row) (a : ℕ) (z : End). rows_go (leads_by Accepts c.args.nodes.now) rows a z) c.args.levels.now c.args.seg _ c.loop-level-test.false c.loop-level.invariant
