use Rattle.std.proofs.Common.{rules, arith, ◌≡◌, true, is_err}
use Rattle.std.proofs.lemmas.List.{get_or_default}
use Rattle.dn_base.proofs.Counts.{counted_then}
use Rattle.dn_tables.proofs.Made.{value_written, value_failed}
use Rattle.dn_tables.proofs.writes.write_all.Goals as goal

pub returns-in_err-write-clause-written : goal.returns-in_err-write-clause-written
returns-in_err-write-clause-written g c =
    let failed : is_err c.from_residual.result ≡ true = search rules in
    value_failed c.args.unit c.args.first c.loop-value.value-index c.args.values.now (is_err c.from_residual.result) _ _ _ _ _ _ _ _ c.loop-value-test.true failed c.loop-value.invariant.written c.in_err-write.ensures.same.1 c.in_err-write.ensures.same.0

pub loop-value-preserved : goal.loop-value-preserved
loop-value-preserved g c = record {
  at = let e = c.loop-value.invariant.at in omega (arith, e);
  written = value_written c.args.unit c.args.first c.loop-value.value-index c.loop-value.word _ c.args.values.now _ _ _ _ _ _ _ _ _ c.loop-value-test.true c.loop-value.invariant.at (get_or_default c.args.values.now c.loop-value.value-index 0 _ c.loop-value-test.true) c.loop-value.invariant.written c.in_ok-write.ensures.logged c.in_ok-write.ensures.words c.set.ensures;
  many = search rules;
  units = search rules;
  counted = counted_then _ _ _ _ c.loop-value.invariant.counted c.in_ok-write.ensures.counted;
}
