use Rattle.std.proofs.Common.{Some, arith, inl, inr, subst}
use Rattle.std.proofs.lemmas.Bool.{cases_lt}
use Rattle.dn_tables.specs.Set.{IsInRun}
use Rattle.dn_tables.proofs.table.NodeTable.run_end.Goals as goal

pub slots-init : goal.slots-init
slots-init c = record {
  onward = omega arith;
  most = λ l. l;
  run = λ k a b. absurd (omega (arith, a, b));
}

pub slots-preserved : goal.slots-preserved
slots-preserved c = record {
  onward = omega (arith, c.slots.invariant.onward);
  most = λ l. omega (arith, c.slots-test.true);
  run = λ k a b. elim (cases_lt k c.slots.slot) [
    | inl l ↦ c.slots.invariant.run k a l
    | inr l ↦ subst (λ n. IsInRun c.args.owned (Some c.args.self.now) n) (omega (arith, b, l)) (c.is_in_run.ensures c.if-not-is_in_run.false)
  ];
}
