use Rattle.std.proofs.Common.{◌≡◌, ℕ, ◌+◌, ◌<◌, ◌≤◌, ◌⊎◌, inl, inr, arith, subst, sym, get_or, length}
use Rattle.std.proofs.lemmas.Bool.{cases_lt}
use Rattle.dn_net.specs.Decode.{unit_at}
use Rattle.dn_place.specs.Marks.{Marks}
use Rattle.dn_place.proofs.Marked.{marks_kept, ports_marked, port_there}
use Rattle.dn_place.proofs.marks.mark_unit.Goals as goal

pub loop-port-preserved : goal.loop-port-preserved
loop-port-preserved g c = record {
  keeps = λ n m. c.mark_node.ensures.keeps n (c.loop-port.invariant.keeps n m);
  done = λ k l. go k l (cases_lt k c.loop-port.port-index);
}
  where
    there : get_or c.as_slice-port-items.result.now c.loop-port.port-index 0 < length c.args.system.on.net.now
    there = port_there c.args.system.on.net.now c.in-Some.translator.now c.as_slice-port-items.result.now c.loop-port.port-index c.in-Some.ensures.bounds c.as_slice-port-items.ensures c.loop-port-test.true

    go : (k : ℕ) → k < c.loop-port.port-index + 1 → (k < c.loop-port.port-index) ⊎ (c.loop-port.port-index ≤ k) → Marks c.args.system.on.net.now (get_or c.as_slice-port-items.result.now k 0) c.mark_node.new.marks
    go k l (inl m) = marks_kept c.args.system.on.net.now (get_or c.as_slice-port-items.result.now k 0) c.loop-port.marks c.mark_node.new.marks (sym c.mark_node.auto.marks) c.mark_node.ensures.keeps (c.loop-port.invariant.done k m)
    go k l (inr m) = let e : c.loop-port.port-index ≡ k = omega arith in subst (λ (i : ℕ). Marks c.args.system.on.net.now (get_or c.as_slice-port-items.result.now i 0) c.mark_node.new.marks) e (c.mark_node.ensures.marks there)

pub returns-clause-marks : goal.returns-clause-marks
returns-clause-marks g c = λ k n u e p. ports_marked c.args.system.on.net.now c.as_slice-port-items.result.now c.in-Some.translator.now u c.loop-port.port-index k n c.loop-port.marks (unit_at c.args.system.on.net.now c.args.unit) c.in-Some.ensures.some e c.as_slice-port-items.ensures c.loop-port-test.false p c.loop-port.invariant.done
