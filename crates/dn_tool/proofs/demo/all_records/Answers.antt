use Rattle.std.proofs.Common.{◌≡◌, ◌∙◌, ap, sym, arith, List, ℕ, ◌+◌, length}
use Rattle.dn_net.specs.Decode.{unit_at}
use Rattle.dn_kind.specs.Kind.{Meaning}
use Rattle.dn_kind.specs.Kinded.{kinds_of}
use Rattle.dn_kind.specs.Tables.{Held, record_held}
use Rattle.dn_tables.specs.Set.{words_of}
use Rattle.dn_tool.specs.Demo.{held_slots, sum_below}
use Rattle.dn_tool.proofs.Demos.{sum_more, sum_none}
use Rattle.dn_tool.proofs.demo.all_records.Goals as goal

pub loop-node-init : goal.loop-node-init
loop-node-init g c = record { few = omega arith; count = sym (sum_none _) }

pub loop-node-preserved : goal.loop-node-preserved
loop-node-preserved g c =
    let kinds : List Meaning = kinds_of (λ k. (goal.UnitKind-dyn g k).meaning k.1) c.args.machine.on.kinds.now in
    let held : Held = record_held c.args.machine.on.net.now kinds (words_of c.args.tables.now) in
    let slots : ℕ → ℕ = λ n. held_slots held n (unit_at c.args.machine.on.net.now n) in
    let few = c.loop-node.invariant.few in
    let more = c.node_records-total.ensures.few in
    record {
      few = omega (arith, few, more);
      count = ap (λ (n : ℕ). n + c.node_records-total.result) c.loop-node.invariant.count
          ∙ ap (λ (n : ℕ). sum_below slots c.loop-node.node + n) c.node_records-total.ensures.count
          ∙ sym (sum_more slots c.loop-node.node);
    }

pub returns : goal.returns
returns g c =
    let kinds : List Meaning = kinds_of (λ k. (goal.UnitKind-dyn g k).meaning k.1) c.args.machine.on.kinds.now in
    let held : Held = record_held c.args.machine.on.net.now kinds (words_of c.args.tables.now) in
    let all : c.loop-node.node ≡ length c.args.machine.on.net.now = omega (arith, c.nodes-node-end.ensures, c.loop-node-test.false, c.loop-node.auto.node-end) in
    c.loop-node.invariant.count ∙ ap (sum_below (λ n. held_slots held n (unit_at c.args.machine.on.net.now n))) all
