use Rattle.std.proofs.Common.{◌≡◌, ◌∙◌, ◌≤◌, ap, sym, rules, arith, false, is_ok, length, slice_get, Some, take}
use Rattle.std.proofs.lemmas.List.{length-take}
use Rattle.dn_base.proofs.Lists.{slice_get-at}
use Rattle.dn_base.proofs.Counts.{counted_then}
use Rattle.dn_base.specs.Device.{has_unit, is_device_fault}
use Rattle.dn_tables.proofs.Fresh.{none_later, units_next, logged_next, told_next, units_stopped, units_all}
use Rattle.dn_tables.proofs.set.make_units.Goals as goal

pub make_unit-requires-clause-new : goal.make_unit-requires-clause-new
make_unit-requires-clause-new g c =
    let few = length-take c.loop-node.node c.args.nodes.now in
    ap (λ z. has_unit z c.loop-node.node) c.loop-node.invariant.units ∙ none_later (take c.loop-node.node c.args.nodes.now) 0 c.loop-node.node (omega (arith, few))

pub returns-in_err-make_unit-clause-made : goal.returns-in_err-make_unit-clause-made
returns-in_err-make_unit-clause-made g c =
    let at : slice_get c.args.nodes.now c.loop-node.node ≡ Some c.index-nodes-node.result = sym (slice_get-at c.args.nodes.now c.loop-node.node c.index-nodes-node.result c.loop-node-test.true c.index-nodes-node.is) in
    let done : is_ok c.from_residual.result ≡ false = search rules in
    units_stopped c.args.nodes.now c.loop-node.node c.index-nodes-node.result (is_ok c.from_residual.result) (is_device_fault c.from_residual.result) _ _ _ _ _ _ _ _ at done c.in_err-make_unit.ensures.some c.loop-node.invariant.units c.loop-node.invariant.logged c.loop-node.invariant.on_device c.in_err-make_unit.ensures.same.0 c.in_err-make_unit.ensures.same.1 c.in_err-make_unit.ensures.same.2

pub loop-node-preserved : goal.loop-node-preserved
loop-node-preserved g c =
    let at : slice_get c.args.nodes.now c.loop-node.node ≡ Some c.index-nodes-node.result = sym (slice_get-at c.args.nodes.now c.loop-node.node c.index-nodes-node.result c.loop-node-test.true c.index-nodes-node.is) in
    record {
      units = units_next c.args.nodes.now c.loop-node.node c.index-nodes-node.result _ _ at c.loop-node.invariant.units c.in_ok-make_unit.ensures.units;
      logged = logged_next c.args.nodes.now c.loop-node.node c.index-nodes-node.result _ _ _ at c.loop-node.invariant.logged c.in_ok-make_unit.ensures.logged;
      on_device = told_next c.args.nodes.now c.loop-node.node c.index-nodes-node.result _ _ _ at c.loop-node.invariant.on_device c.in_ok-make_unit.ensures.words;
      counted = counted_then _ _ _ _ c.loop-node.invariant.counted c.in_ok-make_unit.ensures.counted;
    }

pub returns-clause-made : goal.returns-clause-made
returns-clause-made g c =
    let past : length c.args.nodes.now ≤ c.loop-node.node = let b = c.loop-node-test.false in omega arith in
    units_all c.args.nodes.now c.loop-node.node _ _ _ _ _ _ _ past (search rules) (search rules) c.loop-node.invariant.units c.loop-node.invariant.logged c.loop-node.invariant.on_device
