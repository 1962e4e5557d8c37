-- All agents.
use Rattle.std.proofs.Common.{◌+◌, List, Bool, sym, subst, arith}
use Rattle.dn_flat.specs.Levels.{AreListed}
use Rattle.dn_flat.proofs.Seen.{are_seers, none_listed}
use Rattle.dn_flat.proofs.seers.seers_of.Goals as goal

pub loop-node-init : goal.loop-node-init
loop-node-init c = none_listed c.in_ok-leads.leads.items c.args.net.now c.args.nodes.now c.in_ok-by_unit.by_unit.items c.new-onward.result.items c.in_ok-by_unit.ensures

pub list_node-requires-clause-listed : goal.list_node-requires-clause-listed
list_node-requires-clause-listed c = subst (λ (l : List Bool). AreListed c.args.net.now c.args.nodes.now c.loop-node.node l c.loop-node.by_unit.items c.loop-node.onward.items) (sym c.deref.ensures.value) c.loop-node.invariant

pub loop-node-preserved : goal.loop-node-preserved
loop-node-preserved c = subst (λ (l : List Bool). AreListed c.args.net.now c.args.nodes.now (c.loop-node.node + 1) l c.list_node.new.by_unit.items c.list_node.new.onward.items) c.deref.ensures.value c.in_ok-list_node.ensures

pub returns : goal.returns
returns c =
    are_seers c.args.net.now c.args.nodes.now c.loop-node.node c.in_ok-leads.leads.items c.loop-node.by_unit.items c.loop-node.onward.items c.from_vec.result c.from_vec-2.result c.from_vec-3.result c.from_vec.ensures c.from_vec-2.ensures c.from_vec-3.ensures c.in_ok-leads.ensures (omega (arith, c.loop-node-test.false, c.loop-node.auto.node-end, c.nodes-node-end.ensures)) c.loop-node.invariant
