use Rattle.std.proofs.Common.{◌∙◌, sym, arith}
use Rattle.dn_kind.proofs.Shapes.{kind_known, fault_here, fault_later, fault_past, shaped_plain}
use Rattle.dn_kind.proofs.units.check_units.Goals as goal

pub is_node_shaped-requires-clause-known : goal.is_node_shaped-requires-clause-known
is_node_shaped-requires-clause-known g c = kind_known _ c.args.net.now c.loop-node.node _ c.requires.known c.unit.ensures

pub returns-then-not-is_node_shaped-clause-checks : goal.returns-then-not-is_node_shaped-clause-checks
returns-then-not-is_node_shaped-clause-checks g c =
    c.loop-node.invariant.same
    ∙ fault_here _ c.loop-node.node c.args.net.now _ c.unit.ensures (sym c.is_node_shaped.ensures ∙ c.if-not-is_node_shaped.true)

pub loop-node-preserved : goal.loop-node-preserved
loop-node-preserved g c = record {
  last = c.loop-node.invariant.last;
  same = c.loop-node.invariant.same ∙ fault_later _ c.loop-node.node c.args.net.now _ c.unit.ensures (sym c.is_node_shaped.ensures ∙ c.if-not-is_node_shaped.false);
}

pub returns-clause-checks : goal.returns-clause-checks
returns-clause-checks g c =
    let last = c.loop-node.invariant.last in
    c.loop-node.invariant.same ∙ fault_past _ c.loop-node.node c.args.net.now (omega (arith, last))

pub returns-clause-plain : goal.returns-clause-plain
returns-clause-plain g c =
    let last = c.loop-node.invariant.last in
    shaped_plain _ c.args.net.now (c.loop-node.invariant.same ∙ fault_past _ c.loop-node.node c.args.net.now (omega (arith, last)))
