use Rattle.std.proofs.Common.{◌∙◌, sym, arith}
use Rattle.std.proofs.lemmas.List.{at_drop_all}
use Rattle.dn_net.specs.Units.{has_plain_units}
use Rattle.dn_net.proofs.Plain.{plain_later}
use Rattle.dn_net.proofs.net.Net.has_plain_units.Goals as goal

pub returns-then-not-is_plain_unit : goal.returns-then-not-is_plain_unit
returns-then-not-is_plain_unit c =
    sym (c.loop-node.invariant.same ∙ plain_later c.args.self.now c.loop-node.node _ _ c.unit.ensures (sym c.is_plain_unit.ensures ∙ c.if-not-is_plain_unit.true))

pub loop-node-preserved : goal.loop-node-preserved
loop-node-preserved c = record {
  last = c.loop-node.invariant.last;
  same = c.loop-node.invariant.same ∙ plain_later c.args.self.now c.loop-node.node _ _ c.unit.ensures (sym c.is_plain_unit.ensures ∙ c.if-not-is_plain_unit.false);
}

pub returns : goal.returns
returns c =
    let last = c.loop-node.invariant.last in
    sym (c.loop-node.invariant.same ∙ at_drop_all (λ l. has_plain_units l) c.args.self.now c.loop-node.node (omega (arith, last)))
