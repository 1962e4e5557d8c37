use Rattle.std.proofs.Common.{◌∙◌, ◌+◌, ◌≤◌, ap, sym, arith, drop, subst}
use Rattle.std.specs.Option.{option_copied}
use Rattle.std.proofs.lemmas.List.{drop_all}
use Rattle.dn_image.specs.Image.{unit_count}
use Rattle.dn_image.proofs.Places.{count_step, count_least}
use Rattle.dn_image.proofs.write.count_units.Goals as goal

pub loop-node-preserved : goal.loop-node-preserved
loop-node-preserved c = record {
  last = c.loop-node.invariant.last;
  few = subst (λ n. n ≤ c.loop-node.node + 1) (sym c.count_unit-count.ensures) (count_least (option_copied c.unit.result) c.loop-node.count c.loop-node.node c.loop-node.invariant.few);
  whole = ap (λ n. n + unit_count (drop (c.loop-node.node + 1) c.args.net.now)) c.count_unit-count.ensures ∙ count_step c.args.net.now c.loop-node.node c.loop-node.count (option_copied c.unit.result) c.unit.ensures ∙ c.loop-node.invariant.whole;
}

pub returns : goal.returns
returns c =
    let none = ap unit_count (drop_all c.loop-node.node c.args.net.now (let e = c.loop-node.invariant.last in let f = c.loop-node-test.false in omega arith)) in
    let w = c.loop-node.invariant.whole in
    omega (arith, none)
