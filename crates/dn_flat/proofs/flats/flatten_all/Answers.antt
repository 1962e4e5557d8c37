-- One node more.
use Rattle.std.proofs.Common.{◌≡◌, ◌∙◌, List, sym, subst, arith, length}
use Rattle.dn_flat.specs.declared.crowds.Way.{Way}
use Rattle.dn_flat.specs.Crowds.{AreWays}
use Rattle.dn_flat.specs.Levels.{AreLevelsBelow}
use Rattle.dn_flat.specs.Stages.{AreReaches}
use Rattle.dn_flat.proofs.Led.{none_below}
use Rattle.dn_flat.proofs.flats.flatten_all.Goals as goal

pub loop-node-init : goal.loop-node-init
loop-node-init c = record { below = subst (AreLevelsBelow c.args.net.now 0) (sym c.new-nodes.ensures) (none_below c.args.net.now) }

pub add-requires-clause-below : goal.add-requires-clause-below
add-requires-clause-below c = c.loop-node.invariant.below

pub loop-node-preserved : goal.loop-node-preserved
loop-node-preserved c = record { below = c.in_ok-add.ensures }

pub returns : goal.returns
returns c =
    let below = c.loop-node.invariant.below in
    let all : c.loop-node.node ≡ length c.args.net.now = omega (arith, c.loop-node-test.false, c.loop-node.auto.node-end, c.nodes-node-end.ensures) in
    let stage = c.in_ok-stage.stage in
    let ways : (ws : List Way) → ws ≡ c.in_ok-ways.ways.items → AreWays c.args.net.now ws = λ ws e. subst (λ (l : List Way). AreWays c.args.net.now l) (sym e) c.in_ok-ways.ensures in
    record {
      every = below.every ∙ all;
      each = below.each;
      steps = subst (λ k. AreReaches c.args.net.now k stage.nodes) c.in_ok-stage.ensures.steps c.in_ok-stage.ensures.stage;
      crowded = c.in_ok-crowds.ensures c.args.net.now (ways c.deref.result.now c.deref.ensures.value);
      stopped = c.in_ok-agent_stops.ensures c.args.net.now (ways c.deref-2.result.now c.deref-2.ensures.value);
      seers = c.in_ok-seers.ensures;
    }
