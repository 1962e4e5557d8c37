-- One node more.
use Rattle.std.proofs.Common.{ℕ, true, refl, subst, sym, arith}
use Rattle.dn_view.specs.Trials.{IsExactIn}
use Rattle.dn_view.proofs.Agents.{Agent, all_among, not_listed, one_more}
use Rattle.dn_view.proofs.exact.are_exact.Goals.{then-node-own+in_ok-other+else-not-other, else-node-own}
use Rattle.dn_view.proofs.exact.are_exact.Goals as goal

pub loop-node-init : goal.loop-node-init
loop-node-init g c k l = absurd (omega arith)

pub loop-node-preserved : goal.loop-node-preserved
loop-node-preserved g c =
    let net = c.args.trial.system.on.net.now in
    let exact : ℕ → Type 0 = λ node. IsExactIn (λ k. (goal.UnitKind-dyn g k).meaning k.1) c.args.trial node in
    elim c.if-node-own.branch [
      | then-node-own+in_ok-other+else-not-other w ↦ one_more net exact c.args.nodes.now c.loop-node.node-index w.in_ok-other.other w.if-not-other.false c.loop-node.invariant w.in_ok-other.ensures
      | else-node-own w ↦ one_more net exact c.args.nodes.now c.loop-node.node-index true refl c.loop-node.invariant ((λ _. subst (Agent net exact) (sym w.if-node-own.false) c.requires.own), (λ _. refl))
    ]

pub returns-then-not-other : goal.returns-then-not-other
returns-then-not-other g c =
    not_listed c.args.trial.system.on.net.now (IsExactIn (λ k. (goal.UnitKind-dyn g k).meaning k.1) c.args.trial) c.args.nodes.now c.loop-node.node-index c.in_ok-other.other c.loop-node-test.true c.if-not-other.true c.in_ok-other.ensures

pub returns : goal.returns
returns g c =
    all_among c.args.trial.system.on.net.now (IsExactIn (λ k. (goal.UnitKind-dyn g k).meaning k.1) c.args.trial) c.args.nodes.now c.loop-node.node-index c.loop-node-test.false c.loop-node.invariant
