-- One node more, for twice as many steps.
use Rattle.std.proofs.Common.{◌≡◌, ◌∙◌, ◌+◌, ◌<◌, ap, sym, subst, length, arith, true}
use Rattle.dn_interval.specs.Rows.{ends_within}
use Rattle.dn_flat.specs.declared.reach.Reach.{Reach}
use Rattle.dn_flat.specs.Stages.{IsReach, AreReaches, IsStage}
use Rattle.dn_flat.proofs.Lists.{each_pushed, length_pushed}
use Rattle.dn_flat.proofs.Nodes.{reach_there, doubled_are}
use Rattle.dn_flat.proofs.There.{goes_are_there}
use Rattle.std.proofs.Common.{refl, slice_get, Some, ℕ}
use Rattle.dn_flat.proofs.stage.Stage.doubled.Goals as goal

pub twice-requires : goal.twice-requires
twice-requires c =
    let net = c.args.net.now in
    let all = c.as_slice-all.result.now in
    let k = c.self.inside.steps in
    let i = c.loop-reach.reach-index in
    let reach = c.reach-item.result in
    let l : i < length all = c.loop-reach-test.true in
    let are : AreReaches net k all = subst (AreReaches net k) (sym c.as_slice-all.ensures.value) (subst (IsStage net) (sym c.self.view_is) c.requires.stage) in
    let every : length all ≡ length net = are.every in
    let one : IsReach net k i reach = are.each i reach (reach_there all i i reach refl l c.reach-item.is) in
    record { there = subst (λ n. ends_within n reach.go ≡ true) (sym every) (goes_are_there net c.requires.legal.nodes k i reach.go (omega arith) one.go) }

pub loop-reach-preserved : goal.loop-reach-preserved
loop-reach-preserved c =
    let net = c.args.net.now in
    let all = c.as_slice-all.result.now in
    let i = c.loop-reach.reach-index in
    let reach = c.reach-item.result in
    let made = c.loop-reach.nodes.items in
    let next = c.in_ok-twice.field-0 in
    let inv = c.loop-reach.invariant in
    let items = c.in_ok-push.ensures.items in
    record {
      every = ap length items ∙ length_pushed made next i inv.every;
      each = λ k are. subst (λ xs. (m : ℕ) (r : Reach) → slice_get xs m ≡ Some r → IsReach net (k + k) m r) (sym items)
          (each_pushed (λ m r. IsReach net (k + k) m r) made next (inv.each k are)
          (subst (λ m. IsReach net (k + k) m next) (sym inv.every) (c.in_ok-twice.ensures net k i are (are.each i reach (reach_there all i i reach refl c.loop-reach-test.true c.reach-item.is)))));
    }

pub returns-clause-stage : goal.returns-clause-stage
returns-clause-stage c =
    let net = c.args.net.now in
    let all = c.as_slice-all.result.now in
    let k = c.self.inside.steps in
    let are : AreReaches net k all = subst (AreReaches net k) (sym c.as_slice-all.ensures.value) (subst (IsStage net) (sym c.self.view_is) c.requires.stage) in
    doubled_are net k all c.loop-reach.nodes.items c.loop-reach.reach-index are c.loop-reach.invariant.every c.loop-reach.auto.reach-index-end c.loop-reach-test.false (c.loop-reach.invariant.each k are)
