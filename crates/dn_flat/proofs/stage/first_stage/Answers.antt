-- One node more.
use Rattle.std.proofs.Common.{◌≡◌, ◌∙◌, ap, sym, subst, length, ℕ, slice_get, Some, arith}
use Rattle.std.proofs.lemmas.Option.{slice_get-map}
use Rattle.dn_net.proofs.Places.{length-map}
use Rattle.dn_walk.specs.Legs.{bare_legs}
use Rattle.dn_flat.specs.declared.reach.Reach.{Reach}
use Rattle.dn_flat.specs.Stages.{IsReach}
use Rattle.dn_flat.proofs.Lists.{each_pushed, length_pushed}
use Rattle.dn_flat.proofs.stage.first_stage.Goals as goal

pub of-requires : goal.of-requires
of-requires c =
    let all : length c.args.legs.now ≡ length c.args.checked.net.now = ap length c.requires.legs ∙ length-map bare_legs c.args.checked.net.now in
    omega (arith, c.nodes-node-end.ensures, c.loop-node-test.true)

pub first_reach-requires-clause-legs : goal.first_reach-requires-clause-legs
first_reach-requires-clause-legs c =
    sym (slice_get-map bare_legs c.args.checked.net.now c.loop-node.node) ∙ ap (λ l. slice_get l c.loop-node.node) (sym c.requires.legs) ∙ c.of.ensures

pub loop-node-preserved : goal.loop-node-preserved
loop-node-preserved c =
    let net = c.args.checked.net.now in
    let made = c.loop-node.nodes.items in
    let next = c.in_ok-reach.reach in
    let inv = c.loop-node.invariant in
    let items = c.in_ok-push.ensures.items in
    record {
      every = ap length items ∙ length_pushed made next c.loop-node.node inv.every;
      each = subst (λ xs. (m : ℕ) (r : Reach) → slice_get xs m ≡ Some r → IsReach net 1 m r) (sym items)
          (each_pushed (IsReach net 1) made next inv.each (subst (λ m. IsReach net 1 m next) (sym inv.every) c.in_ok-reach.ensures));
    }
