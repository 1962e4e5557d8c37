-- One level more; and what is reached in fewer than 66 steps, or where nothing goes on, is all.
use Rattle.std.proofs.Common.{rules, ◌≤◌, sym, subst, arith, ℕ, Bool, List, ◌↔◌}
use Rattle.dn_base.proofs.Booleans.{means_then}
use Rattle.dn_interval.specs.declared.row.End.{End}
use Rattle.dn_interval.specs.declared.row.Seg.{Seg}
use Rattle.dn_interval.specs.declared.span.TheConstants.{TOP}
use Rattle.dn_interval.specs.Strands.{segs_give}
use Rattle.dn_net.specs.declared.node.Name.{Name}
use Rattle.dn_net.specs.Chain.{Ends}
use Rattle.dn_net.specs.Decode.{is_stop, steps, step_limit}
use Rattle.dn_walk.specs.Ends.{name_of_end}
use Rattle.dn_flat.specs.Stages.{EndsBefore}
use Rattle.dn_flat.proofs.Bounds.{last_level, ended_level, none_goes}
use Rattle.dn_flat.proofs.Frontier.{goes_further, stops_further}
use Rattle.dn_flat.proofs.Lists.{none_of}
use Rattle.dn_flat.proofs.Reached.{AreReached, Goes, all_levels, begun, more_reached, none_before, none_reached}
use Rattle.dn_flat.proofs.levels.node_reached.Goals as goal
use Rattle.dn_flat.proofs.levels.node_reached.Goals.{else-loop-steps-test, then-loop-steps-test+then-is_empty}

pub loop-steps-init : goal.loop-steps-init
loop-steps-init c =
    let net = c.args.net.now in
    let node = c.args.node in
    record {
      levels = subst (AreReached net 0 node) (sym c.new-levels.ensures) (none_reached net node);
      stops = λ a y t. none_before net (is_stop net) node c.new-stops.result.items a y c.new-stops.ensures.items;
      reached = begun net node c.whole.result c.push.new.self.items c.whole.ensures.node c.whole.ensures.base c.whole.ensures.lo c.whole.ensures.hi (search rules);
    }

pub loop-steps-preserved : goal.loop-steps-preserved
loop-steps-preserved c =
    let net = c.args.net.now in
    let nodes = c.args.nodes.now in
    let node = c.args.node in
    let rules_kept = c.requires.rules in
    let k = c.loop-steps.steps in
    let are = c.requires.nodes in
    let inv = c.loop-steps.invariant in
    let segs : List Seg = c.as_slice-from.result.now in
    let go : Goes net k node segs = subst (Goes net k node) (sym c.as_slice-from.ensures.value) inv.reached in
    let was = c.loop-steps.stops in
    let new = c.push_segs.new.segs in
    record {
      levels = more_reached net nodes are k node segs go c.loop-steps.levels c.push_level.new.levels c.in_ok-push_level.ensures inv.levels;
      stops = λ a y t. stops_further net rules_kept nodes are k node c.requires.there segs go (segs_give was.items a y) (segs_give new.items a y) a y t (inv.stops a y t) (c.in_ok-push_segs.ensures a y);
      reached = λ a y t. goes_further net rules_kept nodes are k node c.requires.there segs go (segs_give c.in_ok-reached.reached.items a y) a y t (c.in_ok-reached.ensures a y t);
    }

pub returns : goal.returns
returns c =
    let net = c.args.net.now in
    let node = c.args.node in
    let k = c.loop-steps.steps in
    let inv = c.loop-steps.invariant in
    let few : k ≤ 66 = omega arith in
    let all : (passes : Name → Bool) (a : ℕ) (y : End) → a ≤ TOP → EndsBefore net passes k node a y ↔ Ends (steps net) passes step_limit (record { node = node; addr = a }) (name_of_end y) = elim c.loop-steps-test.branch [
      | else-loop-steps-test w ↦ λ passes a y t. last_level net passes k node a y (let b = w.loop-steps-test.false in omega arith)
      | then-loop-steps-test+then-is_empty w ↦ λ passes a y t. ended_level net passes k node a y few (none_goes net k node c.loop-steps.reached.items (none_of c.loop-steps.reached.items (search rules)) inv.reached a t)
    ] in
    record {
      levels = all_levels net k node c.loop-steps.levels few all inv.levels;
      stops = λ a y t. means_then (inv.stops a y t) (all (is_stop net) a y t);
    }
