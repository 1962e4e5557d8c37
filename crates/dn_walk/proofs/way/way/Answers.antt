-- One step more, or none.
use Rattle.std.proofs.Common.{◌≡◌, ◌∙◌, ◌-◌, ◌<◌, ◌++◌, ◌∷◌, [], suc, sym, ap, map, length, Some, None, arith}
use Rattle.std.specs.List.{filter}
use Rattle.std.proofs.lemmas.List.{append_assoc, append-nil}
use Rattle.dn_net.specs.Decode.{steps}
use Rattle.dn_net.specs.WalkRules.{way_by}
use Rattle.dn_walk.specs.Rows.{row_view}
use Rattle.dn_walk.specs.Ways.{least_of, walk_levels_lead}
use Rattle.dn_walk.proofs.Onward.{level_at, way_ends, way_goes, step_there}
use Rattle.dn_walk.proofs.way.way.Goals as goal

pub returns-in_default : goal.returns-in_default
returns-in_default c =
    let k = c.loop-left.left - 1 in
    let leads = walk_levels_lead c.args.goal (map (map row_view) c.args.levels.now) in
    let left : c.loop-left.left ≡ suc k = omega arith in
    let there : k < length c.args.levels.now = omega (arith, c.loop-left.invariant.within) in
    let at = level_at c.args.goal c.args.levels.now k c.index-levels-left.result c.as_slice.result.now there c.index-levels-left.is c.as_slice.ensures in
    let none : least_of (filter (leads k) (steps c.args.checked.net.now c.loop-left.name)) ≡ None = ap (λ t. least_of (filter t (steps c.args.checked.net.now c.loop-left.name))) (sym at) ∙ sym c.least_step.ensures ∙ c.in_default.is in
    sym (append-nil c.loop-left.names)
    ∙ ap (λ l. c.loop-left.names ++ l) (sym (way_ends (steps c.args.checked.net.now) leads c.loop-left.left k c.loop-left.name left none))
    ∙ c.loop-left.invariant.way

pub loop-left-preserved : goal.loop-left-preserved
loop-left-preserved c =
    let k = c.loop-left.left - 1 in
    let z = c.in-Some.next in
    let leads = walk_levels_lead c.args.goal (map (map row_view) c.args.levels.now) in
    let left : c.loop-left.left ≡ suc k = omega arith in
    let there : k < length c.args.levels.now = omega (arith, c.loop-left.invariant.within) in
    let at = level_at c.args.goal c.args.levels.now k c.index-levels-left.result c.as_slice.result.now there c.index-levels-left.is c.as_slice.ensures in
    let some : least_of (filter (leads k) (steps c.args.checked.net.now c.loop-left.name)) ≡ Some z = ap (λ t. least_of (filter t (steps c.args.checked.net.now c.loop-left.name))) (sym at) ∙ sym c.least_step.ensures ∙ c.in-Some.is in
    record {
      within = omega (arith, c.loop-left.invariant.within);
      there = step_there c.args.checked.net.now c.args.checked.rules (leads k) c.loop-left.name z some;
      way = ap (λ l. l ++ way_by (steps c.args.checked.net.now) leads k z) c.in_ok-push-2.ensures.ok
          ∙ append_assoc c.loop-left.names (z ∷ []) (way_by (steps c.args.checked.net.now) leads k z)
          ∙ ap (λ l. c.loop-left.names ++ l) (sym (way_goes (steps c.args.checked.net.now) leads c.loop-left.left k c.loop-left.name z left some))
          ∙ c.loop-left.invariant.way;
    }
