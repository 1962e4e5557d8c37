use Rattle.std.proofs.Common.{◌∙◌, ◌+◌, List, ap, drop}
use Rattle.dn_base.proofs.Lists.{drop_at}
use Rattle.dn_interval.specs.declared.row.Row.{Row}
use Rattle.dn_flat.specs.Levels.{levels_give}
use Rattle.dn_place.proofs.Toward.{level_gives, level_passed}
use Rattle.dn_place.proofs.entry.stop_of.Goals as goal

pub returns-in-Some-clause-given : goal.returns-in-Some-clause-given
returns-in-Some-clause-given c =
    let rest : List (List Row) = drop (c.loop-level.level-index + 1) c.args.levels.now in
    let at = drop_at c.args.levels.now c.loop-level.level-index c.level-item.result c.loop-level-test.true c.level-item.is in
    c.loop-level.invariant c.in-Some.end
    ∙ ap (λ (ls : List (List Row)). levels_give ls c.args.a c.in-Some.end) at
    ∙ level_gives c.level-item.result rest c.args.a c.in-Some.end c.in-Some.ensures.given

pub loop-level-preserved : goal.loop-level-preserved
loop-level-preserved c = λ z.
    let rest : List (List Row) = drop (c.loop-level.level-index + 1) c.args.levels.now in
    let at = drop_at c.args.levels.now c.loop-level.level-index c.level-item.result c.loop-level-test.true c.level-item.is in
    c.loop-level.invariant z
    ∙ ap (λ (ls : List (List Row)). levels_give ls c.args.a z) at
    ∙ level_passed c.level-item.result rest c.args.a z (c.in_default.ensures.none z)
