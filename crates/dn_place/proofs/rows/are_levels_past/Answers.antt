use Rattle.std.proofs.Common.{◌+◌, List, drop, subst, sym}
use Rattle.std.proofs.Math.ListN.{drop_of_length-le}
use Rattle.dn_base.proofs.Lists.{drop_at}
use Rattle.dn_interval.specs.declared.row.Row.{Row}
use Rattle.dn_flat.specs.Levels.{levels_give}
use Rattle.dn_place.specs.Rows.{GivesNone}
use Rattle.dn_place.proofs.Toward.{none_left, none_more, none_one, none_rest}
use Rattle.dn_place.proofs.rows.are_levels_past.Goals as goal

pub loop-level-preserved : goal.loop-level-preserved
loop-level-preserved c =
    let rest : List (List Row) = drop (c.loop-level.level-index + 1) c.args.levels.now in
    let at = drop_at c.args.levels.now c.loop-level.level-index c.level-item.result c.loop-level-test.true c.level-item.is in
    record {
      clear = λ none. c.loop-level.invariant.clear (subst (λ (ls : List (List Row)). GivesNone (levels_give ls) c.args.a c.args.size) (sym at) (none_more c.level-item.result rest c.args.a c.args.size (c.is_level_past.ensures.yes c.if-not-is_level_past.false) none));
      rest = λ none. none_rest c.level-item.result rest c.args.a c.args.size (subst (λ (ls : List (List Row)). GivesNone (levels_give ls) c.args.a c.args.size) at (c.loop-level.invariant.rest none));
    }

pub returns-then-not-is_level_past-clause-no : goal.returns-then-not-is_level_past-clause-no
returns-then-not-is_level_past-clause-no c = λ same none.
    let rest : List (List Row) = drop (c.loop-level.level-index + 1) c.args.levels.now in
    let at = drop_at c.args.levels.now c.loop-level.level-index c.level-item.result c.loop-level-test.true c.level-item.is in
    c.is_level_past.ensures.no c.if-not-is_level_past.true (none_one c.level-item.result rest c.args.a c.args.size (subst (λ (ls : List (List Row)). GivesNone (levels_give ls) c.args.a c.args.size) at (c.loop-level.invariant.rest none)))

pub returns-clause-yes : goal.returns-clause-yes
returns-clause-yes c = λ yes. c.loop-level.invariant.clear (subst (λ (ls : List (List Row)). GivesNone (levels_give ls) c.args.a c.args.size) (sym (drop_of_length-le c.args.levels.now c.loop-level-test.false)) (none_left c.args.a c.args.size))
