use Rattle.std.proofs.Common.{◌∙◌, ◌≤◌, List, length, arith, subst, sym}
use Rattle.dn_interval.specs.declared.row.Row.{Row}
use Rattle.dn_place.specs.Hops.{hops_view}
use Rattle.dn_place.specs.Rows.{AreToward}
use Rattle.dn_place.proofs.Toward.{lone_level, lone_toward}
use Rattle.dn_place.proofs.rows.lent_rows.Goals as goal

pub returns : goal.returns
returns c = λ net rq node is.
    let some : 1 ≤ length (hops_view c.args.hops) = omega (arith, c.count.ensures, c.if-count-eq0.false) in
    let lone = sym c.as_slice.ensures ∙ lone_level c.as_slice.result.now c.level-item.result c.in-len1.len_at_least c.in-len1.len_below c.level-item.is in
    subst (λ (rs : List Row). AreToward net rq (hops_view c.args.hops) node rs) (sym c.rows.ensures.value) (lone_toward net rq (hops_view c.args.hops) node c.args.levels.now c.level-item.result some is lone c.rows.ensures.apart)
