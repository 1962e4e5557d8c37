-- The part of the walk whose names lie in the leg goes on.
use Rattle.std.proofs.Common.{◌≤◌, ◌+◌, ◌-◌, ap, arith}
use Rattle.dn_walk.specs.Legs.{leg_view}
use Rattle.dn_walk.specs.Rows.{row_view}
use Rattle.dn_walk.proofs.Cutting.{part_is, onto_is}
use Rattle.dn_walk.proofs.Meets.{meets_parts}
use Rattle.dn_walk.proofs.level.onto.Goals as goal
use Rattle.dn_walk.proofs.level.onto.Goals.{After-seg}

-- the walk comes to the leg
begins : (c : After-seg) → c.args.leg.span.lo ≤ c.seg.result.base + (c.seg.result.span.hi - c.seg.result.span.lo)
begins c =
    let m = meets_parts (row_view c.args.row.now) (leg_view c.args.leg) c.requires.meet in
    let m1 : c.args.leg.span.lo ≤ c.args.row.now.base + (c.args.row.now.span.hi - c.args.row.now.span.lo) = m.1 in
    let lo = ap (λ t. t.lo) c.seg.ensures.span in
    let hi = ap (λ t. t.hi) c.seg.ensures.span in
    omega (arith, lo, hi, c.seg.ensures.base)

-- and does not begin behind it
ends : (c : After-seg) → c.seg.result.base ≤ c.args.leg.span.hi
ends c =
    let m = meets_parts (row_view c.args.row.now) (leg_view c.args.leg) c.requires.meet in
    let m0 : c.args.row.now.base ≤ c.args.leg.span.hi = m.0 in
    omega (arith, c.seg.ensures.base)

pub cut-part-requires-clause-begins : goal.cut-part-requires-clause-begins
cut-part-requires-clause-begins c = begins (goal.at.cut-part-requires-clause-begins c).After-seg

pub cut-part-requires-clause-ends : goal.cut-part-requires-clause-ends
cut-part-requires-clause-ends c = ends (goal.at.cut-part-requires-clause-ends c).After-seg

pub returns : goal.returns
returns c =
    let at = (goal.at.returns c).After-seg in
    onto_is (row_view c.args.row.now) c.seg.result c.cut-part.result c.args.leg (ap (λ t. t.lo) c.seg.ensures.span) (ap (λ t. t.hi) c.seg.ensures.span) c.seg.ensures.base
    (part_is c.seg.result c.cut-part.result c.args.leg.span (record { node = c.args.leg.node; base = c.args.leg.base }) (begins at) (ends at) c.cut-part.ensures)
