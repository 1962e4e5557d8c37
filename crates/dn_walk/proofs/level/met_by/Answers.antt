-- The legs that end before the walk's addresses come first, and those that begin behind them last.
use Rattle.std.proofs.Common.{◌≡◌, ◌≤◌, ◌+◌, ◌-◌, rules, ltb, leb, ap, subst, arith}
use Rattle.std.proofs.lemmas.List.Sorted.{IsPartitionPoint-from_clause, IsPartitionedBy-ltb, IsPartitionedBy-leb}
use Rattle.dn_interval.specs.declared.row.Seg.{Seg}
use Rattle.dn_walk.proofs.Meets.{bare_last_out}
use Rattle.dn_walk.specs.Rows.{row_view}
use Rattle.dn_walk.proofs.Meets.{Ends, Begins, in_turn, met_is}
use Rattle.dn_walk.proofs.level.met_by.Goals as goal
use Rattle.dn_walk.proofs.level.met_by.Goals.{After-partition_point-end}

ends : (c : After-partition_point-end) → Ends c.args.row.now.base c.args.legs.now c.partition_point-first.result
ends c = IsPartitionPoint-from_clause (λ (s : Seg). ltb s.span.hi c.args.row.now.base) _ _ c.partition_point-first.ensures.partitioned (IsPartitionedBy-ltb (λ (s : Seg). s.span.hi) c.args.legs.now c.args.row.now.base c.requires.lasts) (λ a r q k. search rules)

-- the last address at which the walk comes out
last_is : (c : After-partition_point-end) → c.last_out-last.result ≡ bare_last_out (row_view c.args.row.now)
last_is c =
    let lo = ap (λ t. t.lo) c.seg.ensures.span in
    let hi = ap (λ t. t.hi) c.seg.ensures.span in
    let last : c.last_out-last.result ≡ c.args.row.now.base + (c.args.row.now.span.hi - c.args.row.now.span.lo) = omega (arith, lo, hi, c.seg.ensures.base, c.last_out-last.ensures) in
    last

begins : (c : After-partition_point-end) → Begins (bare_last_out (row_view c.args.row.now)) c.args.legs.now c.partition_point-end.result
begins c =
    subst (λ n. Begins n c.args.legs.now c.partition_point-end.result) (last_is c)
    (IsPartitionPoint-from_clause (λ (s : Seg). leb s.span.lo c.last_out-last.result) _ _ c.partition_point-end.ensures.partitioned (IsPartitionedBy-leb (λ (s : Seg). s.span.lo) c.args.legs.now c.last_out-last.result c.requires.firsts) (λ a r q k. search rules))

turn : (c : After-partition_point-end) → c.partition_point-first.result ≤ c.partition_point-end.result
turn c =
    let o : c.args.row.now.base ≤ c.args.row.now.base + (c.args.row.now.span.hi - c.args.row.now.span.lo) = omega arith in
    in_turn c.args.row.now.base (bare_last_out (row_view c.args.row.now)) c.args.legs.now _ _ o c.partition_point-first.ensures.bound (ends c) (begins c)

pub slice_bounds-result-count : goal.slice_bounds-result-count
slice_bounds-result-count c = turn (goal.at.slice_bounds-result-count c).After-partition_point-end

pub slice_bounds-result-start : goal.slice_bounds-result-start
slice_bounds-result-start c = turn (goal.at.slice_bounds-result-start c).After-partition_point-end

pub returns : goal.returns
returns c =
    let at = (goal.at.returns c).After-partition_point-end in
    met_is (row_view c.args.row.now) c.args.legs.now _ _ c.partition_point-first.ensures.bound c.partition_point-end.ensures.bound (ends at) (begins at)
