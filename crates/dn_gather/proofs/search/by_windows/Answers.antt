use Rattle.std.proofs.Common.{List, subst, sym}
use Rattle.std.specs.List.{Contains}
use Rattle.dn_interval.specs.declared.row.Row.{Row}
use Rattle.dn_interval.specs.Rows.{Apart}
use Rattle.dn_gather.specs.Grounds.{NoneFor}
use Rattle.dn_gather.proofs.Placing.{found_from, none_unentered}
use Rattle.dn_gather.proofs.Searching.{Entered, walk_begun, walk_done, walk_found, walk_on}
use Rattle.dn_gather.proofs.search.by_windows.Goals as goal

pub loop-row-init : goal.loop-row-init
loop-row-init g c = walk_begun (NoneFor (λ k. (goal.UnitKind-dyn g k).meaning k.1) c.args.ground.wanted c.args.ground.unit) c.rows-rows.result.now (subst (λ (rs : List Row). Apart 0 rs) (sym c.rows-rows.ensures.value) c.rows-rows.ensures.apart)

pub by_window-requires-clause-listed : goal.by_window-requires-clause-listed
by_window-requires-clause-listed g c = subst (λ (rs : List Row). Contains rs c.row-item.result) c.rows-rows.ensures.value (c.loop-row.row-index, c.loop-row-test.true, sym c.row-item.is)

pub returns-in-Some-clause-some : goal.returns-in-Some-clause-some
returns-in-Some-clause-some g c =
    let gr = c.args.ground in
    let none = NoneFor (λ k. (goal.UnitKind-dyn g k).meaning k.1) gr.wanted gr.unit in
    let entered : Entered none c.rows-rows.result.now = subst (λ (rs : List Row). Entered none rs) (sym c.rows-rows.ensures.value) (none_unentered (λ k. (goal.UnitKind-dyn g k).meaning k.1) gr c.requires.ground) in
    found_from (λ k. (goal.UnitKind-dyn g k).meaning k.1) gr.wanted gr.unit c.row-item.result.span.lo c.in-Some.found (rw c.in-Some.is at c.in_ok-found.ensures.some)
    (walk_found none c.rows-rows.result.now c.loop-row.row-index c.row-item.result c.loop-row-test.true c.row-item.is entered c.loop-row.invariant)

pub loop-row-preserved : goal.loop-row-preserved
loop-row-preserved g c =
    let gr = c.args.ground in
    let none = NoneFor (λ k. (goal.UnitKind-dyn g k).meaning k.1) gr.wanted gr.unit in
    let entered : Entered none c.rows-rows.result.now = subst (λ (rs : List Row). Entered none rs) (sym c.rows-rows.ensures.value) (none_unentered (λ k. (goal.UnitKind-dyn g k).meaning k.1) gr c.requires.ground) in
    walk_on none c.rows-rows.result.now c.loop-row.row-index c.row-item.result c.loop-row-test.true c.row-item.is entered c.loop-row.invariant (c.in_ok-found.ensures.none c.in_default.is)

pub returns-clause-none : goal.returns-clause-none
returns-clause-none g c = λ is.
    let gr = c.args.ground in
    let none = NoneFor (λ k. (goal.UnitKind-dyn g k).meaning k.1) gr.wanted gr.unit in
    let entered : Entered none c.rows-rows.result.now = subst (λ (rs : List Row). Entered none rs) (sym c.rows-rows.ensures.value) (none_unentered (λ k. (goal.UnitKind-dyn g k).meaning k.1) gr c.requires.ground) in
    walk_done none c.rows-rows.result.now c.loop-row.row-index c.loop-row-test.false entered c.loop-row.invariant
