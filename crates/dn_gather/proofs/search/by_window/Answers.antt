use Rattle.std.proofs.Common.{◌∙◌, ℕ, ◌+◌, ◌-◌, ◌%◌, ◌^◌, ◌<◌, ◌≤◌, List, arith, get_or, refl, subst, sym}
use Rattle.dn_interval.specs.declared.row.Row.{Row}
use Rattle.dn_interval.specs.Rows.{EndsFit}
use Rattle.dn_interval.proofs.Membership.{hi_of, in_from, lo_of}
use Rattle.dn_place.specs.declared.exits.Exit.{Exit}
use Rattle.dn_gather.specs.Outputs.{AreRanked, NoneAgree}
use Rattle.dn_gather.proofs.Placing.{first_exits, none_skipped, none_tried, none_unled}
use Rattle.dn_gather.proofs.search.by_window.Goals as goal

pub input_in-requires-clause-inside : goal.input_in-requires-clause-inside
input_in-requires-clause-inside g c = in_from c.args.row.now.span c.args.row.now.span.lo (omega arith) c.args.row.now.span.ordered

pub input_in-requires-clause-fit : goal.input_in-requires-clause-fit
input_in-requires-clause-fit g c = subst (λ (r : Row). EndsFit r) c.requires.listed.2 (c.rows-all.ensures.fit c.requires.listed.0 c.args.row.now c.requires.listed.1)

pub returns-in_default-clause-none : goal.returns-in_default-clause-none
returns-in_default-clause-none g c = λ is v at. none_unled (λ k. (goal.UnitKind-dyn g k).meaning k.1) c.args.ground c.requires.ground c.args.row.now v c.requires.listed at c.in_default.ensures.none

pub addresses-init : goal.addresses-init
addresses-init g c = record { past = omega arith; none = λ w from less. absurd (omega (arith, from, less)) }

pub next_agreeing-requires-clause-ranked : goal.next_agreeing-requires-clause-ranked
next_agreeing-requires-clause-ranked g c =
    let list : List Exit = c.index-lists-0.result in
    subst (λ (es : List Exit). AreRanked c.args.ground.translator.now.page es) (sym (c.as_slice-first.ensures ∙ c.index-lists-0.is)) (first_exits (λ k. (goal.UnitKind-dyn g k).meaning k.1) c.args.ground c.requires.ground list)

pub returns-then-at-hi-clause-none : goal.returns-then-at-hi-clause-none
returns-then-at-hi-clause-none g c = λ is w inside.
    let gr = c.args.ground in
    let r = c.args.row.now in
    let list : List Exit = c.index-lists-0.result in
    let none : (z : ℕ) → c.in-Some.base + (c.addresses.v - r.span.lo) ≤ z → z < c.next_agreeing.result → NoneAgree gr.translator.now.page (z % 2 ^ gr.translator.now.page) (get_or gr.exits.now 0 list) =
    λ z from less. subst (λ (es : List Exit). NoneAgree gr.translator.now.page (z % 2 ^ gr.translator.now.page) es) (c.as_slice-first.ensures ∙ c.index-lists-0.is) (c.next_agreeing.ensures.none z from less) in
    none_skipped (λ k. (goal.UnitKind-dyn g k).meaning k.1) gr c.requires.ground r c.in-Some.base c.addresses.v c.next_agreeing.result list c.requires.listed c.in-Some.ensures.some c.addresses.invariant.past c.addresses.invariant.none none w (lo_of r.span w inside) (hi_of r.span w inside)
    (let top = hi_of r.span w inside in omega (arith, top, c.if-at-hi.true))

pub returns-in-Some-2-clause-some : goal.returns-in-Some-2-clause-some
returns-in-Some-2-clause-some g c =
    let gr = c.args.ground in
    let r = c.args.row.now in
    let list : List Exit = c.index-lists-0.result in
    let none : (z : ℕ) → c.in-Some.base + (c.addresses.v - r.span.lo) ≤ z → z < c.next_agreeing.result → NoneAgree gr.translator.now.page (z % 2 ^ gr.translator.now.page) (get_or gr.exits.now 0 list) =
    λ z from less. subst (λ (es : List Exit). NoneAgree gr.translator.now.page (z % 2 ^ gr.translator.now.page) es) (c.as_slice-first.ensures ∙ c.index-lists-0.is) (c.next_agreeing.ensures.none z from less) in
    rw c.scatter.ensures (record {
      in_unit = refl;
      past = (let p = c.addresses.invariant.past in omega (arith, p));
      hops = rw c.in-Some-2.is at c.in_ok-hops.ensures.some;
      lesser = λ w from less. none_skipped (λ k. (goal.UnitKind-dyn g k).meaning k.1) gr c.requires.ground r c.in-Some.base c.addresses.v c.next_agreeing.result list c.requires.listed c.in-Some.ensures.some c.addresses.invariant.past c.addresses.invariant.none none w from (omega (arith, less, c.if-at-hi.false)) less;
    })

pub addresses-preserved : goal.addresses-preserved
addresses-preserved g c =
    let gr = c.args.ground in
    let r = c.args.row.now in
    let list : List Exit = c.index-lists-0.result in
    let none : (z : ℕ) → c.in-Some.base + (c.addresses.v - r.span.lo) ≤ z → z < c.next_agreeing.result → NoneAgree gr.translator.now.page (z % 2 ^ gr.translator.now.page) (get_or gr.exits.now 0 list) =
    λ z from less. subst (λ (es : List Exit). NoneAgree gr.translator.now.page (z % 2 ^ gr.translator.now.page) es) (c.as_slice-first.ensures ∙ c.index-lists-0.is) (c.next_agreeing.ensures.none z from less) in
    record {
      past = (let p = c.addresses.invariant.past in omega (arith, p));
      none = none_tried (λ k. (goal.UnitKind-dyn g k).meaning k.1) gr r (c.addresses.v + (c.next_agreeing.result - (c.in-Some.base + (c.addresses.v - r.span.lo)))) (omega (arith, c.if-at-hi.false))
          (λ w from top less. none_skipped (λ k. (goal.UnitKind-dyn g k).meaning k.1) gr c.requires.ground r c.in-Some.base c.addresses.v c.next_agreeing.result list c.requires.listed c.in-Some.ensures.some c.addresses.invariant.past c.addresses.invariant.none none w from top less)
          (c.in_ok-hops.ensures.none c.in_default-2.is);
    }

pub returns-clause-none : goal.returns-clause-none
returns-clause-none g c = λ is w inside. c.addresses.invariant.none w (lo_of c.args.row.now.span w inside) (let top = hi_of c.args.row.now.span w inside in omega (arith, top, c.addresses-test.false))

pub bounds-lists-0 : goal.bounds-lists-0
bounds-lists-0 g c = omega (arith, c.requires.ground.wanted.pieces.some, c.requires.ground.count)

pub overflow_add-x : goal.overflow_add-x
overflow_add-x g c = (let top = c.args.row.now.span.within in omega (arith, c.in-Some.ensures.few, c.addresses-test.true, top))

pub next_agreeing-requires-clause-few : goal.next_agreeing-requires-clause-few
next_agreeing-requires-clause-few g c = (let top = c.args.row.now.span.within in omega (arith, c.in-Some.ensures.few, c.addresses-test.true, top))

pub overflow_add-at : goal.overflow_add-at
overflow_add-at g c = (let top = c.args.row.now.span.within in omega (arith, c.next_agreeing.ensures.most, c.addresses-test.true, top))

pub hops_at-requires-clause-few : goal.hops_at-requires-clause-few
hops_at-requires-clause-few g c = (let top = c.args.row.now.span.within in omega (arith, c.if-at-hi.false, top))
