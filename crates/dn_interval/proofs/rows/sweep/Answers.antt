-- Each turn makes one row, of what runs where the last one ended.
use Rattle.std.proofs.Common.{◌≡◌, ◌∙◌, ℕ, ◌+◌, ◌≤◌, ◌<◌, leb, length, [], ◌∷◌, ◌++◌, sym, ap, subst, arith, rules}
use Rattle.std.specs.List.{filter}
use Rattle.std.proofs.lemmas.Bool.Decides.{nat_tests}
use Rattle.std.proofs.lemmas.Fn.{filter_same}
use Rattle.dn_base.proofs.Lists.{nil_from_length}
use Rattle.dn_interval.specs.declared.strand.Strand.{Strand}
use Rattle.dn_interval.specs.declared.row.End.{End}
use Rattle.dn_interval.specs.Strands.{strands_give, slides_give}
use Rattle.dn_interval.proofs.Sweep.{Sweeping, Turn, turn_is, hi_from, hi_within, row_pushed, sweep_ended}
use Rattle.dn_interval.proofs.rows.sweep.Goals.{After-as_slice-in-rows}
use Rattle.dn_interval.proofs.rows.sweep.Goals as goal

-- what runs in the next row, and what is still to come behind its first address
turn : (c : After-as_slice-in-rows) → Turn (strands_give c.args.strands.now) c.rows.rows.items c.first_address-from.result c.as_slice-in-rows.result.now c.split_at.result.1.now
turn c =
    let first = c.first_address-from.ensures in
    let begun = c.begin_count.ensures in
    let runs_are = c.as_slice-in-rows.ensures.value ∙ c.in_ok-extend_from_slice.ensures.items ∙ ap (λ l. c.rows.running.items ++ l) c.split_at.ensures.front in
    let some : 0 < length c.as_slice.result.now + length c.rows.rest.now = grind (arith, nat_tests) in
    turn_is c.first_address-from.result c.begin_count.result c.rows.running.items c.rows.rest.now c.as_slice-in-rows.result.now c.split_at.result.1.now runs_are c.split_at.ensures.back _ _ c.rows.from c.as_slice.result.now c.rows.invariant c.as_slice.ensures.value some first.runs first.begins first.onward first.rest_stays begun.begun begun.later_ones

pub last_address-hi-requires-clause-some : goal.last_address-hi-requires-clause-some
last_address-hi-requires-clause-some c = (turn (goal.at.last_address-hi-requires-clause-some c).After-as_slice-in-rows).some

pub row-requires-clause-some : goal.row-requires-clause-some
row-requires-clause-some c =
    let same = c.as_slice-in-rows-2.ensures.value ∙ sym c.as_slice-in-rows.ensures.value in
    subst (λ l. 0 < length l) (sym same) (turn (goal.at.row-requires-clause-some c).After-as_slice-in-rows).some

pub row-requires-clause-ordered : goal.row-requires-clause-ordered
row-requires-clause-ordered c =
    let t = turn (goal.at.row-requires-clause-ordered c).After-as_slice-in-rows in
    let last = c.last_address-hi.ensures in
    hi_from _ _ _ c.last_address-hi.result _ _ t.state t.some last.runs_on last.later_ones t.ahead last.reached

pub row-requires-clause-within : goal.row-requires-clause-within
row-requires-clause-within c =
    let t = turn (goal.at.row-requires-clause-within c).After-as_slice-in-rows in
    let last = c.last_address-hi.ensures in
    hi_within _ _ _ c.last_address-hi.result _ _ t.state t.some last.runs_on last.later_ones t.ahead last.reached

pub rows-preserved : goal.rows-preserved
rows-preserved c =
    let kept : c.retain.new.self.items ≡ filter (λ (s : Strand). leb (c.last_address-hi.result + 1) s.span.hi) c.extend_from_slice.new.self.items = filter_same _ (λ (s : Strand). leb (c.last_address-hi.result + 1) s.span.hi) _ (λ x b g h. (search rules, search rules)) _ _ c.retain.ensures.filtered in
    let whole = strands_give c.args.strands.now in
    let made = c.rows.rows.items in
    let from = c.first_address-from.result in
    let hi = c.last_address-hi.result in
    let later = c.split_at.result.1.now in
    let t = turn (goal.at.rows-preserved c).After-as_slice-in-rows in
    let last = c.last_address-hi.ensures in
    let r = c.in_ok-row.field-0 in
    let row = c.in_ok-row.ensures in
    let same = c.as_slice-in-rows-2.ensures.value ∙ sym c.as_slice-in-rows.ensures.value in
    let gives = λ (a : ℕ) (y : End) (l : from ≤ a). row.gives a y l ∙ ap (λ t. slides_give t a y) same in
    let pushed = row_pushed whole made from hi c.as_slice-in-rows.result.now later t.state t.some last.runs_on last.later_ones t.ahead last.reached r row.lo row.hi gives row.ascending row.some in
    let keeps = kept ∙ ap (filter (λ (s : Strand). leb (hi + 1) s.span.hi)) (sym c.as_slice-in-rows.ensures.value) in
    subst (λ t. Sweeping whole t (hi + 1) c.retain.new.self.items later) (sym c.in_ok-push.ensures.items)
    (subst (λ t. Sweeping whole (made ++ r ∷ []) (hi + 1) t later) (sym keeps) pushed)

pub returns-clause-same : goal.returns-clause-same
returns-clause-same c =
    let whole = strands_give c.args.strands.now in
    let made = c.rows.rows.items in
    let run : length c.rows.running.items ≡ 0 = grind (arith, nat_tests) in
    let rest : length c.rows.rest.now ≡ 0 = grind (arith, nat_tests) in
    sweep_ended whole made c.rows.from
    (subst (λ t. Sweeping whole made c.rows.from t []) (nil_from_length c.rows.running.items run)
    (subst (λ t. Sweeping whole made c.rows.from c.rows.running.items t) (nil_from_length c.rows.rest.now rest) c.rows.invariant))
