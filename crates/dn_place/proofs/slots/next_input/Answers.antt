use Rattle.std.proofs.Common.{◌+◌, ◌*◌, ◌/◌, ◌%◌, ◌^◌, ◌≤◌, inl, inr, arith, subst, sym}
use Rattle.std.proofs.lemmas.Bool.{cases_lt}
use Rattle.dn_view.proofs.Pages.{power_below}
use Rattle.dn_place.specs.declared.slot_state.SlotState.{SlotState}
use Rattle.dn_place.specs.Slots.{AreFreeTo, AreShut, slot_of}
use Rattle.dn_place.specs.Searches.{sought}
use Rattle.dn_place.proofs.Nexts.{barred_on, shut_bars}
use Rattle.dn_place.proofs.Pages.{input_bound, past_bound, quotient_within}
use Rattle.dn_place.proofs.slots.next_input.Given.{Over}
use Rattle.dn_place.proofs.slots.next_input.Goals.{After-end_of_run-end, After-end_of_run-next}
use Rattle.dn_place.proofs.slots.next_input.Goals as goal

-- the input past the slot is below a bound
low : (g : Over) (c : After-end_of_run-next g) → c.end_of_run-next.result * 2 ^ c.args.translator.now.page + c.args.hop.x % 2 ^ c.args.translator.now.page ≤ 576460752303423488
low g c =
    let f = c.requires.search.ready.bounds _ _ c.requires.within.unit in
    past_bound c.end_of_run-next.result c.args.translator.now.page c.args.translator.now.slots c.args.hop.x f.page f.few (let most : c.end_of_run-next.result ≤ c.args.translator.now.slots = c.end_of_run-next.ensures.most (omega (arith, c.slots_of_hop-slots.ensures.below, c.in-Some.ensures.up_to, c.past_slot-past.ensures.most)) in omega (arith, most, c.slots_of_hop-slots.ensures.below))

-- the slots from the first of the hop's on are free before the end
free_here : (g : Over) (c : After-end_of_run-end g) → AreFreeTo (sought (λ k. (goal.UnitKind-dyn g k).meaning k.1) c.args.search).slots c.args.hop.unit (c.args.hop.x / 2 ^ c.args.translator.now.page) c.end_of_run-end.result
free_here g c = λ slot a b. elim (cases_lt slot c.args.free) [
  | inl l ↦ c.requires.free slot a l
  | inr l ↦ c.end_of_run-end.ensures.run slot (omega (arith, c.max-from.ensures, c.slots_of_hop-slots.ensures.first, a, l)) b
]

pub last_unusable-requires-clause-free : goal.last_unusable-requires-clause-free
last_unusable-requires-clause-free g c = subst (λ n. AreFreeTo (sought (λ k. (goal.UnitKind-dyn g k).meaning k.1) c.args.search).slots c.args.hop.unit n c.end_of_run-end.result) (sym c.slots_of_hop-slots.ensures.first) (free_here g (goal.at.last_unusable-requires-clause-free g c).After-end_of_run-end)

pub last_unusable-requires-clause-page : goal.last_unusable-requires-clause-page
last_unusable-requires-clause-page g c =
    let f = c.requires.search.ready.bounds _ _ c.requires.within.unit in
    omega (arith, quotient_within c.args.hop.y c.slots_of_hop-slots.result.page, power_below c.args.translator.now.reach f.reach, c.requires.reached)

pub past_slot-past-requires-clause-few : goal.past_slot-past-requires-clause-few
past_slot-past-requires-clause-few g c = omega (arith, c.slots_of_hop-slots.ensures.few, c.in-Some.ensures.up_to)

pub overflow_mul-x : goal.overflow_mul-x
overflow_mul-x g c = rw (c.from.ensures, c.slots_of_hop-slots.ensures.page) (omega (arith, low g (goal.at.overflow_mul-x g c).After-end_of_run-next))

pub overflow_add-x : goal.overflow_add-x
overflow_add-x g c = rw (c.from.ensures, c.slots_of_hop-slots.ensures.page) (omega (arith, low g (goal.at.overflow_add-x g c).After-end_of_run-next))

pub returns-in-Some-clause-few : goal.returns-in-Some-clause-few
returns-in-Some-clause-few g c = rw (c.from.ensures, c.slots_of_hop-slots.ensures.page) (low g (goal.at.returns-in-Some-clause-few g c).After-end_of_run-next)

pub returns-in-Some-clause-barred : goal.returns-in-Some-clause-barred
returns-in-Some-clause-barred g c =
    let s = c.slots_of_hop-slots.ensures in
    let met : AreShut (slot_of (sought (λ k. (goal.UnitKind-dyn g k).meaning k.1) c.args.search).slots c.args.hop.unit c.in-Some.slot) c.in-Some.slot c.slots_of_hop-slots.result.first c.past_slot-past.result c.args.hop.port (c.args.hop.y / c.slots_of_hop-slots.result.page) = subst (λ (z : SlotState). AreShut z c.in-Some.slot c.slots_of_hop-slots.result.first c.past_slot-past.result c.args.hop.port (c.args.hop.y / c.slots_of_hop-slots.result.page)) c.slot_in-found.ensures c.past_slot-past.ensures.shut in
    rw (c.from.ensures, s.page) (barred_on (sought (λ k. (goal.UnitKind-dyn g k).meaning k.1) c.args.search) c.args.translator.now c.args.hop c.past_slot-past.result c.end_of_run-next.result c.requires.search.ready.some (shut_bars (sought (λ k. (goal.UnitKind-dyn g k).meaning k.1) c.args.search) c.args.translator.now c.args.hop c.in-Some.slot c.past_slot-past.result c.requires.search.ready.some (rw s.first at c.in-Some.ensures.past) (rw s.last at c.in-Some.ensures.up_to) c.past_slot-past.ensures.most (rw (s.first, s.page) at met)) c.end_of_run-next.ensures.run)

pub returns-in-None-clause-few : goal.returns-in-None-clause-few
returns-in-None-clause-few g c =
    let f = c.requires.search.ready.bounds _ _ c.requires.within.unit in
    omega (arith, input_bound c.args.translator.now.slots c.args.translator.now.page f.page f.few, c.requires.within.ends)

pub returns-in-Some-clause-free : goal.returns-in-Some-clause-free
returns-in-Some-clause-free g c = free_here g (goal.at.returns-in-Some-clause-free g c).After-end_of_run-end

pub returns-in-None-clause-free : goal.returns-in-None-clause-free
returns-in-None-clause-free g c = free_here g (goal.at.returns-in-None-clause-free g c).After-end_of_run-end

pub end_of_run-next-requires-clause-within : goal.end_of_run-next-requires-clause-within
end_of_run-next-requires-clause-within g c = rw c.requires.within.unit (omega arith)
