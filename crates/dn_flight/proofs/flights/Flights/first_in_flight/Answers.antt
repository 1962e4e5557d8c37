use Rattle.std.proofs.Common.{rules, ◌≡◌, ◌∙◌, ◌≤◌, ◌<◌, ap, sym, subst, length, position, List, Some, None, arith}
use Rattle.dn_flight.specs.declared.lookup.Lookup.{Lookup}
use Rattle.dn_flight.specs.Counted.{flying_count}
use Rattle.dn_flight.specs.Lookups.{is_flying}
use Rattle.dn_flight.proofs.Counts.{first_within, is_first, none_first}
use Rattle.dn_flight.proofs.flights.Flights.first_in_flight.Goals as goal

pub returns-then-self-eq0-clause-first : goal.returns-then-self-eq0-clause-first
returns-then-self-eq0-clause-first c = subst (λ (ls : List Lookup). None ≡ position (λ l. is_flying l.state) ls) c.self.view_is (sym (none_first c.self.inside.lookups (sym c.self.invariant.count ∙ c.if-self-eq0.true)))

pub returns-clause-first : goal.returns-clause-first
returns-clause-first c =
    let same : c.as_slice.result.now ≡ c.self.inside.lookups = search rules in
    let count : c.self.inside.flying ≡ flying_count c.as_slice.result.now = c.self.invariant.count ∙ sym (ap flying_count same) in
    let some : 1 ≤ flying_count c.as_slice.result.now = (let n = c.if-self-eq0.false in omega arith) in
    let here : c.next_in_flight-first.result < length c.as_slice.result.now = first_within c.as_slice.result.now c.next_in_flight-first.result c.next_in_flight-first.ensures.before some in
    subst (λ (ls : List Lookup). Some c.next_in_flight-first.result ≡ position (λ l. is_flying l.state) ls) (same ∙ c.self.view_is)
    (sym (is_first c.as_slice.result.now c.next_in_flight-first.result c.next_in_flight-first.ensures.before (c.next_in_flight-first.ensures.there here)))
