use Rattle.std.proofs.Common.{◌≡◌, ◌+◌, ◌≤◌, ◌<◌, List, ap, sym, subst, length, arith}
use Rattle.dn_flight.specs.declared.lookup.Lookup.{Lookup}
use Rattle.dn_flight.specs.Counted.{AreCounted, flying_count}
use Rattle.dn_flight.specs.Lookups.{is_flying, lookup_limit}
use Rattle.dn_flight.proofs.Counts.{count_small, one_small, push_counted}
use Rattle.dn_flight.proofs.flights.Flights.push.Goals as goal

pub overflow_add-self : goal.overflow_add-self
overflow_add-self c =
    let few : length c.self.inside.lookups ≤ lookup_limit = c.self.invariant.few in
    let least = count_small c.self.inside.lookups in
    let one = one_small (is_flying c.args.lookup.state) in
    let more = c.flying_in-more.ensures in
    let count : c.self.inside.flying ≡ flying_count c.self.inside.lookups = c.self.invariant.count in
    omega arith

pub invariant_of-self-2 : goal.invariant_of-self-2
invariant_of-self-2 c =
    subst (λ (ls : List Lookup). AreCounted ls (c.self.inside.flying + c.flying_in-more.result) c.self.inside.first) (sym c.in_ok-push.ensures.ok)
    (push_counted c.self.inside.lookups c.args.lookup c.self.inside.flying (c.self.inside.flying + c.flying_in-more.result) c.self.inside.first
    (subst (λ (ls : List Lookup). length ls < lookup_limit) (sym c.self.view_is) c.requires.room)
    (ap (λ n. c.self.inside.flying + n) c.flying_in-more.ensures) c.self.invariant)
