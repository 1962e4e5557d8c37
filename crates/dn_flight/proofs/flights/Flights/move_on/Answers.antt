-- A lookup in flight moves on: it stands in its place, and one fewer is in flight where it has ended.
use Rattle.std.proofs.Common.{rules, ◌≡◌, ◌∙◌, ◌+◌, ◌-◌, List, IsTrue, ap, sym, subst, refl, get_or, slice_get, Some, true, arith}
use Rattle.dn_base.proofs.Lists.{slice_get-at}
use Rattle.dn_flight.specs.declared.lookup.Lookup.{Lookup}
use Rattle.dn_flight.specs.Counted.{AreCounted, flying_count}
use Rattle.dn_flight.specs.Lookups.{is_flying, is_in_flight, with_state}
use Rattle.dn_flight.proofs.Counts.{in_flight_there, set_is, some_flying, state_counted}
use Rattle.dn_flight.proofs.Sized.{within_list}
use Rattle.dn_flight.proofs.flights.Flights.move_on.Goals as goal

pub overflow_sub-self : goal.overflow_sub-self
overflow_sub-self c =
    let q : IsTrue (is_in_flight (slice_get c.self.inside.lookups c.args.lookup)) = subst (λ (ls : List Lookup). IsTrue (is_in_flight (slice_get ls c.args.lookup))) (sym c.self.view_is) c.requires in
    let f = in_flight_there c.self.inside.lookups c.args.lookup (slice_get c.self.inside.lookups c.args.lookup) refl q in
    let some = some_flying c.self.inside.lookups c.args.lookup f.0 f.1 f.2 in
    let count : c.self.inside.flying ≡ flying_count c.self.inside.lookups = c.self.invariant.count in
    omega arith

pub invariant_of-self : goal.invariant_of-self
invariant_of-self c =
    let same : c.as_slice.result.now ≡ c.self.inside.lookups = search rules in
    let at : c.in-Some.found.now ≡ get_or c.as_slice.result.now c.args.lookup c.in-Some.found.now = search rules in
    let q : IsTrue (is_in_flight (slice_get c.self.inside.lookups c.args.lookup)) = subst (λ (ls : List Lookup). IsTrue (is_in_flight (slice_get ls c.args.lookup))) (sym c.self.view_is) c.requires in
    let f = in_flight_there c.self.inside.lookups c.args.lookup (slice_get c.self.inside.lookups c.args.lookup) refl q in
    let there : slice_get c.self.inside.lookups c.args.lookup ≡ Some c.in-Some.found.now = sym (slice_get-at c.self.inside.lookups c.args.lookup c.in-Some.found.now (within_list c.self.inside.lookups c.args.lookup f.0 f.1) (subst (λ (ls : List Lookup). c.in-Some.found.now ≡ get_or ls c.args.lookup c.in-Some.found.now) same at)) in
    let flies : is_flying c.in-Some.found.now.state ≡ true = sym (ap is_in_flight there) ∙ q in
    subst (λ (ls : List Lookup). AreCounted ls (c.self.inside.flying - 1 + c.flying_in.result) c.self.inside.first)
    (sym (c.set.ensures ∙ set_is c.self.inside.lookups c.args.lookup c.in-Some.found.now c.args.state there))
    (state_counted c.self.inside.lookups c.args.lookup c.in-Some.found.now c.args.state c.self.inside.flying (c.self.inside.flying - 1 + c.flying_in.result) c.self.inside.first there flies (ap (λ n. c.self.inside.flying - 1 + n) c.flying_in.ensures) c.self.invariant)

pub returns : goal.returns
returns c =
    let same : c.as_slice.result.now ≡ c.self.inside.lookups = search rules in
    let at : c.in-Some.found.now ≡ get_or c.as_slice.result.now c.args.lookup c.in-Some.found.now = search rules in
    let q : IsTrue (is_in_flight (slice_get c.self.inside.lookups c.args.lookup)) = subst (λ (ls : List Lookup). IsTrue (is_in_flight (slice_get ls c.args.lookup))) (sym c.self.view_is) c.requires in
    let f = in_flight_there c.self.inside.lookups c.args.lookup (slice_get c.self.inside.lookups c.args.lookup) refl q in
    let there : slice_get c.self.inside.lookups c.args.lookup ≡ Some c.in-Some.found.now = sym (slice_get-at c.self.inside.lookups c.args.lookup c.in-Some.found.now (within_list c.self.inside.lookups c.args.lookup f.0 f.1) (subst (λ (ls : List Lookup). c.in-Some.found.now ≡ get_or ls c.args.lookup c.in-Some.found.now) same at)) in
    c.set.ensures ∙ set_is c.self.inside.lookups c.args.lookup c.in-Some.found.now c.args.state there ∙ ap (λ (ls : List Lookup). with_state ls c.args.lookup c.args.state) c.self.view_is
