use Rattle.std.proofs.Common.{◌≡◌, ◌-◌, Some, None, ap, refl, arith, rules}
use Rattle.dn_place.specs.declared.cursor.Inputs.{Inputs}
use Rattle.dn_place.specs.Hops.{hops_view}
use Rattle.dn_place.specs.Searches.{sought}
use Rattle.dn_place.proofs.Cursors.{hand_range, input_given, inputs_gone, none_at_hand, past_fits}
use Rattle.dn_place.proofs.cursor.HopCursor.next_input.Goals as goal

pub returns-in_default-clause-none : goal.returns-in_default-clause-none
returns-in_default-clause-none g c =
    let none : c.args.self.now.inputs ≡ None = search rules in
    none_at_hand _ _ _ _ c.args.self.now c.requires.cursor none

pub usable_input-requires-clause-range : goal.usable_input-requires-clause-range
usable_input-requires-clause-range g c =
    let some : c.args.self.now.inputs ≡ Some c.in-Some.inputs = search rules in
    hand_range _ _ _ _ c.args.self.now c.in-Some.inputs c.requires.cursor some

pub past_input-requires : goal.past_input-requires
past_input-requires g c =
    let some : c.args.self.now.inputs ≡ Some c.in-Some.inputs = search rules in
    past_fits _ _ _ _ _ c.args.self.now c.in-Some.inputs c.in-Some-usable_input.input c.requires.search.ready c.requires.cursor some c.in-Some-usable_input.ensures.some

pub returns-in-Some-usable_input-clause-some : goal.returns-in-Some-usable_input-clause-some
returns-in-Some-usable_input-clause-some g c =
    let s = sought (λ k. (goal.UnitKind-dyn g k).meaning k.1) c.args.search in
    let count = c.args.search.count in
    let nearer = hops_view c.args.nearer in
    let units = c.args.search.reach.now.units.items in
    let some : c.args.self.now.inputs ≡ Some c.in-Some.inputs = search rules in
    let w = c.in-Some-usable_input.ensures.some in
    input_given s count (count - c.count.result) nearer units c.args.self.now _ c.in-Some.inputs c.in-Some-usable_input.input c.past_input.ensures.0 w.u c.requires.search.ready c.requires.chosen c.requires.more (omega (arith, c.count.ensures)) c.requires.cursor some w.is_unit w.found refl refl refl refl (ap (λ (i : Inputs). Some i) c.past_input.ensures.1)

pub returns-in-None-clause-none : goal.returns-in-None-clause-none
returns-in-None-clause-none g c =
    let s = sought (λ k. (goal.UnitKind-dyn g k).meaning k.1) c.args.search in
    let count = c.args.search.count in
    let nearer = hops_view c.args.nearer in
    let units = c.args.search.reach.now.units.items in
    let some : c.args.self.now.inputs ≡ Some c.in-Some.inputs = search rules in
    let w = c.in-None.ensures.none in
    inputs_gone s count (count - c.count.result) nearer units c.args.self.now _ c.in-Some.inputs w.u c.requires.search.ready c.requires.more (omega (arith, c.count.ensures)) c.requires.cursor some w.is_unit w.useless refl refl refl refl refl
