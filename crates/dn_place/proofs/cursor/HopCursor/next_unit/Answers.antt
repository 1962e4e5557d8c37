use Rattle.std.proofs.Common.{◌≡◌, ◌-◌, ◌<◌, ◌≤◌, ℕ, false, List, get_or, length, ap, refl, subst, arith}
use Rattle.dn_place.specs.Hops.{hops_view}
use Rattle.dn_place.specs.Marks.{mark_at}
use Rattle.dn_place.specs.Searches.{sought}
use Rattle.dn_place.proofs.Cursors.{none_to_come, unit_begun, units_skipped}
use Rattle.dn_place.proofs.cursor.HopCursor.next_unit.Goals as goal

pub returns-then-next-units-clause-none : goal.returns-then-next-units-clause-none
returns-then-next-units-clause-none g c = λ is q t.
    let search = c.args.search in
    let s = sought (λ k. (goal.UnitKind-dyn g k).meaning k.1) search in
    let nearer = hops_view c.args.nearer in
    let units = search.reach.now.units.items in
    let marks = search.reach.now in
    let old = c.args.self.now in
    let next = c.first_marked-next.result in
    let lent = c.as_slice-units.ensures.value in
    let none : (k : ℕ) → old.begun ≤ k → k < next → mark_at marks.first.items marks.second.items marks.third.items (search.count - c.count.result) (get_or units k 0) ≡ false = λ k a b. subst (λ (us : List ℕ). mark_at marks.first.items marks.second.items marks.third.items (search.count - c.count.result) (get_or us k 0) ≡ false) lent (c.first_marked-next.ensures.none k a b) in
    let skipped = units_skipped s search.count (search.count - c.count.result) nearer units old next marks.first.items marks.second.items marks.third.items c.requires.search.ready c.requires.search.reach.marked c.requires.more c.requires.search.most (omega (arith, c.count.ensures)) c.requires.cursor c.requires.none c.requires.past c.first_marked-next.ensures.onward none in
    none_to_come s search.count nearer units (record { begun = next; unit = old.unit; exits = old.exits; at = old.at; inputs = old.inputs }) c.requires.none c.requires.past (omega (arith, ap length lent, c.if-next-units.true)) q (skipped.keeps q t)

pub returns-clause-more : goal.returns-clause-more
returns-clause-more g c = λ is.
    let search = c.args.search in
    let s = sought (λ k. (goal.UnitKind-dyn g k).meaning k.1) search in
    let nearer = hops_view c.args.nearer in
    let units = search.reach.now.units.items in
    let marks = search.reach.now in
    let old = c.args.self.now in
    let next = c.first_marked-next.result in
    let lent = c.as_slice-units.ensures.value in
    let none : (k : ℕ) → old.begun ≤ k → k < next → mark_at marks.first.items marks.second.items marks.third.items (search.count - c.count.result) (get_or units k 0) ≡ false = λ k a b. subst (λ (us : List ℕ). mark_at marks.first.items marks.second.items marks.third.items (search.count - c.count.result) (get_or us k 0) ≡ false) lent (c.first_marked-next.ensures.none k a b) in
    let skipped = units_skipped s search.count (search.count - c.count.result) nearer units old next marks.first.items marks.second.items marks.third.items c.requires.search.ready c.requires.search.reach.marked c.requires.more c.requires.search.most (omega (arith, c.count.ensures)) c.requires.cursor c.requires.none c.requires.past c.first_marked-next.ensures.onward none in
    let more : next < length units = omega (arith, ap length lent, c.if-next-units.false) in
    let begun = unit_begun s search.count nearer units (record { begun = next; unit = old.unit; exits = old.exits; at = old.at; inputs = old.inputs }) _ (get_or c.as_slice-units.result.now next 0) skipped.cursor c.requires.none c.requires.past more (ap (λ (us : List ℕ). get_or us next 0) lent) c.in_ok-self.ensures.exits c.in_ok-self.ensures.few refl refl refl c.requires.none in
    record { cursor = begun.cursor; keeps = λ q t. begun.keeps q (skipped.keeps q t); fewer = omega (arith, skipped.fewer, begun.fewer) }
