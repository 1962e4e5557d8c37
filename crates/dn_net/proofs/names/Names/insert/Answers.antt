use Rattle.std.proofs.Common.{◌≡◌, ◌∙◌, sym, refl, true, false}
use Rattle.dn_net.proofs.Ascending.{with_there, with_inserted, with_ascending}
use Rattle.dn_net.proofs.names.Names.insert.Goals as goal

pub returns-then-is_at-clause-ok : goal.returns-then-is_at-clause-ok
returns-then-is_at-clause-ok c = rw (← c.self.view_is) (sym (with_there c.args.name c.self.inside.names.items c.place_of-place.result (rw c.as_slice-names.ensures.value at c.place_of-place.ensures.before) (rw c.as_slice-names.ensures.value at (c.if-is_at.ensures.0 refl))))

pub invariant_of-self-2 : goal.invariant_of-self-2
invariant_of-self-2 c =
    let slice = c.as_slice-names.ensures.value in
    let place = c.place_of-place.ensures in
    let new = with_inserted c.args.name c.self.inside.names.items c.place_of-place.result (rw slice at place.bound) (rw slice at place.before) (rw slice at place.after) (λ at. let f : false ≡ true = c.if-is_at.ensures.1 (rw slice at) in cc) in
    rw (c.in_ok-insert.ensures.items, ← new) (with_ascending c.args.name c.self.inside.names.items c.self.invariant)

pub returns-clause-ok : goal.returns-clause-ok
returns-clause-ok c =
    let slice = c.as_slice-names.ensures.value in
    let place = c.place_of-place.ensures in
    let new = with_inserted c.args.name c.self.inside.names.items c.place_of-place.result (rw slice at place.bound) (rw slice at place.before) (rw slice at place.after) (λ at. let f : false ≡ true = c.if-is_at.ensures.1 (rw slice at) in cc) in
    rw (← c.self.view_is) (c.in_ok-insert.ensures.items ∙ sym new)
