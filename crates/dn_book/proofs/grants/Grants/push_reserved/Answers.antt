use Rattle.std.proofs.Common.{◌≡◌, ◌∙◌, ◌++◌, ◌∷◌, ◌<◌, [], ap, sym, subst, cond, false, nat_eq, List, Some, ℕ, arith}
use Rattle.std.specs.Map.{lookup}
use Rattle.dn_book.specs.Book.{has_id}
use Rattle.dn_book.specs.Placed.{AreFoundById, kept_grants}
use Rattle.dn_book.specs.State.{GrantsState}
use Rattle.dn_book.proofs.Placed.{grants_more, placed_last}
use Rattle.dn_book.proofs.grants.Grants.push_reserved.Goals as goal

pub invariant_of-self : goal.invariant_of-self
invariant_of-self c =
    let new : has_id c.args.grant.id (kept_grants c.self.inside.kept c.self.inside.order.items) ≡ false = ap (λ (s : GrantsState). has_id c.args.grant.id s.live) c.self.view_is ∙ c.requires.new in
    let room : 0 < c.self.inside.spare = subst (λ (s : GrantsState). 0 < s.spare) (sym c.self.view_is) c.requires.room in
    let put : (q : ℕ) → lookup (nat_eq q) c.insert-put.new.self.entries ≡ cond (nat_eq c.args.grant.id q) (Some c.insert_reserved-place.result) (lookup (nat_eq q) c.self.inside.places.entries) = (rw c.unwrap.ensures at c.insert-put.ensures.updates).0 in
    (subst (λ (es : List (ℕ × ℕ)). AreFoundById c.insert_reserved-place.new.self es c.insert-put.new.self.entries) (sym c.push_reserved.ensures.items) (placed_last c.self.inside.kept c.insert_reserved-place.new.self c.self.inside.order.items c.self.inside.places.entries c.insert-put.new.self.entries c.insert_reserved-place.result c.args.grant c.self.invariant.0 new c.insert_reserved-place.ensures.updates c.insert_reserved-place.ensures.was_vacant put), omega (arith, room, c.self.invariant.1, c.insert_reserved-place.ensures.len, c.insert_reserved-place.ensures.capacity), omega (arith, room, c.self.invariant.2, c.push_reserved.ensures.len, c.push_reserved.ensures.capacity), omega (arith, room, c.self.invariant.3, c.insert-put.ensures.spare))

pub returns-clause-pushed : goal.returns-clause-pushed
returns-clause-pushed c =
    ap (kept_grants c.insert_reserved-place.new.self) c.push_reserved.ensures.items
    ∙ grants_more c.self.inside.kept c.insert_reserved-place.new.self c.self.inside.order.items c.insert_reserved-place.result c.args.grant c.self.invariant.0.held c.insert_reserved-place.ensures.updates c.insert_reserved-place.ensures.was_vacant
    ∙ ap (λ (s : GrantsState). s.live ++ c.args.grant ∷ []) c.self.view_is
