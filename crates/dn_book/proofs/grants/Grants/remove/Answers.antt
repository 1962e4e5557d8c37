use Rattle.std.proofs.Common.{◌≡◌, ◌∙◌, ap, sym, subst, nat_eq, List, Some, None, ℕ, arith, rules}
use Rattle.std.specs.Map.{lookup}
use Rattle.dn_book.specs.Book.{without_id}
use Rattle.dn_book.specs.Placed.{AreFoundById, kept_grants, without_place}
use Rattle.dn_book.specs.State.{GrantsState}
use Rattle.dn_book.proofs.Placed.{grants_left, is_kept, none_goes, placed_less}
use Rattle.dn_book.proofs.grants.Grants.remove.Goals as goal

pub remove-requires-in-Some : goal.remove-requires-in-Some
remove-requires-in-Some c =
    let at : lookup (nat_eq c.args.id) c.self.inside.places.entries ≡ Some c.in-Some.place = sym c.remove.ensures.value ∙ c.in-Some.is in
    is_kept c.self.inside.kept c.self.inside.order.items c.self.inside.places.entries c.args.id c.in-Some.place c.self.invariant.0 at

pub invariant_of-self : goal.invariant_of-self
invariant_of-self c =
    let at : lookup (nat_eq c.args.id) c.self.inside.places.entries ≡ Some c.in-Some.place = sym c.remove.ensures.value ∙ c.in-Some.is in
    let left : c.take_out.new.order.items ≡ without_place c.args.id c.self.inside.order.items = c.take_out.ensures.left in
    (subst (λ (es : List (ℕ × ℕ)). AreFoundById c.remove-in-Some.new.self es c.remove.new.self.entries) (sym left) (placed_less c.self.inside.kept c.remove-in-Some.new.self c.self.inside.order.items c.self.inside.places.entries c.remove.new.self.entries c.args.id c.in-Some.place c.self.invariant.0 at c.remove-in-Some.ensures.updates c.remove.ensures.updates.0), omega (arith, c.self.invariant.1, c.remove-in-Some.ensures.len, c.remove-in-Some.ensures.capacity), omega (arith, c.self.invariant.2, c.take_out.ensures.most, c.take_out.ensures.capacity), omega (arith, c.self.invariant.3, c.remove.ensures.spare))

pub returns-in-Some-clause-left : goal.returns-in-Some-clause-left
returns-in-Some-clause-left c =
    let at : lookup (nat_eq c.args.id) c.self.inside.places.entries ≡ Some c.in-Some.place = sym c.remove.ensures.value ∙ c.in-Some.is in
    let left : c.take_out.new.order.items ≡ without_place c.args.id c.self.inside.order.items = c.take_out.ensures.left in
    ap (kept_grants c.remove-in-Some.new.self) left
    ∙ grants_left c.self.inside.kept c.remove-in-Some.new.self c.self.inside.order.items c.self.inside.places.entries c.args.id c.in-Some.place c.self.invariant.0 at c.remove-in-Some.ensures.updates
    ∙ ap (λ (s : GrantsState). without_id c.args.id s.live) c.self.view_is

pub returns-in_default-clause-left : goal.returns-in_default-clause-left
returns-in_default-clause-left c =
    let none : c.remove.result ≡ None = search rules in
    none_goes c.self.inside.kept c.self.inside.order.items c.self.inside.places.entries c.args.id c.self.invariant.0 (sym c.remove.ensures.value ∙ none)
    ∙ ap (λ (s : GrantsState). without_id c.args.id s.live) c.self.view_is
