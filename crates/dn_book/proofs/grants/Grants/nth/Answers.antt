use Rattle.std.proofs.Common.{◌≡◌, ◌∙◌, sym, ap, slice_get, List, ℕ, Some, rules}
use Rattle.std.proofs.lemmas.Bool.{ltb-true, ltb-false}
use Rattle.std.proofs.lemmas.Option.{slice_get-get_or, slice_get_past}
use Rattle.dn_book.specs.State.{GrantsState}
use Rattle.dn_book.proofs.Placed.{at_entry, nth_at}
use Rattle.dn_book.proofs.grants.Grants.nth.Goals as goal

pub returns-in-Some : goal.returns-in-Some
returns-in-Some c =
    let items : c.deref.result.now ≡ c.self.inside.order.items = search rules in
    let at : slice_get c.deref.result.now c.args.at ≡ Some c.in-Some.entry.now = slice_get-get_or c.deref.result.now c.args.at c.in-Some.entry.now (ltb-true _ _ (sym c.in-Some.ensures.lookup.0)) ∙ ap Some (sym c.in-Some.ensures.lookup.1) in
    c.get-in-Some.ensures
    ∙ ap (at_entry c.self.inside.kept) (sym at ∙ ap (λ (es : List (ℕ × ℕ)). slice_get es c.args.at) items)
    ∙ nth_at c.self.inside.kept c.self.inside.order.items c.args.at c.self.invariant.0.held
    ∙ ap (λ (s : GrantsState). slice_get s.live c.args.at) c.self.view_is

pub returns-in-None : goal.returns-in-None
returns-in-None c =
    let items : c.deref.result.now ≡ c.self.inside.order.items = search rules in
    ap (at_entry c.self.inside.kept) (sym (slice_get_past c.deref.result.now c.args.at (ltb-false _ _ (sym c.in-None.ensures.lookup.0))) ∙ ap (λ (es : List (ℕ × ℕ)). slice_get es c.args.at) items)
    ∙ nth_at c.self.inside.kept c.self.inside.order.items c.args.at c.self.invariant.0.held
    ∙ ap (λ (s : GrantsState). slice_get s.live c.args.at) c.self.view_is
