use Rattle.std.proofs.Common.{◌∙◌, ◌==◌, sym, ap, find, option_copied}
use Rattle.dn_book.specs.declared.grant.Grant.{Grant}
use Rattle.dn_book.specs.State.{GrantsState}
use Rattle.dn_book.proofs.Placed.{at_place, find_at}
use Rattle.dn_book.proofs.grants.Grants.get.Goals as goal

pub returns-in-Some : goal.returns-in-Some
returns-in-Some c =
    c.get-in-Some.ensures
    ∙ ap (at_place c.self.inside.kept) (sym (ap option_copied c.in-Some.is) ∙ c.get.ensures.value ∙ c.self.invariant.0.found c.args.id)
    ∙ find_at c.self.inside.kept c.self.inside.order.items c.args.id c.self.invariant.0.held
    ∙ ap (λ (s : GrantsState). find (λ (g : Grant). g.id == c.args.id) s.live) c.self.view_is

pub returns-in-None : goal.returns-in-None
returns-in-None c =
    ap (at_place c.self.inside.kept) (sym (ap option_copied c.in-None.is) ∙ c.get.ensures.value ∙ c.self.invariant.0.found c.args.id)
    ∙ find_at c.self.inside.kept c.self.inside.order.items c.args.id c.self.invariant.0.held
    ∙ ap (λ (s : GrantsState). find (λ (g : Grant). g.id == c.args.id) s.live) c.self.view_is
