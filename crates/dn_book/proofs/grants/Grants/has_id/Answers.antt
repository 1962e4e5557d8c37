use Rattle.std.proofs.Common.{◌∙◌, ap, is_some, Option, ℕ}
use Rattle.dn_book.specs.Book.{has_id}
use Rattle.dn_book.specs.State.{GrantsState}
use Rattle.dn_book.proofs.Placed.{has_at}
use Rattle.dn_book.proofs.grants.Grants.has_id.Goals as goal

pub returns : goal.returns
returns c =
    c.contains_key.ensures
    ∙ ap (λ (o : Option ℕ). is_some o) (c.self.invariant.0.found c.args.id)
    ∙ has_at c.self.inside.kept c.self.inside.order.items c.args.id c.self.invariant.0.held
    ∙ ap (λ (s : GrantsState). has_id c.args.id s.live) c.self.view_is
