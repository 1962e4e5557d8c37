use Rattle.std.proofs.Common.{◌∙◌, sym, ap, length, rules}
use Rattle.dn_book.specs.State.{GrantsState}
use Rattle.dn_book.proofs.Placed.{length_at}
use Rattle.dn_book.proofs.grants.Grants.len.Goals as goal

pub returns : goal.returns
returns c = search rules ∙ sym (length_at c.self.inside.kept c.self.inside.order.items c.self.invariant.0.held) ∙ ap (λ (s : GrantsState). length s.live) c.self.view_is
