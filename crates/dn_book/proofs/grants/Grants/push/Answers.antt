use Rattle.std.proofs.Common.{◌∙◌, ◌++◌, ◌∷◌, ◌-◌, [], ap}
use Rattle.dn_book.specs.State.{GrantsState}
use Rattle.dn_book.proofs.Placed.{one_less}
use Rattle.dn_book.proofs.grants.Grants.push.Goals as goal

pub returns-clause-pushed : goal.returns-clause-pushed
returns-clause-pushed c = c.push_reserved.ensures.pushed ∙ ap (λ (s : GrantsState). s.live ++ c.args.grant ∷ []) c.in_ok-reserve.ensures.reserved

pub returns-clause-spare : goal.returns-clause-spare
returns-clause-spare c = c.push_reserved.ensures.spare ∙ ap (λ (s : GrantsState). s.spare - 1) c.in_ok-reserve.ensures.reserved ∙ one_less c.args.self.now.spare
