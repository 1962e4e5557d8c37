use Rattle.std.proofs.Common.{sym, slice_get}
use Rattle.std.proofs.lemmas.Bool.{ne_eqb}
use Rattle.dn_place.proofs.Unaccepted.{IsFirstUnaccepted, refused_found, refused_none}
use Rattle.dn_place.proofs.accepted.refused_address.Goals as goal
use Rattle.dn_place.proofs.accepted.refused_address.Goals.{After-first_unaccepted-first}

first : (c : After-first_unaccepted-first) → IsFirstUnaccepted (slice_get c.args.checked.net.now c.args.node) c.args.base c.first_unaccepted-first.result
first c =
    let said = c.first_unaccepted-first.ensures in
    record { from = said.from; accepted = said.accepted; unaccepted = said.unaccepted }

pub returns-then-first-base : goal.returns-then-first-base
returns-then-first-base c = sym (refused_found _ c.args.base c.args.size _ (first (goal.at.returns-then-first-base c).After-first_unaccepted-first) (ne_eqb _ _ c.if-size-eq0.false) c.if-first-base.true)

pub returns-else-first-base : goal.returns-else-first-base
returns-else-first-base c = sym (refused_none _ c.args.base c.args.size _ (first (goal.at.returns-else-first-base c).After-first_unaccepted-first) (ne_eqb _ _ c.if-size-eq0.false) c.if-first-base.false)
