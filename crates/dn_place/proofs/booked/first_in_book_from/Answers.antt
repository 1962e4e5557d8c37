use Rattle.std.proofs.Common.{◌≡◌, subst, None, IfOk, IfSome}
use Rattle.dn_placement.specs.Order.{IsFirst, NoneSuited}
use Rattle.dn_place.proofs.Proper.{system_slots}
use Rattle.dn_place.proofs.booked.first_in_book_from.Goals as goal

pub returns : goal.returns
returns g c =
    let net = c.args.system.on.net.now in
    let slots = system_slots _ c.args.system c.args.book.now.grants c.tables-tables.result.now c.requires.system (record { few = c.facts.ensures.few; sized = c.facts.ensures.sized }) (rw c.tables-tables.ensures c.requires.kept) in
    record {
      first = subst (λ s. IfOk c.first_from.result (λ found. IfSome found (λ p. IsFirst net s c.args.request.now c.args.reach.now.at p))) slots c.first_from.ensures.first;
      none = subst (λ s. IfOk c.first_from.result (λ found. found ≡ None → NoneSuited net s c.args.request.now c.args.reach.now.at)) slots c.first_from.ensures.none;
    }
