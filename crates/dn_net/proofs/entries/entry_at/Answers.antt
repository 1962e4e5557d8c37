use Rattle.std.proofs.Common.{◌≡◌, Some, slice_get, ap, sym, ◌∙◌, arith}
use Rattle.std.proofs.lemmas.Option.{slice_get-get_or, slice_get_within}
use Rattle.dn_net.proofs.Latest.{all_later, none_has, found_by, not_found, stands}
use Rattle.dn_net.proofs.entries.entry_at.Goals as goal

pub returns-in_default-clause-none : goal.returns-in_default-clause-none
returns-in_default-clause-none c over = not_found c.args.addr c.args.entries.now (all_later c.args.entries.now c.order.result.now c.order.ensures.every c.args.addr c.in_default.ensures.none) over

pub returns-in_default-get-clause-none : goal.returns-in_default-get-clause-none
returns-in_default-get-clause-none c =
    let place = stands c.args.entries.now c.order.result.now c.order.ensures.every c.in-Some.place.now c.in-Some.ensures.there in
    let inside = slice_get_within c.args.entries.now c.in-Some.place.now.entry place.entry place.at in
    let past = rw c.as_slice.ensures at c.in_default-get.ensures.lookup.3 in
    absurd (omega (arith, inside, past))

pub returns-then-not-has-clause-none : goal.returns-then-not-has-clause-none
returns-then-not-has-clause-none c over =
    let entries = c.args.entries.now in
    let place = c.in-Some.place.now in
    let entry = c.in-Some-get.entry.now in
    let found = rw c.as_slice.ensures at c.in-Some-get.ensures.lookup.3 in
    let at : slice_get entries place.entry ≡ Some entry = slice_get-get_or entries place.entry entry found.0 ∙ ap (λ e. Some e) (sym (found.1 entry)) in
    not_found c.args.addr entries (none_has entries c.order.result.now c.order.ensures.every c.args.addr place entry c.requires.in_range c.requires.apart c.in-Some.ensures.there c.in-Some.ensures.begun c.in-Some.ensures.last at (sym c.if-not-has.ensures)) over

pub returns-clause-found : goal.returns-clause-found
returns-clause-found c over =
    let entries = c.args.entries.now in
    let place = c.in-Some.place.now in
    let entry = c.in-Some-get.entry.now in
    let found = rw c.as_slice.ensures at c.in-Some-get.ensures.lookup.3 in
    let at : slice_get entries place.entry ≡ Some entry = slice_get-get_or entries place.entry entry found.0 ∙ ap (λ e. Some e) (sym (found.1 entry)) in
    found_by c.args.addr entries place.entry entry (c.requires.apart c.args.addr) at (sym c.if-not-has.ensures) over
