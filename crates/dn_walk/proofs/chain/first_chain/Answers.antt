-- The lists of units are those of the net.
use Rattle.std.proofs.Common.{◌≡◌, ◌∙◌, ◌<◌, IfOk, ap, sym, subst, map, length, List, ℕ}
use Rattle.std.specs.List.{All}
use Rattle.dn_walk.specs.Rows.{row_view}
use Rattle.dn_walk.specs.Units.{chain_by}
use Rattle.dn_walk.proofs.Nexts.{units_below}
use Rattle.dn_walk.proofs.Overs.{chain_is, next_everywhere, next_below, rows_there}
use Rattle.dn_walk.proofs.chain.first_chain.Goals as goal

pub next_units-requires-clause-starts : goal.next_units-requires-clause-starts
next_units-requires-clause-starts c = λ k d l. (rows_there c.args.checked.net.now c.args.checked.rules c.args.rows.now c.requires.walks k d l).0

pub next_units-requires-clause-ends : goal.next_units-requires-clause-ends
next_units-requires-clause-ends c = λ k d l. (rows_there c.args.checked.net.now c.args.checked.rules c.args.rows.now c.requires.walks k d l).1

pub chain_by-requires-clause-next : goal.chain_by-requires-clause-next
chain_by-requires-clause-next c =
    let net = c.args.checked.net.now in
    let same = next_everywhere net c.args.checked.rules c.requires.shallow (map row_view c.args.rows.now) c.requires.walks c.in_ok-next.next.items c.in_ok-next.ensures.size c.in_ok-next.ensures.next in
    subst (λ (lists : List (List ℕ)). All (λ us. All (λ u. u < length net) us) lists) (sym c.deref.ensures.value) (next_below net c.in_ok-next.next.items same)

pub chain_by-requires-clause-units : goal.chain_by-requires-clause-units
chain_by-requires-clause-units c = units_below c.args.checked.net.now c.args.units.now (length c.args.checked.net.now) c.requires.units (λ i. length c.args.checked.net.now)

pub returns : goal.returns
returns c =
    let net = c.args.checked.net.now in
    let same = next_everywhere net c.args.checked.rules c.requires.shallow (map row_view c.args.rows.now) c.requires.walks c.in_ok-next.next.items c.in_ok-next.ensures.size c.in_ok-next.ensures.next in
    let is = ap (λ lists. chain_by net lists c.args.units.now) c.deref.ensures.value ∙ ap (chain_by net c.in_ok-next.next.items) c.requires.units ∙ chain_is net c.in_ok-next.next.items same c.args.checked.plain in
    subst (λ o. IfOk c.chain_by.result (λ r. r ≡ o)) is c.chain_by.ensures
