use Rattle.std.proofs.Common.{◌%◌, ◌^◌, ◌<◌, ◌≤◌, arith, pow_pos}
use Rattle.std.proofs.Math.Nat.{mod-le, mod-lt}
use Rattle.dn_place.proofs.Pages.{page_few}
use Rattle.dn_gather.proofs.Ranked.{next_below, next_from, next_none}
use Rattle.dn_gather.proofs.outputs.next_agreeing.Goals as goal

pub agreeing_from-from-requires-clause-place : goal.agreeing_from-from-requires-clause-place
agreeing_from-from-requires-clause-place c = rw c.power-size.ensures (mod-lt c.args.x (pow_pos c.args.page))

pub next_place-requires-clause-some : goal.next_place-requires-clause-some
next_place-requires-clause-some c = rw c.power-size.ensures (pow_pos c.args.page)

pub next_place-requires-clause-few : goal.next_place-requires-clause-few
next_place-requires-clause-few c = rw c.power-size.ensures (page_few c.args.page c.requires.page)

pub overflow_add-result : goal.overflow_add-result
overflow_add-result c = rw (c.next_place.ensures, c.power-size.ensures) (omega (arith, c.requires.few, page_few c.args.page c.requires.page, next_below (2 ^ c.args.page) c.agreeing_from-from.result c.args.exits.now (pow_pos c.args.page)))

pub returns-clause-from : goal.returns-clause-from
returns-clause-from c =
    let within : c.args.x % 2 ^ c.args.page < 2 ^ c.args.page = mod-lt c.args.x (pow_pos c.args.page) in
    let rest : c.args.x % 2 ^ c.args.page ≤ c.args.x = mod-le c.args.x (2 ^ c.args.page) in
    let low = next_from c.args.page (c.args.x % 2 ^ c.args.page) c.agreeing_from-from.result c.args.exits.now (rw c.power-size.ensures at c.agreeing_from-from.ensures.from) within in
    rw (c.next_place.ensures, c.power-size.ensures) (omega (arith, rest, low))

pub returns-clause-most : goal.returns-clause-most
returns-clause-most c = rw (c.next_place.ensures, c.power-size.ensures) (omega (arith, page_few c.args.page c.requires.page, next_below (2 ^ c.args.page) c.agreeing_from-from.result c.args.exits.now (pow_pos c.args.page)))

pub returns-clause-none : goal.returns-clause-none
returns-clause-none c = rw (c.next_place.ensures, c.power-size.ensures) (next_none c.args.page c.args.x c.agreeing_from-from.result c.args.exits.now c.requires.ranked (rw c.power-size.ensures at c.agreeing_from-from.ensures.from))
