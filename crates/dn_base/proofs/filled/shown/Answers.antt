use Rattle.std.proofs.Common.{◌∙◌, ◌<◌, ◌+◌, ◌-◌, ◌/◌, ◌%◌, sym, get_or, length, arith, ℕ}
use Rattle.std.proofs.lemmas.List.{get_or_default}
use Rattle.dn_base.proofs.Paging.{item_made, item_unmade}
use Rattle.dn_base.proofs.filled.shown.Goals as goal

pub returns-then-end-eq0 : goal.returns-then-end-eq0
returns-then-end-eq0 g c = item_unmade c.args.rest c.args.items.now c.args.ends.now c.args.at c.if-end-eq0.true

pub returns : goal.returns
returns g c =
    let end : ℕ = get_or c.args.ends.now (c.args.at / 256) 0 in
    let made : 0 < end = omega (arith, c.if-end-eq0.false) in
    let small : c.args.at % 256 < 256 = omega arith in
    let within : end - 256 + c.args.at % 256 < length c.args.items.now = omega (arith, c.requires.whole made, c.requires.within, small) in
    c.index-items-place.is
    ∙ get_or_default c.args.items.now (end - 256 + c.args.at % 256) c.index-items-place.result c.args.rest within
    ∙ sym (item_made c.args.rest c.args.items.now c.args.ends.now c.args.at made)
