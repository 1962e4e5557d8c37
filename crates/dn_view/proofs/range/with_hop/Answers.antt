use Rattle.std.proofs.Common.{◌≡◌, ◌≤◌, ◌+◌, ◌-◌, ◌*◌, ◌/◌, ◌^◌, ap, sym, subst, ◌∙◌, pow_pos, arith}
use Rattle.std.proofs.Math.Nat.{div-le_self}
use Rattle.std.proofs.lemmas.Option.{same_Some}
use Rattle.dn_net.specs.declared.node.Unit.{Unit as UnitPart}
use Rattle.dn_view.proofs.Fitted.{HasEnds, small_ends}
use Rattle.dn_net.specs.Decode.{unit_at}
use Rattle.dn_view.proofs.Pages.{last_slot_there, max_below}
use Rattle.dn_view.proofs.range.with_hop.Goals as goal

pub overflow_add-last : goal.overflow_add-last
overflow_add-last c =
    let e : HasEnds c.args.size c.args.hop = small_ends c.args.checked.net.now c.args.size c.args.hop c.args.checked.plain c.requires.fitted in
    let x = e.x in
    omega arith

pub overflow_add-last-2 : goal.overflow_add-last-2
overflow_add-last-2 c =
    let e : HasEnds c.args.size c.args.hop = small_ends c.args.checked.net.now c.args.size c.args.hop c.args.checked.plain c.requires.fitted in
    let x = e.x in
    let l : (c.args.hop.x + c.args.size - 1) / 2 ^ c.unit_page-page.result ≤ c.args.hop.x + c.args.size - 1 = div-le_self (c.args.hop.x + c.args.size - 1) (2 ^ c.unit_page-page.result) in
    omega arith

pub returns-clause-there : goal.returns-clause-there
returns-clause-there c u at l =
    let f = c.requires.fitted in
    let same : f.unit ≡ u = same_Some f.unit u (sym f.is_unit ∙ ap (unit_at c.args.checked.net.now) (sym c.if-node-hop.false) ∙ at) in
    let page : c.unit_page-page.result ≡ u.page = c.unit_page-page.ensures.page f.unit f.is_unit ∙ ap (λ (v : UnitPart). v.page) same in
    let within : c.args.hop.x + c.args.size ≤ u.slots * 2 ^ u.page = subst (λ (v : UnitPart). c.args.hop.x + c.args.size ≤ v.slots * 2 ^ v.page) same f.fits.within in
    let last : (c.args.hop.x + c.args.size - 1) / 2 ^ u.page + 1 ≤ u.slots = last_slot_there (2 ^ u.page) c.args.hop.x c.args.size u.slots (pow_pos u.page) c.requires.some within in
    let there : (c.args.hop.x + c.args.size - 1) / 2 ^ c.unit_page-page.result + 1 ≤ u.slots = subst (λ n. (c.args.hop.x + c.args.size - 1) / 2 ^ n + 1 ≤ u.slots) (sym page) last in
    subst (λ n. n ≤ u.slots) (sym c.max.ensures) (max_below c.args.range.1 ((c.args.hop.x + c.args.size - 1) / 2 ^ c.unit_page-page.result + 1) u.slots l there)
