use Rattle.std.proofs.Common.{◌≤◌, ◌/◌, ◌^◌, arith, div-le_self}
use Rattle.dn_view.proofs.Fitted.{small_ends}
use Rattle.dn_view.proofs.records.hop_record.Goals as goal

pub overflow_add-hop : goal.overflow_add-hop
overflow_add-hop c =
    omega (arith, (small_ends c.args.checked.net.now c.args.size c.args.hop c.args.checked.plain c.requires.fitted).x)

pub overflow_add-result : goal.overflow_add-result
overflow_add-result c =
    let l : c.args.hop.y / 2 ^ c.unit_page-page.result ≤ c.args.hop.y = div-le_self c.args.hop.y (2 ^ c.unit_page-page.result) in
    omega (arith, (small_ends c.args.checked.net.now c.args.size c.args.hop c.args.checked.plain c.requires.fitted).y, l, c.from-slot.ensures, c.ranges.slot)
