use Rattle.std.proofs.Common.{◌*◌, ◌%◌, ◌^◌, ◌≤◌, arith}
use Rattle.std.proofs.Math.Nat.{mod-le, pow-le-pow_right}
use Rattle.dn_view.proofs.Fitted.{small_ends}
use Rattle.dn_view.proofs.met.slot_names.Goals as goal

pub overflow_add-last : goal.overflow_add-last
overflow_add-last c =
    omega (arith, (small_ends c.args.checked.net.now c.args.size c.args.hop c.args.checked.plain c.requires.fitted).x)

pub overflow_add-end : goal.overflow_add-end
overflow_add-end c =
    let page : 2 ^ c.unit_page.result ≤ 2 ^ 40 = pow-le-pow_right (omega arith) c.unit_page.ensures.small in
    let less : 1 * 2 ^ c.unit_page.result % 18446744073709551616 ≤ 1 * 2 ^ c.unit_page.result = mod-le (1 * 2 ^ c.unit_page.result) 18446744073709551616 in
    omega (arith, (small_ends c.args.checked.net.now c.args.size c.args.hop c.args.checked.plain c.requires.fitted).x, page, less)
