use Rattle.std.proofs.Common.{◌-◌, ◌%◌, arith}
use Rattle.std.proofs.Math.Nat.{mod-le}
use Rattle.dn_place.proofs.Crowds.{past_by, within_by}
use Rattle.dn_place.proofs.inputs.past_last.Goals as goal

pub returns-clause-past : goal.returns-clause-past
returns-clause-past c = omega (arith, past_by (c.args.last - c.args.x % c.args.page) c.args.page c.requires.some, mod-le c.args.x c.args.page, c.requires.onward)

pub returns-clause-next : goal.returns-clause-next
returns-clause-next c = omega (arith, within_by (c.args.last - c.args.x % c.args.page) c.args.page, mod-le c.args.x c.args.page, c.requires.onward)
