use Rattle.std.proofs.Common.{arith}
use Rattle.dn_gather.proofs.Ranked.{first_below}
use Rattle.dn_gather.proofs.outputs.next_place.Goals as goal

pub overflow_add-result : goal.overflow_add-result
overflow_add-result c = omega (arith, c.requires.few, c.first_place.ensures, first_below c.args.size c.args.exits.now c.requires.some)
