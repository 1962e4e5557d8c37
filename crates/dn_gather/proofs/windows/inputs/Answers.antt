use Rattle.std.proofs.Common.{arith}
use Rattle.dn_place.proofs.Pages.{input_bound}
use Rattle.dn_gather.proofs.windows.inputs.Goals as goal

pub overflow_mul-result : goal.overflow_mul-result
overflow_mul-result c = rw (c.power.ensures, c.from.ensures) (omega (arith, input_bound c.args.translator.now.slots c.args.translator.now.page c.requires.page c.requires.slots))
