use Rattle.std.proofs.Common.{arith}
use Rattle.dn_base.proofs.filled.words_fit.Goals as goal

pub returns : goal.returns
returns c = λ k. omega (arith, c.type_inv.words k)
