-- Nothing is left out between the span and those that it touches.
use Rattle.std.proofs.Common.{◌<◌, length, arith}
use Rattle.std.proofs.lemmas.Bool.Decides.{nat_tests}
use Rattle.dn_interval.proofs.Joining.{hull}
use Rattle.dn_interval.proofs.span_set.join.Goals as goal

pub returns : goal.returns
returns c =
    let some : 0 < length c.args.touched.now = grind (arith, nat_tests) in
    hull c.args.span c.index-touched-0.result c.index-touched-touched.result _ _ c.args.touched.now c.requires.apart c.requires.touch some c.index-touched-0.is c.index-touched-touched.is c.min.ensures c.max.ensures
