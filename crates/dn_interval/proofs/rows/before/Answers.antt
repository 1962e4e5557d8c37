-- The first strand begins no later than the others.
use Rattle.std.proofs.Common.{ap, arith}
use Rattle.std.proofs.lemmas.List.{get_or_default}
use Rattle.dn_interval.proofs.rows.before.Goals as goal

pub returns-clause-below : goal.returns-clause-below
returns-clause-below c = λ k d l.
    let e = get_or_default c.args.rest.now 0 c.index-rest-0.result d (omega arith) in
    omega (arith, c.requires.sorted 0 k d (omega arith) l, c.requires.later 0 d (omega arith), ap (λ s. s.span.lo) e)
