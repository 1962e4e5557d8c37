-- The first strand begins no later than the others.
use Rattle.std.proofs.Common.{ap, arith}
use Rattle.std.proofs.lemmas.List.{get_or_default}
use Rattle.dn_interval.proofs.rows.first_address.Goals as goal

pub returns-then-is_empty-clause-rest_stays : goal.returns-then-is_empty-clause-rest_stays
returns-then-is_empty-clause-rest_stays c = λ k d l.
    let e = get_or_default c.args.rest.now 0 c.index-rest-0.result d (omega arith) in
    omega (arith, c.requires.sorted 0 k d (omega arith) l, ap (λ s. s.span.lo) e)
