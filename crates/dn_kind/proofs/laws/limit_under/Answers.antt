use Rattle.std.proofs.Common.{refl}
use Rattle.dn_kind.specs.Tables.{step_limit_under}
use Rattle.dn_kind.proofs.laws.limit_under.Goals as goal

pub returns-clause-steps : goal.returns-clause-steps
unfolding step_limit_under
returns-clause-steps c = refl

pub returns-clause-levels : goal.returns-clause-levels
unfolding step_limit_under
returns-clause-levels c = refl
