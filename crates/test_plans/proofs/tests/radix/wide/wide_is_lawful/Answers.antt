use Rattle.test_plans.proofs.Lawful.{wide_is_lawful}
use Rattle.test_plans.proofs.tests.radix.wide.wide_is_lawful.Goals as goal

pub returns : goal.returns
returns c = wide_is_lawful
