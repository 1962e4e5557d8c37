-- A net that breaks no rule on walks is legal, and one that breaks none on units has units that their kinds fit.
use Rattle.dn_kind.proofs.Shapes.{shape_fault_is_first}
use Rattle.test_plans.proofs.plan.Plan.net.Goals as goal

pub returns : goal.returns
returns g c = record {
  legal = c.in_ok-_walks.ensures.walks.legal;
  shaped = ((shape_fault_is_first _ c.in_ok-net.net).0).0 c.in_ok-check_units.ensures.checks;
}
