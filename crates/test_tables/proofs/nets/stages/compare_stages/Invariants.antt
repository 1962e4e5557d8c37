-- The stage is one of the net, from one turn to the next.
use Rattle.dn_flat.specs.Stages.{IsStage}
use Rattle.test_tables.proofs.nets.stages.compare_stages.Given as goal

abbrev pub invariant-loop : goal.invariant-loop
invariant-loop g l = IsStage l.net l.stage
