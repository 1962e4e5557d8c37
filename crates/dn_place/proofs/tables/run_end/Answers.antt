use Rattle.dn_place.proofs.Runs.{run_is}
use Rattle.dn_place.proofs.tables.run_end.Goals as goal

pub returns : goal.returns
returns c kinds = record {
  onward = c.run_end.ensures.onward;
  most = c.run_end.ensures.most;
  run = λ slot a b. run_is c.args.barred kinds c.args.tables.now c.args.unit slot (c.run_end.ensures.run slot a b);
}
