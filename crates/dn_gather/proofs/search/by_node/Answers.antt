use Rattle.dn_gather.proofs.Placing.{none_in_node}
use Rattle.dn_gather.proofs.search.by_node.Goals as goal

pub returns-in-None-clause-none : goal.returns-in-None-clause-none
returns-in-None-clause-none g c = λ is v. none_in_node (λ k. (goal.UnitKind-dyn g k).meaning k.1) c.args.wanted c.requires.wanted c.args.unit v c.in-None.ensures.none
