use Rattle.dn_flat.proofs.stage.Stage.done.Goals as goal

pub returns-clause-done : goal.returns-clause-done
returns-clause-done c = λ net stage. (stage.each c.args.node c.reach.result.now c.reach.ensures).done
