use Rattle.dn_flat.proofs.stage.Stage.go.Goals as goal

pub returns : goal.returns
returns c = λ net stage. (stage.each c.args.node c.reach.result.now c.reach.ensures).go
