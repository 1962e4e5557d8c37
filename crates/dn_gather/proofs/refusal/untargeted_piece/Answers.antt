use Rattle.dn_gather.specs.Refusal.{target_refusal}
use Rattle.dn_gather.proofs.Refused.{refused_none, targets_there}
use Rattle.dn_gather.proofs.refusal.untargeted_piece.Goals as goal

pub returns-clause-there : goal.returns-clause-there
returns-clause-there c = λ e. targets_there c.args.net.now 0 c.args.pieces.now (refused_none (target_refusal c.args.net.now) c.args.pieces.now c.loop-i.i c.loop-i-test.false c.loop-i.invariant)
