-- Past the last node nothing is accepted.
use Rattle.std.proofs.Common.{◌≡◌, length, arith}
use Rattle.dn_walk.proofs.Accepts.{every_set}
use Rattle.dn_walk.proofs.accepted.accepted_sets.Goals as goal

pub returns : goal.returns
returns c =
    let every : length c.loop-node.sets.items ≡ length c.args.checked.net.now = omega arith in
    record { every = every; same = every_set c.args.checked.net.now c.loop-node.sets.items every (λ n a l. c.loop-node.invariant.same n a (omega arith)) }
