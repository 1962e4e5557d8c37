-- All nodes.
use Rattle.std.proofs.Common.{◌≤◌, length, arith}
use Rattle.dn_flat.proofs.Seen.{all_lead}
use Rattle.dn_flat.proofs.seers.leading.Goals as goal

pub returns : goal.returns
returns c =
    let size = c.loop-node.invariant.size in
    let least : length c.args.net.now ≤ length c.loop-node.leads.items = omega (arith, size, c.loop-node-test.false, c.nodes-node-end.ensures) in
    all_lead c.args.net.now c.args.nodes.now c.loop-node.leads.items least (λ n l. c.loop-node.invariant.each n (omega (arith, size, l)))
