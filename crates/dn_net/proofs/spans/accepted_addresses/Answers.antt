use Rattle.std.proofs.Common.{arith}
use Rattle.std.proofs.lemmas.List.{at_drop_all}
use Rattle.dn_net.proofs.Tally.{tally, accepted_tally}
use Rattle.dn_net.proofs.spans.accepted_addresses.Goals as goal

pub returns : goal.returns
returns c =
    let done = at_drop_all (λ l. tally c.loop-span.past l) c.args.spans.now c.loop-span.span-index c.loop-span-test.false in
    let all = accepted_tally c.args.spans.now c.requires.in_range c.requires.sorted in
    let same = c.loop-span.invariant.same in
    omega (arith, done, all, same)
