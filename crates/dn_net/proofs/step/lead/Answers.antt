use Rattle.std.specs.List.{list_all}
use Rattle.dn_base.proofs.Booleans.{and_parts}
use Rattle.dn_net.specs.Rules.{entry_in_range, block_in_range, dest_in_range}
use Rattle.dn_net.proofs.Steps.{dests_reach}
use Rattle.dn_net.proofs.step.lead.Goals as goal

pub returns-in-Some-clause-reach : goal.returns-in-Some-clause-reach
returns-in-Some-clause-reach c =
    let entry = c.in-Some.entry.now in
    let range = and_parts (block_in_range entry.block) (list_all (dest_in_range entry.block) entry.dests) (c.in-Some.ensures.each entry_in_range c.requires.in_range) in
    rw c.as_slice.ensures (dests_reach entry.block c.args.addr entry.dests c.in-Some.ensures.covers range.1)
