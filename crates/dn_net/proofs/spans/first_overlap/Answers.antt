use Rattle.std.proofs.Common.{◌∙◌, sym}
use Rattle.std.proofs.lemmas.List.{at_drop_all}
use Rattle.dn_net.proofs.Sweep.{sweep, sweep_at, found_overlap, no_overlap}
use Rattle.dn_net.proofs.spans.first_overlap.Goals as goal

pub returns-then-meets-clause-found : goal.returns-then-meets-clause-found
returns-then-meets-clause-found c = (found_overlap c.args.spans.now _ c.requires.in_range c.requires.sorted (c.loop-span.invariant ∙ sweep_at c.loop-span.past_maps c.loop-span.past_accepts c.args.spans.now c.loop-span.span-index _ c.loop-span-test.true (sym c.if-meets.ensures))).0

pub returns-then-meets-clause-least : goal.returns-then-meets-clause-least
returns-then-meets-clause-least c = (found_overlap c.args.spans.now _ c.requires.in_range c.requires.sorted (c.loop-span.invariant ∙ sweep_at c.loop-span.past_maps c.loop-span.past_accepts c.args.spans.now c.loop-span.span-index _ c.loop-span-test.true (sym c.if-meets.ensures))).1

pub returns-clause-none : goal.returns-clause-none
returns-clause-none c = no_overlap c.args.spans.now c.requires.in_range c.requires.sorted (c.loop-span.invariant ∙ at_drop_all (λ l. sweep c.loop-span.past_maps c.loop-span.past_accepts l) c.args.spans.now c.loop-span.span-index c.loop-span-test.false)
