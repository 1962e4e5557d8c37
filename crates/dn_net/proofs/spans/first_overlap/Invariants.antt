use Rattle.std.proofs.Common.{◌≡◌, drop}
use Rattle.dn_net.proofs.Sweep.{sweep}
use Rattle.dn_net.proofs.spans.first_overlap.Given as goal

abbrev pub invariant-loop-span : goal.invariant-loop-span
invariant-loop-span l = sweep 0 0 l.spans ≡ sweep l.past_maps l.past_accepts (drop l.span-index l.spans)
