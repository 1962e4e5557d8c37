use Rattle.std.proofs.Common.{◌≡◌, ◌+◌, ◌≤◌, drop}
use Rattle.dn_net.specs.Decode.{top}
use Rattle.dn_net.proofs.Tally.{tally}
use Rattle.dn_net.proofs.spans.accepted_addresses.Given as goal

abbrev pub invariant-loop-span : goal.invariant-loop-span
invariant-loop-span l = record {
  same : l.count + tally l.past (drop l.span-index l.spans) ≡ tally 0 l.spans;
  within : l.count ≤ l.past;
  past : l.past ≤ top + 1;
}
