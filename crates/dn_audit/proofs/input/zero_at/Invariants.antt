use Rattle.std.proofs.Common.{◌≡◌, ◌==◌, ◌+◌, ◌-◌, ◌≤◌, drop, length, not}
use Rattle.std.specs.List.{prefix_len}
use Rattle.dn_audit.proofs.input.zero_at.Given as goal

abbrev pub invariant-loop-at : goal.invariant-loop-at
invariant-loop-at l = record {
  within : l.at ≤ length l.input;
  passed : prefix_len (λ b. not (b == 0)) l.input ≡ l.at + prefix_len (λ b. not (b == 0)) (drop l.at l.input);
}

abbrev pub decreases-loop-at : goal.decreases-loop-at
decreases-loop-at l = length l.input - l.at
