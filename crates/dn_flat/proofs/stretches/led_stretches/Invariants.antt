-- The stretches of the strands so far.
use Rattle.std.proofs.Common.{◌≡◌, ℕ, take}
use Rattle.std.specs.List.{All}
use Rattle.dn_flat.specs.Stretches.{IsStretch, are_led, begins}
use Rattle.dn_flat.proofs.stretches.led_stretches.Given as goal

abbrev pub invariant-loop-strand : goal.invariant-loop-strand
invariant-loop-strand l = record {
  each : All (IsStretch l.buffer.first l.buffer.size) l.segs.items;
  led : (v : ℕ) → begins l.segs.items v ≡ are_led l.buffer.first l.buffer.size (take l.strand-index l.strands) v;
}
