-- The segments so far, and what the rows that are still to come give.
use Rattle.std.proofs.Common.{◌≡◌, ℕ, ◌||◌, drop, take, length}
use Rattle.dn_interval.specs.declared.row.End.{End}
use Rattle.dn_interval.specs.Onward.{seg_goes}
use Rattle.dn_interval.specs.Strands.{segs_give}
use Rattle.dn_interval.proofs.onward.push_all.Given as goal

abbrev pub invariant-loop-row : goal.invariant-loop-row
invariant-loop-row l = record {
  ok : (a : ℕ) (z : End) → (segs_give l.segs.items a z || seg_goes (drop l.row-index l.rest) l.seg a z) ≡ (segs_give l.initial.segs.items a z || seg_goes l.rest l.seg a z);
  kept : take (length l.initial.segs.items) l.segs.items ≡ l.initial.segs.items;
}
