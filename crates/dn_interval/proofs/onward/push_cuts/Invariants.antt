-- The segments so far, and what the names of the row that are still to come give.
use Rattle.std.proofs.Common.{◌≡◌, ℕ, ◌+◌, ◌-◌, ◌&&◌, ◌||◌, drop, take, length}
use Rattle.dn_interval.specs.declared.row.End.{End}
use Rattle.dn_interval.specs.Spans.{in_span}
use Rattle.dn_interval.specs.Strands.{segs_give, ends_give}
use Rattle.dn_interval.proofs.onward.push_cuts.Given as goal

abbrev pub invariant-loop-end : goal.invariant-loop-end
invariant-loop-end l = record {
  ok : (a : ℕ) (z : End) → (segs_give l.segs.items a z || (in_span l.seg.span a && (in_span l.span (l.seg.base + (a - l.seg.span.lo)) && ends_give (drop l.end-index l.ends) l.span.lo (l.seg.base + (a - l.seg.span.lo)) z))) ≡ (segs_give l.initial.segs.items a z || (in_span l.seg.span a && (in_span l.span (l.seg.base + (a - l.seg.span.lo)) && ends_give l.ends l.span.lo (l.seg.base + (a - l.seg.span.lo)) z)));
  kept : take (length l.initial.segs.items) l.segs.items ≡ l.initial.segs.items;
}
