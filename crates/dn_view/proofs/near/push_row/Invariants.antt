-- What was added, and what the names of the row that are still to come add.
use Rattle.std.proofs.Common.{◌≡◌, ℕ, ◌&&◌, ◌||◌, drop}
use Rattle.std.specs.List.{list_any}
use Rattle.dn_interval.specs.declared.row.End.{End}
use Rattle.dn_interval.specs.Spans.{in_span}
use Rattle.dn_interval.specs.Strands.{segs_give}
use Rattle.dn_view.specs.Near.{end_near}
use Rattle.dn_view.proofs.near.push_row.Given as goal

abbrev pub invariant-loop-end : goal.invariant-loop-end
invariant-loop-end l = (a : ℕ) (z : End) → (segs_give l.segs.items a z || (in_span l.span a && list_any (λ e. end_near l.target l.size l.span a z e) (drop l.end-index l.ends))) ≡ (segs_give l.initial.segs.items a z || (in_span l.span a && list_any (λ e. end_near l.target l.size l.span a z e) l.ends))
