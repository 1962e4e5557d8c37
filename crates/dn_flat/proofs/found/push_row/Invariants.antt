-- What was added, and what the names of the row that are still to come lead to.
use Rattle.std.proofs.Common.{◌≡◌, ℕ, ◌&&◌, ◌||◌, drop}
use Rattle.dn_interval.specs.declared.row.End.{End}
use Rattle.dn_interval.specs.Onward.{ends_go}
use Rattle.dn_interval.specs.Spans.{in_span}
use Rattle.dn_interval.specs.Strands.{segs_give}
use Rattle.dn_flat.specs.Onward.{leads_by}
use Rattle.dn_flat.proofs.found.push_row.Given as goal

abbrev pub invariant-loop-end : goal.invariant-loop-end
invariant-loop-end l = (a : ℕ) (z : End) → (segs_give l.segs.items a z || (in_span l.span a && ends_go (leads_by l.part l.nodes) (drop l.end-index l.ends) l.span.lo a z)) ≡ (segs_give l.initial.segs.items a z || (in_span l.span a && ends_go (leads_by l.part l.nodes) l.ends l.span.lo a z))
