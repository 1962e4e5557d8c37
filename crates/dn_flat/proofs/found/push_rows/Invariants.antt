-- What was added, and what the rows that are still to come lead to.
use Rattle.std.proofs.Common.{◌≡◌, ℕ, ◌||◌, drop}
use Rattle.dn_interval.specs.declared.row.End.{End}
use Rattle.dn_interval.specs.Onward.{rows_go}
use Rattle.dn_interval.specs.Strands.{segs_give}
use Rattle.dn_flat.specs.Onward.{leads_by}
use Rattle.dn_flat.proofs.found.push_rows.Given as goal

abbrev pub invariant-loop-row : goal.invariant-loop-row
invariant-loop-row l = (a : ℕ) (z : End) → (segs_give l.segs.items a z || rows_go (leads_by l.part l.nodes) (drop l.row-index l.all) a z) ≡ (segs_give l.initial.segs.items a z || rows_go (leads_by l.part l.nodes) l.all a z)
