-- What was found, and what the levels that are still to come lead to.
use Rattle.std.proofs.Common.{◌≡◌, ℕ, ◌||◌, drop}
use Rattle.dn_interval.specs.declared.row.End.{End}
use Rattle.dn_interval.specs.Strands.{segs_give}
use Rattle.dn_flat.specs.Onward.{leads_by, levels_lead}
use Rattle.dn_flat.proofs.found.levels_segs.Given as goal

abbrev pub invariant-loop-level : goal.invariant-loop-level
invariant-loop-level l = (a : ℕ) (z : End) → (segs_give l.segs.items a z || levels_lead (leads_by l.part l.nodes) (drop l.level-index l.levels) a z) ≡ levels_lead (leads_by l.part l.nodes) l.levels a z
