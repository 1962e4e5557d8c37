-- What was added, and what the segments that are still to come lead to.
use Rattle.std.proofs.Common.{◌≡◌, ℕ, ◌||◌, drop}
use Rattle.dn_interval.specs.declared.row.End.{End}
use Rattle.dn_interval.specs.Strands.{segs_give}
use Rattle.dn_flat.specs.Onward.{leads_by, segs_lead}
use Rattle.dn_flat.proofs.found.push_segs.Given as goal

abbrev pub invariant-loop-seg : goal.invariant-loop-seg
invariant-loop-seg l = (a : ℕ) (z : End) → (segs_give l.segs.items a z || segs_lead (leads_by l.part l.nodes) (drop l.seg-index l.given) a z) ≡ (segs_give l.initial.segs.items a z || segs_lead (leads_by l.part l.nodes) l.given a z)
