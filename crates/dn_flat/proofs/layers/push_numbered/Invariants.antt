-- What the layers and the run give, and what the segments give that are still to come.
use Rattle.std.proofs.Common.{◌≡◌, ℕ, ◌≤◌, ◌||◌, drop}
use Rattle.std.specs.List.{list_any}
use Rattle.dn_interval.specs.declared.row.End.{End}
use Rattle.dn_interval.specs.declared.span.TheConstants.{TOP}
use Rattle.dn_interval.specs.Strands.{seg_gives, segs_give}
use Rattle.dn_flat.specs.declared.layers.Numbered.{Numbered}
use Rattle.dn_flat.specs.Levels.{levels_give}
use Rattle.dn_flat.proofs.layers.push_numbered.Given as goal

abbrev pub invariant-loop-one : goal.invariant-loop-one
invariant-loop-one l = (a : ℕ) (z : End) → a ≤ TOP → ((levels_give l.layers a z || segs_give l.run.items a z) || list_any (λ (n : Numbered). seg_gives n.seg a z) (drop l.one-index l.all)) ≡ (levels_give l.initial.layers a z || list_any (λ (n : Numbered). seg_gives n.seg a z) l.all)
