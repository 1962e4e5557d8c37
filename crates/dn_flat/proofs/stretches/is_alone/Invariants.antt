-- The levels so far show no other names.
use Rattle.std.proofs.Common.{◌&&◌, take}
use Rattle.dn_interval.specs.Spans.{in_span}
use Rattle.dn_flat.specs.Levels.{levels_show}
use Rattle.dn_flat.specs.Stretches.{GivesAll}
use Rattle.dn_flat.proofs.stretches.is_alone.Given as goal

abbrev pub invariant-loop-level : goal.invariant-loop-level
invariant-loop-level l = GivesAll (λ a z. in_span l.seg.span a && levels_show l.nodes (take l.level-index l.levels) a z) l.seg
