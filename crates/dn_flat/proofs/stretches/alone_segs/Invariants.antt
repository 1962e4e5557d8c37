-- Those of the segments so far.
use Rattle.std.proofs.Common.{◌↔◌, take}
use Rattle.dn_interval.specs.declared.row.Seg.{Seg}
use Rattle.dn_interval.specs.Rows.{Member}
use Rattle.dn_flat.specs.Stretches.{IsAlone}
use Rattle.dn_flat.proofs.stretches.alone_segs.Given as goal

abbrev pub invariant-loop-seg : goal.invariant-loop-seg
invariant-loop-seg l = (s : Seg) → Member s l.out.items ↔ (Member s (take l.seg-index l.segs) × IsAlone l.nodes l.levels s)
