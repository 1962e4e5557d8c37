-- All are parts where the rest are.
use Rattle.std.proofs.Common.{◌≡◌, drop}
use Rattle.std.specs.List.{list_all}
use Rattle.dn_interval.specs.declared.row.Seg.{Seg}
use Rattle.dn_flat.specs.Stretches.{is_part}
use Rattle.dn_flat.proofs.stretches.are_parts.Given as goal

abbrev pub invariant-loop-seg : goal.invariant-loop-seg
invariant-loop-seg l = list_all (λ (s : Seg). is_part s l.whole) l.segs ≡ list_all (λ (s : Seg). is_part s l.whole) (drop l.seg-index l.segs)
