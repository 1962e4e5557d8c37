use Rattle.std.proofs.Common.{◌≡◌, drop}
use Rattle.std.specs.List.{list_all}
use Rattle.dn_interval.specs.declared.row.Seg.{Seg}
use Rattle.dn_view.specs.Exact.{is_part_of_buffer}
use Rattle.dn_view.proofs.exact.are_parts.Given as goal

abbrev pub invariant-loop-seg : goal.invariant-loop-seg
invariant-loop-seg l = list_all (λ (s : Seg). is_part_of_buffer s l.request l.v) l.shown ≡ list_all (λ (s : Seg). is_part_of_buffer s l.request l.v) (drop l.seg-index l.shown)
