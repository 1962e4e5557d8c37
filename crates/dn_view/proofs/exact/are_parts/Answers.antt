use Rattle.std.proofs.Common.{◌∙◌, ap, sym}
use Rattle.std.specs.List.{list_all}
use Rattle.std.proofs.Math.ListN.{drop_of_length-le}
use Rattle.dn_interval.specs.declared.row.Seg.{Seg}
use Rattle.dn_view.specs.Exact.{is_part_of_buffer}
use Rattle.dn_view.proofs.exact.are_parts.Goals as goal

pub returns : goal.returns
returns c =
    let p = λ (s : Seg). is_part_of_buffer s c.args.request.now c.args.v in
    sym (c.loop-seg.invariant ∙ ap (list_all p) (drop_of_length-le c.args.shown.now c.loop-seg-test.false))
