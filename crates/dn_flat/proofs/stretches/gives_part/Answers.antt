-- The accepted names to which the segment comes are segments, of which each is a part of the other or not.
use Rattle.std.proofs.Common.{◌∙◌, ◌||◌, ap}
use Rattle.std.specs.List.{list_all}
use Rattle.dn_base.proofs.Booleans.{means_then}
use Rattle.dn_interval.specs.declared.row.Seg.{Seg}
use Rattle.dn_interval.specs.Strands.{segs_give}
use Rattle.dn_flat.specs.declared.found.Continuation.TheVariants.{Accepts}
use Rattle.dn_flat.specs.Onward.{leads_by, seg_leads}
use Rattle.dn_flat.specs.Stretches.{is_part}
use Rattle.dn_flat.proofs.Lists.{means_along}
use Rattle.dn_flat.proofs.Stretched.{gives_same, parts_mean}
use Rattle.dn_flat.proofs.stretches.gives_part.Goals as goal

pub returns : goal.returns
returns c =
    let whole = c.args.whole in
    let room = c.push.new.segs.items in
    let next = leads_by Accepts c.args.nodes.now in
    means_then (means_along c.are_parts.result (list_all (λ (s : Seg). is_part s whole) room) (c.are_parts.ensures ∙ ap (list_all (λ (s : Seg). is_part s whole)) c.as_slice.ensures.value) (parts_mean room whole))
    (gives_same (λ a z. segs_give room a z) (λ a z. seg_leads next c.args.seg a z) whole (λ a z. c.in_ok-push.ensures a z ∙ ap (λ t. segs_give t a z || seg_leads next c.args.seg a z) c.clear.ensures.items))
