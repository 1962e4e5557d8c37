use Rattle.std.proofs.Common.{◌&&◌, ◌∙◌, nat_eq, List, ap, subst}
use Rattle.dn_interval.specs.declared.row.Seg.{Seg}
use Rattle.dn_interval.specs.Rows.{AreNormal, SegmentsGive}
use Rattle.dn_interval.specs.Strands.{segs_give}
use Rattle.dn_place.proofs.Turned.{preimages_normal}
use Rattle.dn_place.proofs.preimages.preimages_of.Goals as goal

pub returns : goal.returns
returns g c =
    let net = c.args.system.on.net.now in
    let agent = c.args.agent in
    let unit = c.args.unit in
    preimages_normal net agent unit c.in_ok-stops.stops.items c.in_ok-back.back.items c.in_ok-rows.rows c.in_ok-stops.ensures
    (λ x z. c.in_ok-back.ensures x z ∙ ap (λ (l : List Seg). nat_eq agent z.node && segs_give l z.base (record { node = unit; base = x })) c.as_slice.ensures.value)
    (subst (λ (l : List Seg). AreNormal (SegmentsGive l) c.in_ok-rows.rows) c.as_slice-2.ensures.value c.in_ok-rows.ensures.normal)
