-- What is added is what the layers of the node's stops give.
use Rattle.std.proofs.Common.{◌≡◌, ◌∙◌, ap, sym, slice_get}
use Rattle.dn_flat.specs.Levels.{FlatsView, levels_give, stops_in}
use Rattle.dn_flat.proofs.Going.{adds_same}
use Rattle.dn_flat.proofs.flats.Flats.push_stops.Goals as goal

pub returns : goal.returns
returns c =
    let flats : FlatsView = c.args.self.now in
    let layers = c.as_slice-layers.result.now in
    let all = stops_in (slice_get flats.nodes c.args.seg.node) in
    let same : layers ≡ all = c.as_slice-layers.ensures ∙ sym (ap stops_in c.of.ensures) in
    adds_same c.push_given.result c.args.segs.now.items c.push_given.new.segs.items c.args.seg (levels_give layers) (levels_give all)
    (λ b z. ap (λ ls. levels_give ls b z) same) c.push_given.ensures
