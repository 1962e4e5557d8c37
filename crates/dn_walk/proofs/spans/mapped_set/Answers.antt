-- They are the addresses of all map blocks.
use Rattle.std.proofs.Common.{◌∙◌, ap, sym, map}
use Rattle.std.specs.List.{list_any}
use Rattle.dn_base.proofs.Lists.{list_any-map, take_past}
use Rattle.dn_net.specs.declared.entries.Place.{Place}
use Rattle.dn_net.specs.Decode.{within}
use Rattle.dn_net.proofs.Stretch.{any_within}
use Rattle.dn_walk.proofs.spans.mapped_set.Goals as goal

pub returns : goal.returns
returns c = λ a.
    let maps = c.args.maps.now in
    c.loop-place.invariant a
    ∙ ap (list_any (λ (p : Place). within a p.block)) (take_past maps c.loop-place.place-index c.loop-place-test.false)
    ∙ sym (any_within a (map (λ (p : Place). p.block) maps) ∙ list_any-map (λ (p : Place). p.block) (within a) maps)
