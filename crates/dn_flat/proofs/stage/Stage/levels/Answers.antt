-- The layers of the stops give what was found.
use Rattle.std.proofs.Common.{◌∙◌, ap, sym}
use Rattle.dn_interval.specs.Strands.{segs_give}
use Rattle.dn_flat.specs.Levels.{levels_give}
use Rattle.dn_flat.proofs.Lists.{means_along}
use Rattle.dn_flat.proofs.Reached.{levels_are}
use Rattle.dn_flat.proofs.stage.Stage.levels.Goals as goal

pub returns : goal.returns
returns c =
    let net = c.args.net.now in
    let node = c.args.node in
    let stops = c.in_ok-stops.stops in
    let found = c.in_ok-levels.field-0.stops.items in
    let units = c.in_ok-units.units in
    levels_are net node (record { reached = c.in_ok-levels.field-0.levels; stops = stops; units = units }) c.in_ok-levels.ensures.levels
    (λ a y low. means_along (levels_give stops a y) (segs_give found a y) (c.in_ok-stops.ensures a y low ∙ ap (λ s. segs_give s a y) c.deref-2.ensures.value) (c.in_ok-levels.ensures.stops a y low))
    (λ a y low e. c.in_ok-units.ensures a y (ap (λ s. segs_give s a y) c.deref.ensures.value ∙ sym (c.in_ok-stops.ensures a y low ∙ ap (λ s. segs_give s a y) c.deref-2.ensures.value) ∙ e))
