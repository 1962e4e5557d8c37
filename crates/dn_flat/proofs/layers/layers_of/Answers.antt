-- The layers of the joined segments.
use Rattle.std.proofs.Common.{◌∙◌, ◌||◌, ap}
use Rattle.dn_interval.specs.Strands.{segs_give}
use Rattle.dn_flat.specs.Levels.{levels_give}
use Rattle.dn_flat.proofs.layers.layers_of.Goals as goal

pub returns : goal.returns
returns c = λ a z low.
    let out = c.as_slice.result.now in
    c.in_ok-push_layers.ensures a z low
    ∙ ap (λ ls. levels_give ls a z || segs_give out a z) c.new-layers.ensures
    ∙ ap (λ s. segs_give s a z) c.as_slice.ensures.value
    ∙ c.in_ok-out.ensures a z low
