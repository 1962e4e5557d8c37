-- The run becomes a layer.
use Rattle.std.proofs.Common.{◌∙◌, ◌||◌, ap}
use Rattle.dn_interval.specs.Strands.{segs_give}
use Rattle.dn_flat.specs.Levels.{levels_give}
use Rattle.dn_flat.proofs.Layered.{run_ended}
use Rattle.dn_flat.proofs.layers.end_run.Goals as goal

pub returns-in_ok-push_layer : goal.returns-in_ok-push_layer
returns-in_ok-push_layer c = λ a z low.
    let old = c.args.layers.now in
    let run = c.args.run.now.items in
    run_ended old c.push_layer.new.layers run c.clear.new.self.items a z
    (c.in_ok-push_layer.ensures a z low ∙ ap (λ s. levels_give old a z || segs_give s a z) c.as_slice.ensures.value) c.clear.ensures.items
