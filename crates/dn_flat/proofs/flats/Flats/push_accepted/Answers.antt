-- What is added is what the levels of the node show.
use Rattle.std.proofs.Common.{◌≡◌, ◌∙◌, List, ap}
use Rattle.dn_flat.specs.declared.reach.Reach.{Reach}
use Rattle.dn_flat.specs.Levels.{FlatsView, levels_show, shows}
use Rattle.dn_flat.proofs.Going.{adds_same}
use Rattle.dn_flat.proofs.Shown.{shows_by}
use Rattle.dn_flat.proofs.flats.Flats.push_accepted.Goals as goal

pub returns : goal.returns
returns c =
    let flats : FlatsView = c.args.self.now in
    let node = c.args.seg.node in
    let nodes : List Reach = c.reaches.result.now in
    let levels = c.as_slice-levels.result.now in
    let steps : nodes ≡ flats.stage.nodes = c.reaches.ensures ∙ ap (λ (v : FlatsView). v.stage.nodes) c.self.view_is in
    adds_same c.push_shown.result c.args.segs.now.items c.push_shown.new.segs.items c.args.seg (levels_show nodes levels) (shows flats node)
    (shows_by flats node c.of.result.now nodes levels c.of.ensures steps c.as_slice-levels.ensures) c.push_shown.ensures
