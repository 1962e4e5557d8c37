-- What is found is what the levels of the node show.
use Rattle.std.proofs.Common.{◌≡◌, ◌∙◌, ℕ, List, ap}
use Rattle.std.proofs.lemmas.Result.{IfOk-weaker}
use Rattle.dn_interval.specs.declared.row.End.{End}
use Rattle.dn_interval.specs.Strands.{segs_give}
use Rattle.dn_flat.specs.declared.reach.Reach.{Reach}
use Rattle.dn_flat.specs.Levels.{FlatsView, levels_show, shows}
use Rattle.dn_flat.proofs.Shown.{shows_by}
use Rattle.dn_flat.proofs.flats.Flats.accepted_segs.Goals as goal

pub returns : goal.returns
returns c =
    let flats : FlatsView = c.args.self.now in
    let node = c.args.node in
    let nodes : List Reach = c.reaches.result.now in
    let levels = c.as_slice-levels.result.now in
    let steps : nodes ≡ flats.stage.nodes = c.reaches.ensures ∙ ap (λ (v : FlatsView). v.stage.nodes) c.self.view_is in
    IfOk-weaker c.shown_segs.result (λ segs. (a : ℕ) (z : End) → segs_give segs.items a z ≡ levels_show nodes levels a z) (λ segs. (a : ℕ) (z : End) → segs_give segs.items a z ≡ shows flats node a z)
    (λ segs f a z. f a z ∙ shows_by flats node c.of.result.now nodes levels c.of.ensures steps c.as_slice-levels.ensures a z)
    c.shown_segs.ensures
