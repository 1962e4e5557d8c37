-- Nodes that reach the same see the same.
use Rattle.std.proofs.Common.{◌≡◌, ◌<◌, subst, slice_get}
use Rattle.dn_flat.specs.Levels.{FlatsView}
use Rattle.dn_flat.proofs.Shown.{same_seen}
use Rattle.dn_flat.proofs.flats.Flats.is_shared.Goals as goal

pub returns : goal.returns
returns c = λ shared net flat are is.
    let flats : FlatsView = c.args.self.now in
    same_seen net flats are c.args.node c.args.other (subst (λ n. c.args.node < n) are.every c.requires.node) (subst (λ n. c.args.other < n) are.every c.requires.other)
    (subst (λ (v : FlatsView). slice_get v.nodes c.args.node ≡ slice_get v.nodes c.args.other) c.self.view_is (c.is_shared.ensures shared)) flat is
