use Rattle.std.proofs.Common.{◌≡◌, sym}
use Rattle.std.proofs.lemmas.Bool.{false≢true}
use Rattle.dn_view.proofs.kept.kept_stops.Goals as goal

pub loop-node-init : goal.loop-node-init
loop-node-init g c = rw c.new-stops.ensures.items (λ a z e. absurd (false≢true e))
