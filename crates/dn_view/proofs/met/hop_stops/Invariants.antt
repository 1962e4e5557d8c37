-- What was added, and what the hops that are still to come add.
use Rattle.std.proofs.Common.{◌≡◌, ℕ, ◌||◌, drop}
use Rattle.dn_interval.specs.declared.row.End.{End}
use Rattle.dn_interval.specs.Strands.{segs_give}
use Rattle.dn_view.specs.Near.{hops_near}
use Rattle.dn_view.proofs.met.hop_stops.Given as goal

abbrev pub invariant-loop-hop : goal.invariant-loop-hop
invariant-loop-hop g l =
    let net = l.trial.system.on.net.now in
    let size = l.trial.request.now.size in
    (a : ℕ) (z : End) → (segs_give l.segs.items a z || hops_near net size (drop l.hop-index l.hops) l.levels a z) ≡ hops_near net size l.hops l.levels a z
