-- What is kept so far, and the segments that are left.
use Rattle.std.proofs.Common.{drop}
use Rattle.dn_net.specs.Decode.{unit_at}
use Rattle.dn_view.specs.Untouched.{comes_on}
use Rattle.dn_view.proofs.Onwards.{AreKept}
use Rattle.dn_view.proofs.onward.onward_segs.Given as goal

abbrev pub invariant-loop-seg : goal.invariant-loop-seg
invariant-loop-seg g l =
    AreKept (λ n. comes_on l.trial.system.on.net.now l.trial.system.flats.now l.trial.placement.now.hops (unit_at l.trial.system.on.net.now n)) l.segs l.rest.items (drop l.seg-index l.segs)
