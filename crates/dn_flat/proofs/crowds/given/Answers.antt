-- The names that the way gives.
use Rattle.std.proofs.Common.{◌≡◌, List, arith}
use Rattle.dn_base.proofs.Told.{if_some_then}
use Rattle.dn_net.specs.declared.node.NodeDecl.{NodeDecl}
use Rattle.dn_flat.specs.Crowds.{AreAgentStops, IsWay}
use Rattle.dn_flat.proofs.Crowded.{stops_given}
use Rattle.dn_flat.proofs.crowds.given.Goals as goal

pub returns : goal.returns
returns c =
    if_some_then c.new.result (λ s. (s.lo ≡ c.max-lo.result) × (s.hi ≡ c.last_out-hi.result)) (λ s. (net : List NodeDecl) → IsWay net c.args.way → AreAgentStops net c.args.way.seg.node s)
    (λ s is net v. stops_given net c.args.way s (omega (arith, is.0, c.max-lo.ensures)) (omega (arith, is.1, c.last_out-hi.ensures)) v)
    c.new.ensures.some
