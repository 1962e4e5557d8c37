-- The names that both ways give.
use Rattle.std.proofs.Common.{◌≡◌, ◌∙◌, List, sym, arith}
use Rattle.dn_base.proofs.Told.{if_some_then}
use Rattle.dn_net.specs.declared.node.NodeDecl.{NodeDecl}
use Rattle.dn_flat.specs.Crowds.{AreCrowded, IsWay}
use Rattle.dn_flat.proofs.Crowded.{crowd_met}
use Rattle.dn_flat.proofs.crowds.met.Goals as goal

pub returns : goal.returns
returns c =
    if_some_then c.new.result (λ s. (s.lo ≡ c.max-lo.result) × (s.hi ≡ c.min-hi.result)) (λ s. (net : List NodeDecl) → IsWay net c.args.one → IsWay net c.args.other → AreCrowded net c.args.other.seg.node s)
    (λ s is net v w. crowd_met net c.args.one c.args.other s (omega (arith, c.if-one-other.false)) (sym c.is_one_way.ensures ∙ c.if-is_one_way.false)
    (omega (arith, is.0, c.max.ensures, c.max-lo.ensures)) (omega (arith, is.0, c.max.ensures, c.max-lo.ensures))
    (omega (arith, is.1, c.min-hi.ensures, c.last_out.ensures, c.last_out-2.ensures)) (omega (arith, is.1, c.min-hi.ensures, c.last_out.ensures, c.last_out-2.ensures)) v w)
    c.new.ensures.some
