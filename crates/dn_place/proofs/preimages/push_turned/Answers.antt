use Rattle.std.proofs.Common.{◌∙◌, List, ap}
use Rattle.dn_interval.specs.declared.row.Seg.{Seg}
use Rattle.dn_interval.specs.Strands.{segs_give}
use Rattle.dn_place.proofs.Turned.{none_turned, one_turned}
use Rattle.dn_place.proofs.preimages.push_turned.Goals as goal

pub returns-then-seg-unit : goal.returns-then-seg-unit
returns-then-seg-unit c = λ x z. none_turned c.args.back.now.items c.args.seg c.args.node c.args.unit x z c.if-seg-unit.true

pub returns : goal.returns
returns c = λ x z. ap (λ (l : List Seg). segs_give l x z) c.in_ok-push.ensures.items ∙ one_turned c.args.back.now.items c.args.seg c.turned_round.result c.args.node c.args.unit x z c.if-seg-unit.false (c.turned_round.ensures x z)
