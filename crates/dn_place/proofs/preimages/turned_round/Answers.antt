use Rattle.std.proofs.Common.{refl}
use Rattle.dn_place.proofs.Turned.{turned_gives}
use Rattle.dn_place.proofs.preimages.turned_round.Goals as goal

pub returns : goal.returns
returns c = λ x z. turned_gives c.args.seg c.args.node c.args.seg.base c.last_out.result c.args.seg.span.lo x z refl c.last_out.ensures refl
