use Rattle.std.proofs.Common.{◌%◌, ◌^◌, eq-eqb}
use Rattle.dn_place.proofs.BlockRows.{or_whole}
use Rattle.dn_place.proofs.blocks.end_bits.Goals as goal

pub returns : goal.returns
returns c = λ block e. let o = or_whole c.args.bits c.args.end.now.base block e in (o.0, eq-eqb (c.args.end.now.base % 2 ^ block) 0 o.1)
