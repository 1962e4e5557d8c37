use Rattle.std.proofs.Common.{arith}
use Rattle.dn_token.proofs.Classes.{class_at}
use Rattle.dn_token.proofs.class.class_of.Goals as goal

pub returns : goal.returns
returns c = class_at c.args.byte 0 (omega arith)
