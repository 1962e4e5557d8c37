use Rattle.dn_print.proofs.Places.{all_true}
use Rattle.dn_print.proofs.parts.write_accept.Goals as goal

pub write_joined-requires : goal.write_joined-requires
write_joined-requires c = all_true c.args.blocks.now
