use Rattle.dn_print.proofs.Closed.{entries_exist, over_exists}
use Rattle.dn_print.proofs.net.write_parts.Goals as goal

pub write_map-requires : goal.write_map-requires
write_map-requires c = entries_exist c.args.net.now c.args.node c.entries.result.now c.requires.closed c.entries.ensures

pub write_over-requires : goal.write_over-requires
write_over-requires c = over_exists c.args.net.now c.args.node c.over.result c.requires.closed c.over.ensures
