use Rattle.std.proofs.Common.{rules}
use Rattle.dn_print.proofs.Statements.{statements_more}
use Rattle.dn_print.proofs.net.net_text.Goals as goal

pub loop-node-preserved : goal.loop-node-preserved
loop-node-preserved g c = search (rules, statements_more)
