use Rattle.std.proofs.Common.{length}
use Rattle.dn_parse.specs.Views.{order_view}
use Rattle.dn_module.specs.Commands.{command_of}
use Rattle.dn_module.proofs.orders.check_command.Goals as goal

pub returns-clause-made : goal.returns-clause-made
returns-clause-made c = c.told.ensures.made (length c.args.names.now) (command_of c.args.names.now (order_view c.args.asked.order)) c.command-made.ensures.made c.command-made.ensures.known

pub returns-clause-fault : goal.returns-clause-fault
returns-clause-fault c = c.told.ensures.fault (command_of c.args.names.now (order_view c.args.asked.order)) c.command-made.ensures.made
