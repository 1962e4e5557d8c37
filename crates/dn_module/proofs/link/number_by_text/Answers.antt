use Rattle.std.proofs.Common.{refl, sym}
use Rattle.dn_scope.proofs.Known.{is_known-Some, is_known-None}
use Rattle.dn_module.proofs.link.number_by_text.Goals as goal

pub returns-in-Some-clause-links : goal.returns-in-Some-clause-links
returns-in-Some-clause-links c = is_known-Some c.args.names.now c.args.text.now _ (sym c.in-Some.ensures)

pub returns-in-None-clause-links : goal.returns-in-None-clause-links
returns-in-None-clause-links c = (refl, is_known-None c.args.names.now c.args.text.now (sym c.in-None.ensures))
