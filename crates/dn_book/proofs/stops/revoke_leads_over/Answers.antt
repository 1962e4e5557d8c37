use Rattle.dn_book.proofs.Commands.{revoke_leads_over}
use Rattle.dn_book.proofs.stops.revoke_leads_over.Goals as goal

pub returns : goal.returns
returns c = revoke_leads_over
