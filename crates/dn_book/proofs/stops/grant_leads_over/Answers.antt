use Rattle.dn_book.proofs.Commands.{grant_leads_over}
use Rattle.dn_book.proofs.stops.grant_leads_over.Goals as goal

pub returns : goal.returns
returns c = grant_leads_over
