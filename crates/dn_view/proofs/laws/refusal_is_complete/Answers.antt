use Rattle.dn_view.proofs.AddedLaw.{refusal_is_complete}
use Rattle.dn_view.proofs.laws.refusal_is_complete.Goals as goal

pub returns : goal.returns
returns c = refusal_is_complete
