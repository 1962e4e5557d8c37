use Rattle.dn_session.proofs.History.{session_lookups_are_given}
use Rattle.dn_session.proofs.laws.session_lookups_are_given.Goals as goal

pub returns : goal.returns
returns c = session_lookups_are_given
