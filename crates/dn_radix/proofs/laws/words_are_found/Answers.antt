use Rattle.dn_radix.proofs.Reached.{words_are_found}
use Rattle.dn_radix.proofs.laws.words_are_found.Goals as goal

pub returns : goal.returns
returns c = words_are_found
