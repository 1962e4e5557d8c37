use Rattle.dn_radix.proofs.Walks.{tree_is_walked}
use Rattle.dn_radix.proofs.laws.tree_is_walked.Goals as goal

pub returns : goal.returns
returns c = tree_is_walked
