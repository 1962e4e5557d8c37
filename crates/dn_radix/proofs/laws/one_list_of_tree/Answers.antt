use Rattle.dn_radix.proofs.Read.{one_list_of_tree}
use Rattle.dn_radix.proofs.laws.one_list_of_tree.Goals as goal

pub returns : goal.returns
returns c = one_list_of_tree
