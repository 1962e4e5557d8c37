-- A set of addresses has one list of maximal spans.
use Rattle.dn_interval.proofs.Standing.{one_list}
use Rattle.dn_interval.proofs.laws.one_list_of_spans.Goals as goal

pub returns : goal.returns
returns c = one_list
