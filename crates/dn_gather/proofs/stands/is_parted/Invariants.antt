use Rattle.dn_gather.proofs.Standing.{Parting}
use Rattle.dn_gather.proofs.stands.is_parted.Given as goal

abbrev pub invariant-loop-k : goal.invariant-loop-k
invariant-loop-k l = Parting l.page l.x l.size l.k l.others l.inputs
