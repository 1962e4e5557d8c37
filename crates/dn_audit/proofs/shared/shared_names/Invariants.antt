-- The rows of the nodes so far, each of which is before the next.
use Rattle.dn_audit.specs.Claims.{claimed}
use Rattle.dn_audit.proofs.Joined.{AreJoined}
use Rattle.dn_audit.proofs.shared.shared_names.Given as goal

abbrev pub invariant-loop-node : goal.invariant-loop-node
invariant-loop-node l = AreJoined (claimed l.claims.items) l.node l.shared
