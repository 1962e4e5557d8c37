-- What is appended, and what is left.
use Rattle.std.proofs.Common.{◌≡◌, ◌*◌, ◌++◌, replicate}
use Rattle.dn_image.proofs.write.push_zeros.Given as goal

abbrev pub invariant-parts : goal.invariant-parts
invariant-parts l = l.out.items ++ replicate (8 * l.left) 0 ≡ l.fn.out.items ++ replicate (8 * l.count) 0

abbrev pub decreases-parts : goal.decreases-parts
decreases-parts l = l.left
