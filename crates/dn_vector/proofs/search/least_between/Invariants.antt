-- The vectors so far have no placement.
use Rattle.std.proofs.Common.{◌≡◌, ℕ, ◌<◌, ◌≤◌, false}
use Rattle.dn_vector.specs.Route.{HasNoPlace}
use Rattle.dn_vector.specs.Vectors.{is_taken_vector}
use Rattle.dn_vector.proofs.search.least_between.Given as goal

abbrev pub invariant-loop-vector : goal.invariant-loop-vector
invariant-loop-vector g l = (a : ℕ) → l.first ≤ a → a < l.vector → is_taken_vector l.asked.book.now.grants l.asked.node a ≡ false → HasNoPlace l.asked.system.on.net.now l.asked.book.now.grants l.asked.agent l.asked.line l.asked.node a
