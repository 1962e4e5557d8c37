use Rattle.std.proofs.Common.{◌≡◌, ◌-◌, ℕ, List, length, map}
use Rattle.dn_scope.specs.Words.{given_view, numbers_from}
use Rattle.dn_scope.proofs.words.after_number.Given as goal

abbrev pub invariant-loop-place : goal.invariant-loop-place
invariant-loop-place l = (words : List (List ℕ)) → numbers_from l.fn.from words (map given_view l.values) ≡ numbers_from l.place words (map given_view l.values)

abbrev pub decreases-loop-place : goal.decreases-loop-place
decreases-loop-place l = length l.values - l.place
