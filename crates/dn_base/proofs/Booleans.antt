-- Laws of tests. Those that the library has are handed on under its names: what a true `&&` and a false `||` say
-- of their parts (`and_parts`, `or_parts`), what makes one true or false, and two tests that imply each other.
use Rattle.std.proofs.Common.{◌↔◌}
pub use Rattle.std.proofs.Math.Bool.{and-false, or-false, not-not}
pub use Rattle.std.proofs.lemmas.Bool.{cases_Bool, cond-true, cond-false, and_parts, and_from, and_cases, and_left, and_right, or_parts, or_from, or_cases, or_left, or_right, not-true, not-false, not_from_true, not_from_false, false_from_ne_true, true_from_ne_false, false≢true, true≢false}
pub use Rattle.std.specs.Cmp.{both_ways as same_tests}
pub use Rattle.std.proofs.lemmas.Bool.{both_ways as false_and_true}

-- what means the same as a fact that means the same as a third means the same as the third
pub means_then : {P Q R : Type 0} → P ↔ Q → Q ↔ R → P ↔ R
means_then f g = ((λ p. g.0 (f.0 p)), (λ r. f.1 (g.1 r)))
