-- Laws of the order of numbers and of its tests. Those that the library has are handed on under its names.
use Rattle.std.proofs.Common.{◌≡◌, ℕ, true, false, nat_le, nat_lt}
use Rattle.std.proofs.lemmas.Bool.{le-leb, lt-leb, ltb-true, ltb-false}
pub use Rattle.std.proofs.lemmas.Bool.{cases_eq, cases_lt, cases_order, le-leb, lt-leb, lt-ltb, le-ltb, eq-eqb, ne_eqb, leb-true, leb-false, ltb-true, ltb-false, eqb-true, eqb-false}
pub use Rattle.std.proofs.Math.Nat.{le_antisymm}
pub use Rattle.std.proofs.Math.Numerals.{one-add}

-- a number that is below another does not have it at or below itself
pub lt-not_le : (a b : ℕ) → nat_lt a b ≡ true → nat_le b a ≡ false
lt-not_le a b e = lt-leb b a (ltb-true a b e)

-- a number that is not below another has it at or below itself
pub not_lt-le : (a b : ℕ) → nat_lt a b ≡ false → nat_le b a ≡ true
not_lt-le a b e = le-leb b a (ltb-false a b e)
