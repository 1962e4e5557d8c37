-- What stands for the words of parameters, by their places.
use Rattle.std.specs.Prelude.{ℕ, List, drop, Option, None, Some}
use Rattle.dn_scope.specs.declared.words.Given.{Given as CodeGiven}
use Rattle.dn_scope.specs.declared.words.Given.TheVariants.{Number, Named}
use Rattle.dn_scope.specs.Uses.{Given, number, named, numbers_of}

-- the value of an argument
abbrev pub given_view : CodeGiven → Given
given_view (Number n) = number n
given_view (Named text) = named text

-- the number of a value, where it is one
abbrev pub number_part : Given → Option ℕ
number_part (number n) = Some n
number_part (named text) = None

-- the full name of a value, where it is one
abbrev pub name_part : Given → Option (List ℕ)
name_part (number n) = None
name_part (named text) = Some text

-- a part of a value, where there is a value
abbrev pub part_in : {A : Type 0} → (Given → Option A) → Option Given → Option A
part_in part None = None
part_in part (Some g) = part g

-- the numbers that stand for the words of parameters, those before a place left out
abbrev pub numbers_from : ℕ → List (List ℕ) → List Given → List (List ℕ × ℕ)
numbers_from place words givens = numbers_of (drop place words) (drop place givens)
