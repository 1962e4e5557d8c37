-- The values of expressions in whole numbers, and the texts of names. No variable has a value: those that have one were replaced.
use Rattle.std.specs.Prelude.{ℕ, ◌+◌, ◌-◌, ◌*◌, ◌^◌, if◌then◌else◌, nat_le, nat_lt, List, [], ◌∷◌, ◌++◌, codes, Option, Some, None, Result, Ok, Err}
use Rattle.std.specs.Fmt.{decimal}
use Rattle.dn_parse.specs.Tree.{Expression, constant, variable, sum, product, minus, Expressions, no_expressions, and_expression, Part}

-- why a part of a statement is not made: a word stands for nothing, as a variable or a kind that
-- does not exist, or a number is not within its range
pub data Flaw : Type 0 where
  unknown_word : Flaw
  out_of_range : Flaw

-- what follows, where there is no fault
infixl 10 ◌>>=◌
-- what follows, where there is no fault
abbrev pub ◌>>=◌ : {A B E : Type 0} → Result A E → (A → Result B E) → Result B E
Err e >>= f = Err e
Ok a >>= f = f a

-- what each item gives, or the first fault
abbrev pub each : {A B E : Type 0} → (A → Result B E) → List A → Result (List B) E
each f [] = Ok []
each f (x ∷ xs) = do
  y ← f x
  ys ← each f xs
  Ok (y ∷ ys)

-- a number that is at most 2^64 - 1
abbrev pub number_or_flaw : ℕ → Result ℕ Flaw
number_or_flaw n = if nat_lt n (2 ^ 64) then Ok n else Err out_of_range

-- a number less another, where it is not below 0
abbrev pub difference : ℕ → ℕ → Result ℕ Flaw
difference a b = if nat_le b a then Ok (a - b) else Err out_of_range

-- the sum of these
abbrev pub sum_of : List ℕ → ℕ
sum_of [] = 0
sum_of (n ∷ ns) = n + sum_of ns

-- the product of these
abbrev pub product_of : List ℕ → ℕ
product_of [] = 1
product_of (n ∷ ns) = n * product_of ns

-- The value of an expression. The members of a sum or a product are evaluated from left to right, and then it is judged whole.
abbrev mutual
  pub value : Expression → Result ℕ Flaw
  value (constant n) = Ok n
  value (variable w) = Err unknown_word
  value (sum es) = do
    ns ← values es
    number_or_flaw (sum_of ns)
  value (product es) = do
    ns ← values es
    number_or_flaw (product_of ns)
  value (minus e f) = do
    a ← value e
    b ← value f
    difference a b

  pub values : Expressions → Result (List ℕ) Flaw
  values no_expressions = Ok []
  values (and_expression e es) = do
    n ← value e
    ns ← values es
    Ok (n ∷ ns)

-- the value of an expression that may be left out, for which this value stands then
abbrev pub value_or_default : ℕ → Option Expression → Result ℕ Flaw
value_or_default n None = Ok n
value_or_default n (Some e) = value e

-- the value of an expression, where it is no more than a limit
abbrev pub value_within : ℕ → Expression → Result ℕ Flaw
value_within limit e = do
  n ← value e
  if nat_le n limit then Ok n else Err out_of_range

-- a part of a full name: an index becomes its decimal value in brackets
abbrev pub part_by : List ℕ → Option Expression → Result (List ℕ) Flaw
part_by title None = Ok title
part_by title (Some e) = do
  n ← value e
  Ok (title ++ (codes "[" ++ (decimal n ++ codes "]")))

-- the text of a part of a name
abbrev pub part_text : Part → Result (List ℕ) Flaw
part_text p = part_by p.title p.index

-- parts joined by `.`
abbrev pub after_dots : List (List ℕ) → List ℕ
after_dots [] = []
after_dots (t ∷ ts) = codes "." ++ (t ++ after_dots ts)

-- texts with a `.` between each two
abbrev pub dotted_text : List (List ℕ) → List ℕ
dotted_text [] = []
dotted_text (t ∷ ts) = t ++ after_dots ts

-- the full name that a name spells
abbrev pub full_name : List Part → Result (List ℕ) Flaw
full_name ps = do
  ts ← each part_text ps
  Ok (dotted_text ts)

-- the full name that a name spells, where there is one
abbrev pub full_name_or_none : Option (List Part) → Result (Option (List ℕ)) Flaw
full_name_or_none None = Ok None
full_name_or_none (Some ps) = do
  text ← full_name ps
  Ok (Some text)
