-- What is made, where there is no fault, has a property.
use Rattle.std.proofs.Common.{◌≡◌, subst, ℕ, Result, Ok, Err}
use Rattle.dn_scope.specs.Values.{Flaw, ◌>>=◌}
use Rattle.dn_scope.specs.Faults.{at_line}

abbrev YieldsBy : {A E : Type 0} → (A → Type 0) → Result A E → Type 0
YieldsBy P (Ok a) = P a
YieldsBy P (Err e) = Unit {0}

-- what is made has the property
pub record Yields {A E : Type 0} (P : A → Type 0) (r : Result A E) : Type 0 where
  pub it : YieldsBy P r

-- nothing is said of it
abbrev pub Any : {A : Type 0} → A → Type 0
Any a = Unit {0}

pub any : {A E : Type 0} (r : Result A E) → Yields Any r
any (Ok a) = record { it = tt }
any (Err e) = record { it = tt }

-- what follows, where there is no fault
pub bind : {A B E : Type 0} {P : A → Type 0} {Q : B → Type 0} (r : Result A E) (f : A → Result B E) → Yields P r → ((a : A) → P a → Yields Q (f a)) → Yields Q (r >>= f)
bind (Ok a) f h more = more a h.it
bind (Err e) f h more = record { it = tt }

pub given : {A E : Type 0} {P : A → Type 0} {a : A} → P a → Yields {E = E} P (Ok a)
given h = record { it = h }

-- a part of a statement, with the line of its statement
pub at_yields : {A : Type 0} (P : A → Type 0) (line : ℕ) (r : Result A Flaw) → Yields P r → Yields P (at_line line r)
at_yields P line (Ok a) h = record { it = h.it }
at_yields P line (Err f) h = record { it = tt }

-- what was made has it
pub yielded : {A E : Type 0} (P : A → Type 0) (r : Result A E) (a : A) → Yields P r → r ≡ Ok a → P a
yielded P r a h e = (subst (Yields P) e h).it
