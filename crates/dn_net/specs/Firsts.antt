-- The first number and the least name that pass a test.
use Rattle.std.specs.Prelude.{ℕ, zero, suc, ◌+◌, Bool, if◌then◌else◌, List, [], ◌∷◌, length, Option, Some, None, option_map}
use Rattle.dn_net.specs.declared.node.Name.{Name}
use Rattle.dn_net.specs.declared.node.NodeDecl.{NodeDecl}
use Rattle.dn_net.specs.Decode.{top}

-- one value, or another where there is none
abbrev pub or_else : {A : Type 0} → Option A → Option A → Option A
or_else (Some a) other = Some a
or_else None other = other

-- the first of the numbers below a bound that passes a test; no proof unfolds it at a numeral
unfoldable pub first_below : (ℕ → Bool) → ℕ → Option ℕ
first_below p zero = None
first_below p (suc n) = or_else (first_below p n) (if p n then Some n else None)

-- the least name of one node that passes a test, by its addresses
abbrev pub least_in : (Name → Bool) → ℕ → Option Name
least_in p n = option_map (λ a. record { node = n; addr = a }) (first_below (λ a. p (record { node = n; addr = a })) (top + 1))

-- the least name that passes a test, in the first so many nodes
abbrev pub least_below : (Name → Bool) → ℕ → Option Name
least_below p zero = None
least_below p (suc n) = or_else (least_below p n) (least_in p n)

-- the least name of a net that passes a test: its nodes in order, and of each its addresses
abbrev pub least_name : List NodeDecl → (Name → Bool) → Option Name
least_name net p = least_below p (length net)

-- the first of a list
abbrev pub first_of : List Name → Option Name
first_of [] = None
first_of (x ∷ xs) = Some x
