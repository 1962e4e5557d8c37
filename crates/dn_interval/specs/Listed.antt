-- Normal rows as a list that is made address by address, from the last address to the first.
use Rattle.std.specs.Prelude.{◌≡◌, ℕ, zero, suc, ◌+◌, ◌-◌, ◌≤◌, ◌⊎◌, ◌↔◌, Bool, true, false, if◌then◌else◌, ◌&&◌, ◌==◌, List, [], ◌∷◌, map}
use Rattle.dn_interval.specs.declared.row.End.{End}
use Rattle.dn_interval.specs.declared.row.Row.{Row}
use Rattle.dn_interval.specs.declared.span.TheConstants.{TOP}
use Rattle.dn_interval.specs.Rows.{Member, further_end, Ascending, HasEnds, AreNormal}

-- a row as it is read: its first and its last address, and the names of the first
pub record Seen : Type 0 where
  pub lo : ℕ
  pub hi : ℕ
  pub ends : List End

-- a row of the code, as it is read
abbrev pub seen_view : Row → Seen
seen_view r = record { lo = r.span.lo; hi = r.span.hi; ends = r.ends }

-- two names are one
abbrev pub same_end : End → End → Bool
same_end x y = (x.node == y.node) && (x.base == y.base)

-- two lists of names are one
abbrev pub same_ends : List End → List End → Bool
same_ends [] [] = true
same_ends (x ∷ xs) (y ∷ ys) = if same_end x y then same_ends xs ys else false
same_ends _ _ = false

-- the names of an address in front of the rows above it: the next row is gone on with where it begins at the next address, with the names moved on by one
abbrev pub row_in_front : ℕ → List End → List Seen → List Seen
row_in_front a [] rows = rows
row_in_front a (e ∷ es) [] = record { lo = a; hi = a; ends = e ∷ es } ∷ []
row_in_front a (e ∷ es) (r ∷ rows) = if (r.lo == suc a) && same_ends r.ends (map (further_end 1) (e ∷ es)) then record { lo = a; hi = r.hi; ends = e ∷ es } ∷ rows else record { lo = a; hi = a; ends = e ∷ es } ∷ (r ∷ rows)

-- the rows of so many addresses from one on
unfoldable pub rows_from : (ℕ → List End) → ℕ → ℕ → List Seen
rows_from names zero a = []
rows_from names (suc k) a = row_in_front a (names a) (rows_from names k (suc a))

-- the normal rows of what is given to each address; no proof unfolds it
unfoldable pub listed_rows : (ℕ → List End) → List Seen
listed_rows names = rows_from names (TOP + 1) 0

-- Rows that are normal for a function are that list.
abbrev pub NormalRowsAreListed : Type 0
NormalRowsAreListed = (names : ℕ → List End) → ((a : ℕ) → Ascending (names a)) → (rows : List Row) → AreNormal (λ a y. Member y (names a)) rows → map seen_view rows ≡ listed_rows names

-- the next row, where it touches, does not go on with the names of this one
abbrev pub SeenParted : Seen → List Seen → Type 0
SeenParted r [] = Unit {0}
SeenParted r (s ∷ rest) = s.lo ≡ suc r.hi → s.ends ≡ map (further_end (suc r.hi - r.lo)) r.ends → ⊥

-- the rows stand at an address or above it, one above the other and none above the last address, each with names that ascend, and two that touch do not go on with one another
abbrev pub SeenApart : ℕ → List Seen → Type 0
SeenApart from [] = Unit {0}
SeenApart from (r ∷ rest) = (from ≤ r.lo) × (r.lo ≤ r.hi) × (r.hi ≤ TOP) × HasEnds r.ends × Ascending r.ends × SeenParted r rest × SeenApart (suc r.hi) rest

-- the rows give the name to the address
abbrev pub SeenGive : List Seen → ℕ → End → Type 0
SeenGive [] a y = ⊥
SeenGive (r ∷ rest) a y = ((r.lo ≤ a) × (a ≤ r.hi) × Member y (map (further_end (a - r.lo)) r.ends)) ⊎ SeenGive rest a y

-- The listed rows are normal: they stand apart, and give to every address exactly its names.
abbrev pub ListedRowsAreNormal : Type 0
ListedRowsAreNormal = (names : ℕ → List End) → ((a : ℕ) → Ascending (names a)) → SeenApart 0 (listed_rows names) × ((a : ℕ) (y : End) → a ≤ TOP → Member y (names a) ↔ SeenGive (listed_rows names) a y)
