-- The names that segments give, and normal rows of a function from addresses to sets of names.
use Rattle.std.specs.Prelude.{◌≡◌, ℕ, suc, ◌+◌, ◌-◌, ◌≤◌, ◌⊎◌, ◌↔◌, Bool, cond, ◌&&◌, ◌||◌, nat_lt, nat_eq, List, [], ◌∷◌, map, IsTrue}
pub use Rattle.dn_base.specs.Members.{Member}
use Rattle.std.specs.List.{All, list_all}
use Rattle.dn_interval.specs.declared.row.Seg.{Seg}
use Rattle.dn_interval.specs.declared.row.End.{End}
use Rattle.dn_interval.specs.declared.row.Row.{Row}
use Rattle.dn_interval.specs.declared.span.TheConstants.{TOP}
use Rattle.dn_interval.specs.Spans.{in_span}

-- the name that a segment gives to an address of its span
abbrev pub seg_name_at : Seg → ℕ → End
seg_name_at s a = record { node = s.node; base = s.base + (a - s.span.lo) }

-- the names that segments give to an address
abbrev pub names_at : List Seg → ℕ → List End
names_at [] a = []
names_at (s ∷ rest) a = cond (in_span s.span a) (seg_name_at s a ∷ names_at rest a) (names_at rest a)

-- the segments give the name to the address
abbrev pub SegmentsGive : List Seg → ℕ → End → Type 0
SegmentsGive segs a y = Member y (names_at segs a)

-- the name so many addresses further
abbrev pub further_end : ℕ → End → End
further_end d e = record { node = e.node; base = e.base + d }

-- the order of names: by node, and then by address
abbrev pub end_lt : End → End → Bool
end_lt x y = nat_lt x.node y.node || (nat_eq x.node y.node && nat_lt x.base y.base)

-- each name of the list comes after this one
abbrev pub AllAbove : End → List End → Type 0
AllAbove x [] = Unit {0}
AllAbove x (y ∷ ys) = IsTrue (end_lt x y) × AllAbove x ys

-- each name of the list comes before those behind it
abbrev pub Ascending : List End → Type 0
Ascending [] = Unit {0}
Ascending (x ∷ xs) = AllAbove x xs × Ascending xs

-- there is a name
abbrev pub HasEnds : List End → Type 0
HasEnds [] = ⊥
HasEnds (x ∷ xs) = Unit {0}

-- the next row, where it touches, does not go on with the names of this one
abbrev pub Parted : Row → List Row → Type 0
Parted r [] = Unit {0}
Parted r (s ∷ rest) = s.span.lo ≡ suc r.span.hi → s.ends ≡ map (further_end (suc r.span.hi - r.span.lo)) r.ends → ⊥

-- the rows stand at an address or above it, one above the other, each with names that ascend, and two
-- that touch do not go on with one another
abbrev pub Apart : ℕ → List Row → Type 0
Apart from [] = Unit {0}
Apart from (r ∷ rest) = (from ≤ r.span.lo) × HasEnds r.ends × Ascending r.ends × Parted r rest × Apart (suc r.span.hi) rest

-- each name of the row, moved on to the row's last address, is at or below the last address of all
abbrev pub EndsFit : Row → Type 0
EndsFit r = All (λ (e : End). e.base + (r.span.hi - r.span.lo) ≤ TOP) r.ends

-- the rows give the name to the address
abbrev pub GivenBy : List Row → ℕ → End → Type 0
GivenBy [] a y = ⊥
GivenBy (r ∷ rest) a y = (IsTrue (in_span r.span a) × Member y (map (further_end (a - r.span.lo)) r.ends)) ⊎ GivenBy rest a y

-- the rows give to every address the names that a function gives, and are the fewest that do
pub record AreNormal (f : ℕ → End → Type 0) (rows : List Row) : Type 0 where
  pub apart : Apart 0 rows
  pub exact : (a : ℕ) (y : End) → a ≤ TOP → f a y ↔ GivenBy rows a y

-- two lists of rows that are normal for one function are one list
abbrev pub OneListOfRows : Type 0
OneListOfRows = (rows others : List Row) → Apart 0 rows → Apart 0 others → ((a : ℕ) (y : End) → a ≤ TOP → GivenBy rows a y ↔ GivenBy others a y) → rows ≡ others

-- each name of the rows is in one of so many nodes
abbrev pub ends_within : ℕ → List Row → Bool
ends_within count rows = list_all (λ r. list_all (λ e. nat_lt e.node count) r.ends) rows
