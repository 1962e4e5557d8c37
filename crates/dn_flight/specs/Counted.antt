-- How many lookups are in flight, and a place before which none is.
use Rattle.std.specs.List.{list_all}
use Rattle.std.specs.Prelude.{◌≡◌, ℕ, suc, ◌≤◌, if◌then◌else◌, Bool, true, false, List, [], ◌∷◌, length, take, IsTrue}
use Rattle.dn_flight.specs.declared.lookup.Lookup.{Lookup}
use Rattle.dn_flight.specs.Lookups.{has_landed, is_flying, lookup_limit}

-- one where it is true, else none
abbrev pub one_if : Bool → ℕ
one_if true = 1
one_if false = 0

-- how many of the lookups are in flight
abbrev pub flying_count : List Lookup → ℕ
flying_count [] = 0
flying_count (l ∷ ls) = if is_flying l.state then suc (flying_count ls) else flying_count ls

-- there are no more lookups than may begin, so many of them are in flight, and each of those before a
-- place has ended
pub record AreCounted (lookups : List Lookup) (flying first : ℕ) : Type 0 where
  pub few : length lookups ≤ lookup_limit
  pub count : flying ≡ flying_count lookups
  pub within : first ≤ length lookups
  pub landed : IsTrue (list_all (λ l. has_landed l.state) (take first lookups))
