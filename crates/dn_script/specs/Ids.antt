-- The numbers of ids: they are numbered from 0 in the order in which they come first.
use Rattle.std.specs.Prelude.{ℕ, if◌then◌else◌, List, [], ◌∷◌, ◌++◌, length, position, Option, Some, None}
use Rattle.std.specs.List.{list_any}
use Rattle.std.specs.Str.{bytes_eq}

-- a place, or the number of places where there is none
abbrev pub place_or : Option ℕ → ℕ → ℕ
place_or (Some place) count = place
place_or None count = count

-- the number of an id beside those that came before
abbrev pub id_number : List (List ℕ) → List ℕ → ℕ
id_number ids id = place_or (position (bytes_eq id) ids) (length ids)

-- the ids that came, with this one
abbrev pub with_id : List (List ℕ) → List ℕ → List (List ℕ)
with_id ids id = if list_any (bytes_eq id) ids then ids else ids ++ id ∷ []
