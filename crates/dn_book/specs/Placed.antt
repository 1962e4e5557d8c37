-- How the live grants are kept: each at a place of its own, and the ids with their places in the order
-- of granting.
use Rattle.std.specs.Prelude.{◌≡◌, ℕ, ◌==◌, not, nat_eq, List, Option, Some, None, filter, filter_map}
use Rattle.std.specs.List.{AllByRecursion, IsDistinct}
use Rattle.std.specs.Map.{keys_of, lookup}
use Rattle.slab.specs.Slab.{Slab, get}
use Rattle.dn_book.specs.declared.grant.Grant.{Grant}

-- the grants that are kept at the places, in their order
abbrev pub kept_grants : Slab Grant → List (ℕ × ℕ) → List Grant
kept_grants kept order = filter_map (λ e. get kept e.1) order

-- what is kept at a place is a grant of the id
abbrev pub IsOfId : ℕ → Option Grant → Type 0
IsOfId id None = ⊥
IsOfId id (Some g) = g.id ≡ id

-- at the place of each id a grant of it is kept
abbrev pub AreIdsHeld : Slab Grant → List (ℕ × ℕ) → Type 0
AreIdsHeld kept order = AllByRecursion (λ e. IsOfId e.0 (get kept e.1)) order

-- the entries without that of an id
abbrev pub without_place : ℕ → List (ℕ × ℕ) → List (ℕ × ℕ)
without_place id order = filter (λ e. not (e.0 == id)) order

-- At the place of each id a grant of it is kept, each id is there once, and the map leads from the id to that place.
pub record AreFoundById (kept : Slab Grant) (order places : List (ℕ × ℕ)) : Type 0 where
  pub held : AreIdsHeld kept order
  pub apart : IsDistinct nat_eq (keys_of order)
  pub found : (id : ℕ) → lookup (nat_eq id) places ≡ lookup (nat_eq id) order
