-- Outputs by the place of their addresses in a slot.
use Rattle.std.specs.Prelude.{◌≡◌, ℕ, ◌+◌, ◌%◌, ◌^◌, ◌<◌, ◌≤◌, Bool, false, nat_eq, List, [], ◌∷◌, length, Option, Some, None}
use Rattle.std.specs.List.{All, AllWithin}
use Rattle.std.specs.List.Sorted.{IsNonDecreasingBy}
use Rattle.dn_place.specs.Exits.{exit_rank}
use Rattle.dn_place.specs.declared.exits.Exit.{Exit}

-- the output has its rank, and its address and its port are within their bounds
pub record IsRanked (page : ℕ) (e : Exit) : Type 0 where
  pub rank : e.rank ≡ exit_rank page e.port e.y
  pub port : e.port < 8
  pub reached : e.y < 2 ^ 56

-- so is each output, and they ascend by their ranks
pub record AreRanked (page : ℕ) (exits : List Exit) : Type 0 where
  pub each : All (IsRanked page) exits
  pub order : IsNonDecreasingBy (λ (e : Exit). e.rank) exits

-- outputs before a place of the list have a lesser place in a slot, and those from it on have this one or a greater
pub record AgreeFrom (page place : ℕ) (exits : List Exit) (at : ℕ) : Type 0 where
  pub before : AllWithin (λ (e : Exit). e.y % 2 ^ page < place) exits 0 at
  pub after : AllWithin (λ (e : Exit). place ≤ e.y % 2 ^ page) exits at (length exits)

-- there is an output, and its address has this place in a slot
abbrev pub agrees_at : ℕ → ℕ → Option Exit → Bool
agrees_at page place None = false
agrees_at page place (Some e) = nat_eq (e.y % 2 ^ page) place

-- no output has an address with this place in a slot
abbrev pub NoneAgree : ℕ → ℕ → List Exit → Type 0
NoneAgree page place exits = All (λ (e : Exit). e.y % 2 ^ page ≡ place → ⊥) exits

-- the place of the first output in its slot, where slots have so many addresses
abbrev pub first_place : ℕ → List Exit → ℕ
first_place size [] = 0
first_place size (e ∷ exits) = e.y % size

-- the place of an output in its slot, or, where there is none, that of the first of the outputs in the next slot
abbrev pub next_place : ℕ → Option Exit → List Exit → ℕ
next_place size None exits = size + first_place size exits
next_place size (Some e) exits = e.y % size
