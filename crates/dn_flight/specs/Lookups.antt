-- Lists of lookups: which are in flight, and where one comes to next.
use Rattle.std.specs.Prelude.{◌≡◌, ℕ, zero, suc, Bool, true, false, List, [], ◌∷◌, Option, Some, None}
use Rattle.dn_flight.specs.declared.flights.Flight.{Flight}
use Rattle.dn_flight.specs.declared.lookup.LookState.{LookState}
use Rattle.dn_flight.specs.declared.lookup.LookState.TheVariants.{At, Ended}
use Rattle.dn_flight.specs.declared.lookup.Lookup.{Lookup}

-- the most lookups that may begin in a world that is played
abbrev pub lookup_limit : ℕ
lookup_limit = 65536

-- a lookup is in flight
abbrev pub is_flying : LookState → Bool
is_flying (At s) = true
is_flying (Ended names) = false

-- a lookup has ended
abbrev pub has_landed : LookState → Bool
has_landed (At s) = false
has_landed (Ended names) = true

-- there is a lookup, and it is in flight
abbrev pub is_in_flight : Option Lookup → Bool
is_in_flight None = false
is_in_flight (Some l) = is_flying l.state

-- there is a lookup that stands at the name of a flight, for the access of the flight
pub record IsFlightAt (o : Option Lookup) (f : Flight) : Type 0 where
  pub lookup : Lookup
  pub there : o ≡ Some lookup
  pub state : lookup.state ≡ At f.name
  pub access : lookup.access ≡ f.access

-- the lookup, where it is next
abbrev pub moved : Lookup → LookState → Lookup
moved l state = record { agent = l.agent; start = l.start; access = l.access; state = state }

-- lookups of which the one of a number is elsewhere next
abbrev pub with_state : List Lookup → ℕ → LookState → List Lookup
with_state [] n state = []
with_state (l ∷ ls) zero state = moved l state ∷ ls
with_state (l ∷ ls) (suc n) state = l ∷ with_state ls n state
