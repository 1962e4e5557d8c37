-- What contracts see of a world.
use Rattle.std.specs.Prelude.{ℕ, List}
use Rattle.dn_flight.specs.declared.lookup.Lookup.{Lookup}

-- the words of each node, and the lookups that began so far, in order
pub record WorldState : Type 0 where
  pub words : List (List ℕ)
  pub lookups : List Lookup
