-- The hops that are chosen, as a list.
use Rattle.std.specs.Prelude.{List, [], ◌∷◌}
use Rattle.dn_tables.specs.declared.placement.Hop.{Hop}
use Rattle.dn_place.specs.declared.hops.Hops.{Hops}
use Rattle.dn_place.specs.declared.hops.Hops.TheVariants.{Zero, One, Two, Three}

-- the hops from the agent's end
abbrev pub hops_view : Hops → List Hop
hops_view Zero = []
hops_view (One a) = a ∷ []
hops_view (Two a b) = a ∷ b ∷ []
hops_view (Three a b c) = a ∷ b ∷ c ∷ []
