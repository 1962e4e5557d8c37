use Rattle.dn_place.proofs.search.is_exact.Goals as goal

pub returns : goal.returns
returns g c = rw c.into_placement-placement.ensures at c.exact.ensures.exact
