use Rattle.dn_place.proofs.first.first.Goals as goal

pub returns : goal.returns
returns g c = record {
  first = rw c.in_ok-reach.ensures.at at c.first_from.ensures.first;
  none = rw c.in_ok-reach.ensures.at at c.first_from.ensures.none;
}
