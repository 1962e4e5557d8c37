use Rattle.dn_place.proofs.slots.is_hop_free.Goals as goal

pub returns : goal.returns
returns g c = rw (c.slots_of_hop-slots.ensures.first, c.slots_of_hop-slots.ensures.last) at c.are_free.ensures
