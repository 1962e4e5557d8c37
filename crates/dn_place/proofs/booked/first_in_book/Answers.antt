use Rattle.dn_place.proofs.booked.first_in_book.Goals as goal

pub returns : goal.returns
returns g c = record {
  first = rw c.in_ok-reach.ensures.at at c.first_in_book_from.ensures.first;
  none = rw c.in_ok-reach.ensures.at at c.first_in_book_from.ensures.none;
}
