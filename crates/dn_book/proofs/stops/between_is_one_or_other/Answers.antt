use Rattle.dn_book.proofs.Between.{between_is_one_or_other}
use Rattle.dn_book.proofs.stops.between_is_one_or_other.Goals as goal

pub returns : goal.returns
returns c = between_is_one_or_other
