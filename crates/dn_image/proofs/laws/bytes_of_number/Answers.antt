use Rattle.dn_image.proofs.Numbers.{bytes_of_number}
use Rattle.dn_image.proofs.laws.bytes_of_number.Goals as goal

pub returns : goal.returns
returns c = bytes_of_number
