use Rattle.dn_image.proofs.Told.{image_is_read}
use Rattle.dn_image.proofs.laws.image_is_read.Goals as goal

pub returns : goal.returns
returns c = image_is_read
