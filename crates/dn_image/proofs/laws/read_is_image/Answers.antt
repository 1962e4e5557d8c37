use Rattle.dn_image.proofs.Told.{read_is_image}
use Rattle.dn_image.proofs.laws.read_is_image.Goals as goal

pub returns : goal.returns
returns c = read_is_image
