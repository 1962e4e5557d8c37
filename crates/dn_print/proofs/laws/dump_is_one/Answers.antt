-- A printed image is the text of one image alone.
use Rattle.dn_print.proofs.OneDump.{dump_is_one}
use Rattle.dn_print.proofs.laws.dump_is_one.Goals as goal

pub returns : goal.returns
returns c = dump_is_one
