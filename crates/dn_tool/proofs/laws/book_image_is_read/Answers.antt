use Rattle.dn_script.proofs.Dumped.{book_image_is_read}
use Rattle.dn_tool.proofs.laws.book_image_is_read.Goals as goal

pub returns : goal.returns
returns c = book_image_is_read
