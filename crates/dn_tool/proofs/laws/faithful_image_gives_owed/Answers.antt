use Rattle.dn_script.proofs.Lookups.{faithful_image_gives_owed}
use Rattle.dn_tool.proofs.laws.faithful_image_gives_owed.Goals as goal

pub returns : goal.returns
returns c = faithful_image_gives_owed
