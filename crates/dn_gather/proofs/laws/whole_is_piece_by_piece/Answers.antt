use Rattle.dn_gather.proofs.Scattering.{whole_is_piece_by_piece}
use Rattle.dn_gather.proofs.laws.whole_is_piece_by_piece.Goals as goal

pub returns : goal.returns
returns c = whole_is_piece_by_piece
