use Rattle.std.proofs.Common.{◌≡◌, map, drop}
use Rattle.std.specs.List.{list_all}
use Rattle.dn_parse.specs.Views.{piece_view}
use Rattle.dn_parse.specs.Plain.{is_plain_piece}
use Rattle.dn_parse.proofs.plain.are_plain_pieces.Given as goal

abbrev pub invariant-loop-piece : goal.invariant-loop-piece
invariant-loop-piece l = list_all is_plain_piece (map piece_view l.pieces) ≡ list_all is_plain_piece (map piece_view (drop l.piece-index l.pieces))
