-- The pieces so far have their numbers, and those that are left get theirs.
use Rattle.std.proofs.Common.{◌≡◌, ◌++◌, drop}
use Rattle.dn_script.specs.Asked.{numbered, with_ids}
use Rattle.dn_script.proofs.pieces.number_pieces.Given as goal

abbrev pub invariant-loop-piece : goal.invariant-loop-piece
invariant-loop-piece l = record {
  so_far : l.asked.items ++ numbered l.ids (drop l.piece-index l.pieces) ≡ numbered l.fn.ids l.pieces;
  named : with_ids l.ids (drop l.piece-index l.pieces) ≡ with_ids l.fn.ids l.pieces;
}
