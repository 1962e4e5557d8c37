-- The words of the crate that clauses cite, from one place.
pub use Rattle.dn_gather.specs.Commits.{AreCommitted}
pub use Rattle.dn_gather.specs.Firsts.{FirstHopsAreFirst, IsFirstHop, IsSuitedHop}
pub use Rattle.dn_gather.specs.Gather.{IsGatherLogged, IsGatherOutcome, grants_of}
pub use Rattle.dn_gather.specs.Grants.{AreGrantsFor, PiecesAreCaught, PiecesComeInTurn, PiecesKeepBook, piece_grant}
pub use Rattle.dn_gather.specs.Grounds.{AreExitsOfPieces, AreExitsOn, ArePieces, CanStandOn, FirstFor, IsFoundFirst, IsFoundFrom, IsGround, IsPart, IsSized, IsWanted, NoneFor, StandsOn, request_for, total, wanted_slots}
pub use Rattle.dn_gather.specs.Outputs.{AgreeFrom, AreRanked, NoneAgree, agrees_at, first_place, next_place}
pub use Rattle.dn_gather.specs.Parts.{EmptySlotGivesNothing, PiecesGiveTheirOwn}
pub use Rattle.dn_gather.specs.Refusal.{address_refusal, first_refused, gather_refusal, is_used, target_refusal, used_refusal}
pub use Rattle.dn_gather.specs.Scattered.{FirstScatterIsOne, IsFirstScatter, NoneScattered, WholeIsPieceByPiece, at_hop, piece_request}
pub use Rattle.dn_gather.specs.Stands.{AreAlone, AreAt, AreFew, AreFreeIn, AreUsed, AreWindows, Enters, IsPartedFrom, are_parted_at, inputs}
