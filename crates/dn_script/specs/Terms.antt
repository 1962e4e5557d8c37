-- The words of the crate that clauses cite, from one place.
pub use Rattle.dn_script.specs.Asked.{number_or_none, numbered, piece_of, request_of, rights_of, with_ids}
pub use Rattle.dn_script.specs.Books.{BookImageIsRead, BooksStayFaithful, DumpTellsTables, FaithfulImageGivesOwed}
pub use Rattle.dn_script.specs.Changed.{gather_refused_text, gathered_text, grant_refused_text, granted_text, refused_piece_text, refused_text, revoked_text, route_refused_text, routed_text}
pub use Rattle.dn_script.specs.Flown.{LookupsAreGiven}
pub use Rattle.dn_script.specs.Found.{access_of, access_text, agent_of, asked_text, found_text, names_under, node_refused_text}
pub use Rattle.dn_script.specs.Halt.{HaltsByDevice, HaltsByEither, HaltsBySink, Writes, ending_status, is_free_status, make_halt, refusal_or_halt, reply_or_halt}
pub use Rattle.dn_script.specs.Ids.{id_number, with_id}
pub use Rattle.dn_script.specs.Machine.{IsMachine, MayRun}
pub use Rattle.dn_script.specs.Played.{IsPlayed, IsPlayedOn}
pub use Rattle.dn_script.specs.Radix.{book_words, pages_heading, pool_text, tree_text, named_unit}
pub use Rattle.dn_script.specs.Reshape.{absorb_text, absorbed_text, limit_text, made_text, no_node_text, reason_text, refusal_text, split_text, unfit_text}
pub use Rattle.dn_script.specs.State.{CameThrough, IsChangeDone, IsFirstView, IsReady, IsReadyOn, IsStill, MayBegin, state_view}
pub use Rattle.dn_script.specs.Turn.{CommandHasTurn, FirstTurnsAreFirst, IsGatherTurn, IsGrantTurn, IsRevokeTurn, IsRouteTurn, IsTurn, ScriptHasTurns, TurnIsOne, TurnsAreOne, is_change, is_pieced, reply, start}
pub use Rattle.dn_script.specs.Unmade.{AreUnmade, IsPassed, IsUnfit, IsUnfitFor}
pub use Rattle.dn_script.specs.Viewed.{OwedRowsAreNormal, owed_rows, view_heading, viewed_text}
