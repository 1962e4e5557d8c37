-- The words of the crate that clauses cite, from one place.
pub use Rattle.dn_book.specs.Book.{IsFaithful, has_id, is_full, owed_names, slots_of, without_id}
pub use Rattle.dn_book.specs.Between.{BetweenIsOneOrOther, IsCaught, IsOneOrOther, ResolvesAlike}
pub use Rattle.dn_book.specs.Changed.{IsChangedBook, MayChange}
pub use Rattle.dn_book.specs.Commands.{GrantLeadsOver, LeadsOver, RevokeLeadsOver}
pub use Rattle.dn_book.specs.Events.{AreWritten, after_event, after_events, held_at, with_word_in}
pub use Rattle.dn_book.specs.Faults.{is_revoke_fault}
pub use Rattle.dn_book.specs.Going.{AreGoing, Goes}
pub use Rattle.dn_book.specs.Kept.{BookIsProper, KeptSlotsAreTheBooks}
pub use Rattle.dn_book.specs.Laws.{EmptyBookIsFaithful, GrantKeepsBook, IsGrantFor, OwedNamesAreOwed, OwedNamesAreResolved, RevokeClearsSome, RevokeKeepsBook, TablesHoldRecords}
pub use Rattle.dn_book.specs.Placed.{without_place}
pub use Rattle.dn_book.specs.Puts.{MayPut, MayPutGrant, MayPutHop}
pub use Rattle.dn_book.specs.Sets.{AreChanged, AreCleared, AreFit, AreHopsChanged, AreOpen, ArePut, EachSlot, MayUse, TakesSlots, after_puts, hop_owner, is_used_by, one_use_less, one_use_more, put_at, put_log}
pub use Rattle.dn_book.specs.Tables.{IsKept, tables_of}
pub use Rattle.dn_book.specs.Writes.{AreAdded, Put, fence_events, grant_events, grant_slots, hop_slots, hop_slots_by, joined_slots, revoke_events}
