-- What a change of a session leaves.
use Rattle.std.specs.Prelude.{◌≡◌, ◌⊎◌, ℕ, ◌≤◌, Bool, List, ◌++◌, length, take}
use Rattle.dn_base.specs.declared.device.TableEvent.{TableEvent}
use Rattle.dn_net.specs.declared.node.NodeDecl.{NodeDecl}
use Rattle.dn_kind.specs.Tables.{Extends, Held}
use Rattle.dn_book.specs.declared.grant.Grant.{Grant}
use Rattle.dn_book.specs.Between.{IsCaught}
use Rattle.dn_book.specs.Book.{records_of}
use Rattle.dn_book.specs.Events.{after_events, held_at}
use Rattle.dn_book.specs.Going.{AreGoing}
use Rattle.dn_book.specs.Tables.{tables_of}
use Rattle.dn_session.specs.Open.{SessionState}
use Rattle.dn_session.specs.Shipped.{shipped_kinds}

-- records lie between those of two books
abbrev pub LieBetween : List NodeDecl → Held → List Grant → List Grant → Type 0
LieBetween net h low high = Extends (records_of net low) h × Extends h (records_of net high)

-- Events lead from the tables of some grants to those of the next. The tables after any number of
-- them, counted from the front, hold records between those of the two; so under them each name
-- resolves for each access as under the grants before or as under those after. No record is added
-- after a clear without a fence between them, where the flags say whether a record was cleared
-- since the last fence, before the events and after them.
pub record EventsLeadTo (net : List NodeDecl) (before next : List Grant) (cleared last : Bool)
    (events : List TableEvent) : Type 0 where
  pub leaves : after_events events (tables_of net shipped_kinds before) ≡ tables_of net shipped_kinds next
  pub between : (count : ℕ) → count ≤ length events →
      LieBetween net (held_at net shipped_kinds (tables_of net shipped_kinds before) events count)
      before next
      ⊎ LieBetween net (held_at net shipped_kinds (tables_of net shipped_kinds before) events count)
      next before
  pub caught : (count : ℕ) → count ≤ length events →
      IsCaught net shipped_kinds (after_events (take count events) (tables_of net shipped_kinds before))
      before next
  pub going : AreGoing net shipped_kinds (tables_of net shipped_kinds before) cleared events last

-- A session has these grants now: its net is as it was, and the events that lead to them are
-- pending after those that were. The flag says whether a record was cleared since the last fence.
pub record IsSessionChanged (next : List Grant) (cleared : Bool) (events : List TableEvent) (s s' : SessionState)
    : Type 0 where
  pub net : s'.net ≡ s.net
  pub grants : s'.book.grants ≡ next
  pub fenced : s'.book.cleared ≡ cleared
  pub pending : s'.pending ≡ s.pending ++ events
  pub leads : EventsLeadTo s.net s.book.grants next s.book.cleared cleared events
