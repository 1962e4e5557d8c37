-- The changes of a session, one after another, and lookups in flight while their events are
-- performed.
use Rattle.std.specs.Prelude.{ℕ, Bool, false, List, [], ◌∷◌, map, take}
use Rattle.dn_base.specs.declared.device.TableEvent.{TableEvent}
use Rattle.dn_net.specs.declared.node.NodeDecl.{NodeDecl}
use Rattle.dn_kind.specs.Units.{IsLegalWith}
use Rattle.dn_book.specs.declared.grant.Grant.{Grant}
use Rattle.dn_book.specs.Book.{IsFaithful, IsSound}
use Rattle.dn_script.specs.Flown.{GivesLookups}
use Rattle.dn_script.specs.Turn.{Turn, events_of}
use Rattle.dn_session.specs.Changing.{EventsLeadTo}
use Rattle.dn_session.specs.Shipped.{shipped_kinds}

-- what a call comes to that changes a session: its events, the live grants after it, and whether a
-- record was then cleared since the last fence
pub record Change : Type 0 where
  pub events : List TableEvent
  pub grants : List Grant
  pub cleared : Bool

-- Changes, one after another from these live grants on: the events of each lead to the grants after
-- it, and their book is sound and faithful.
abbrev pub AreChanges : List NodeDecl → List Grant → Bool → List Change → Type 0
AreChanges net book cleared [] = Unit {0}
AreChanges net book cleared (c ∷ cs) = EventsLeadTo net book c.grants cleared c.cleared c.events
    × IsSound net c.grants × IsFaithful net c.grants × AreChanges net c.grants c.cleared cs

-- a change as a turn of a script that answers nothing
abbrev pub turn_of : Change → Turn
turn_of c = record {
  events = c.events;
  reply = [];
  next = record { book = c.grants; cleared = c.cleared; ids = [] };
}

-- In each schedule of a first part of the events of the changes of a session, performed in order,
-- each lookup that has ended is given what books owe: each of its names is owed by the grants
-- before or after a change at one moment of its life; and where all grants of its life owe its
-- start the same names, it has ended with exactly these.
abbrev pub SessionLookupsAreGiven : Type 0
SessionLookupsAreGiven = (net : List NodeDecl) (changes : List Change) →
    IsLegalWith shipped_kinds net →
    AreChanges net [] false changes → (count : ℕ) →
    GivesLookups shipped_kinds net (map turn_of changes)
    (take count (events_of (map turn_of changes)))
