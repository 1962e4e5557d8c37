-- Lookups in flight while a script is run: what they end with, by the books of the moments of their lives.
use Rattle.std.specs.Prelude.{◌≡◌, ℕ, ◌-◌, ◌≤◌, if◌then◌else◌, nat_le, nat_eq, List, [], ◌∷◌, take, length, slice_get, Some}
use Rattle.std.specs.List.{All}
use Rattle.dn_base.specs.declared.device.TableEvent.{TableEvent}
use Rattle.dn_net.specs.declared.node.Name.{Name}
use Rattle.dn_net.specs.declared.node.NodeDecl.{NodeDecl}
use Rattle.dn_net.specs.Chain.{Member}
use Rattle.dn_kind.specs.Kind.{IsLawful, Meaning}
use Rattle.dn_kind.specs.Units.{IsLegalWith}
use Rattle.dn_book.specs.declared.grant.Grant.{Grant as GrantPart}
use Rattle.dn_book.specs.Book.{Owes, owed_names}
use Rattle.dn_book.specs.Tables.{tables_of}
use Rattle.dn_flight.specs.declared.event.Event.{Event}
use Rattle.dn_flight.specs.declared.lookup.LookState.TheVariants.{Ended}
use Rattle.dn_flight.specs.declared.lookup.Lookup.{Lookup}
use Rattle.dn_flight.specs.Flight.{first_name}
use Rattle.dn_flight.specs.Flown.{HasFlown}
use Rattle.dn_flight.specs.Schedules.{IsSchedule, moment, world_after}
use Rattle.dn_flight.specs.State.{WorldState}
use Rattle.dn_module.specs.declared.command.Command.{Command}
use Rattle.dn_script.specs.Turn.{AreTurns, Turn, events_of, start}

-- the tables before the first command, and no lookup
abbrev pub first_world : List Meaning → List NodeDecl → WorldState
first_world kinds net = record { words = tables_of net kinds []; lookups = [] }

-- The books of which a moment of turns speaks, at which so many of their events have come: the book that
-- the turns left of which all events have come; and inside the events of a turn the one that the turn
-- leaves as well.
abbrev pub books_at : List GrantPart → List Turn → ℕ → List (List GrantPart)
books_at book [] count = book ∷ []
books_at book (t ∷ ts) count =
    if nat_le (length t.events) count
    then books_at t.next.book ts (count - length t.events)
    else if nat_eq count 0 then book ∷ [] else book ∷ t.next.book ∷ []

-- A lookup beside a script has flown as lookups do. At the moment of its life at which its start resolved to all of its
-- names, a book of which the moment speaks owes its start each of them. And where all books of which the moments of
-- its life speak owe its start the same names, it has ended with exactly these.
pub record IsGivenOwed (kinds : List Meaning) (net : List NodeDecl) (turns : List Turn)
    (log : List TableEvent) (events : List Event) (n : ℕ) (l : Lookup) (names : List Name)
    : Type 0 where
  pub flown : HasFlown net kinds (first_world kinds net) log events n l names
  pub book : List GrantPart
  pub speaks : Member book (books_at [] turns flown.peak)
  pub given : (y : Name) → Member y names →
      Owes net book l.access (first_name l.agent l.start) y
  pub exact : (owed : List Name) → ((count : ℕ) (b : List GrantPart) →
      moment events flown.before ≤ count → count ≤ moment events flown.after →
      Member b (books_at [] turns count) →
      owed_names net b l.access (first_name l.agent l.start) ≡ owed) → names ≡ owed

-- in each schedule of a log of these turns each lookup that has ended is given what books owe
abbrev pub GivesLookups : List Meaning → List NodeDecl → List Turn → List TableEvent → Type 0
GivesLookups kinds net turns log = (events : List Event) →
    IsSchedule net kinds (first_world kinds net) log events →
    (n : ℕ) (l : Lookup) (names : List Name) →
    slice_get (world_after net kinds (first_world kinds net) events).lookups n ≡ Some l →
    l.state ≡ Ended names → IsGivenOwed kinds net turns log events n l names

-- Over a legal net with lawful kinds it is so with each first part of the events of a script.
abbrev pub LookupsAreGiven : Type 0
LookupsAreGiven = (kinds : List Meaning) (net : List NodeDecl) (commands : List Command)
    (turns : List Turn) → All IsLawful kinds → IsLegalWith kinds net →
    AreTurns kinds net start commands turns → (count : ℕ) →
    GivesLookups kinds net turns (take count (events_of turns))
