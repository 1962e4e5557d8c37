-- How far a run comes over a script: what of it is done to the device, and what is written.
use Rattle.std.specs.Prelude.{◌≡◌, ◌≢◌, ℕ, false, zero, suc, ◌<◌, ◌≤◌, List, [], ◌∷◌, ◌++◌, map, take, length, get_or, Option}
use Rattle.std.specs.Option.{IfSome}
use Rattle.dn_base.specs.declared.device.TableEvent.{TableEvent}
use Rattle.dn_base.specs.declared.device.UnitWords.{UnitWords}
use Rattle.dn_base.specs.Device.{Logged, UnitSize}
use Rattle.dn_base.specs.Outside.{Added}
use Rattle.dn_net.specs.declared.node.NodeDecl.{NodeDecl}
use Rattle.dn_kind.specs.Kind.{Meaning}
use Rattle.dn_tables.specs.Writes.{make_event}
use Rattle.dn_module.specs.declared.command.Command.{Command}
use Rattle.dn_script.specs.Books.{GivesOwed}
use Rattle.dn_script.specs.Flown.{GivesLookups}
use Rattle.dn_script.specs.Halt.{is_free_status}
use Rattle.dn_script.specs.Made.{AreMadeSoFar, TellsBook, made_tables}
use Rattle.dn_script.specs.Stopped.{AreCaught}
use Rattle.dn_script.specs.Turn.{AreTurns, Turn, events_of, replies_of, reply_turn, start, state_after}

-- before the first command each unit is made, with words 0
abbrev pub make_turn : List Meaning → List NodeDecl → Turn
make_turn kinds net = record {
  events = map make_event (made_tables kinds net);
  reply = [];
  next = start;
}

-- the turn at a place, or one in which nothing is done where there are not so many
abbrev pub turn_at : List Turn → ℕ → Turn
turn_at turns place = get_or turns place (reply_turn [] start)

-- How far a run with this status came in a turn: so many of its events were added to the device's log,
-- and so many bytes of its reply were written, once all its events were added
pub record CameIn (t : Turn) (status : ℕ) (before after : Option (List ℕ))
    (log log' : Option (List TableEvent)) : Type 0 where
  pub events : ℕ
  pub bytes : ℕ
  pub logged : Logged log log' (take events t.events)
  pub written : Added before after (take bytes t.reply)
  pub in_order : events < length t.events → bytes ≡ 0
  pub sink : status ≡ 3 → bytes < length t.reply
  pub device : status ≡ 6 → events < length t.events
  pub between : status ≢ 6 → events ≡ length t.events

-- How far a run with this status came over turns: so many of them were gone through whole, and of the
-- next so many events were added to the device's log, and then so many bytes of its reply were
-- written. At status 0 the turns were gone through whole; at status 3 the next reply was not written
-- whole; at status 6 the next events were not added whole, and at no other status was it left in the
-- middle of its events, once the first turn was gone through.
pub record CameTo (turns : List Turn) (status : ℕ) (before after : Option (List ℕ))
    (log log' : Option (List TableEvent)) : Type 0 where
  pub whole : ℕ
  pub events : ℕ
  pub bytes : ℕ
  pub logged : Logged log log'
      (events_of (take whole turns) ++ take events (turn_at turns whole).events)
  pub written : Added before after
      (replies_of (take whole turns) ++ take bytes (turn_at turns whole).reply)
  pub last : length turns ≤ suc whole
  pub in_order : events < length (turn_at turns whole).events → bytes ≡ 0
  pub done : status ≡ 0 → whole ≡ length turns
  pub sink : status ≡ 3 → bytes < length (turn_at turns whole).reply
  pub device : status ≡ 6 → events < length (turn_at turns whole).events
  pub between : 1 ≤ whole → status ≢ 6 → events ≡ length (turn_at turns whole).events

-- what a run added to the device's log after the makes, where so many turns were gone through whole, that
-- of the makes among them, and of the next so many events were added
abbrev pub added_events : List Turn → ℕ → ℕ → List TableEvent
added_events turns zero events = []
added_events turns (suc whole) events =
    events_of (take whole turns) ++ take events (turn_at turns whole).events

-- A run with this status over a script: it made the units, and then answered the first commands, of
-- which it may have stopped in the last. A status that is not free is 0. At status 0 it answered all.
-- The device has the units that were made so far, and no word was written before all were made. Once
-- they were, the words that the device tells are, at each status but 6, the tables of the book after the
-- last turn that was begun. At status 6 each name resolves by them, for each access, as before the command
-- in which it stopped or as after it. The book before the first command, and after each command that was gone
-- through whole, gives what it owes. In each schedule of what was added to the log after the makes each
-- lookup that has ended is given what books owe.
pub record IsPlayed (kinds : List Meaning) (net : List NodeDecl) (commands : List Command)
    (status : ℕ) (before after : Option (List ℕ)) (log log' : Option (List TableEvent))
    (units' : List UnitSize) (told' : Option (List UnitWords)) : Type 0 where
  pub turns : List Turn
  pub few : length turns ≤ length commands
  pub happened : AreTurns kinds net start (take (length turns) commands) turns
  pub came : CameTo (make_turn kinds net ∷ turns) status before after log log'
  pub exact : is_free_status status ≡ false → status ≡ 0
  pub all : status ≡ 0 → length turns ≡ length commands
  pub made : AreMadeSoFar kinds net came.whole came.events units' told'
  pub tables : status ≢ 6 → 1 ≤ came.whole → TellsBook kinds net (state_after start turns).book told'
  pub books : (count : ℕ) → count < came.whole →
      GivesOwed kinds net (state_after start (take count turns)).book
  pub stopped : status ≡ 6 → (count : ℕ) → came.whole ≡ suc count → IfSome told'
      (AreCaught kinds net (state_after start (take count turns)).book
      (state_after start (take (suc count) turns)).book)
  pub flown : GivesLookups kinds net turns (added_events turns came.whole came.events)

-- A run with this status over a script whose units are made already, with this log: whatever the log
-- was before they were made, it is a run from there
abbrev pub IsPlayedOn : List Meaning → List NodeDecl → List Command → ℕ → Option (List ℕ) →
    Option (List ℕ) → Option (List TableEvent) → Option (List TableEvent) → List UnitSize →
    Option (List UnitWords) → Type 0
IsPlayedOn kinds net commands status before after made log' units' told' =
    (log : Option (List TableEvent)) → Logged log made (make_turn kinds net).events →
    IsPlayed kinds net commands status before after log log' units' told'
