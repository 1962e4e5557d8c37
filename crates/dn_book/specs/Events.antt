-- Tables while a device writes them, event by event.
use Rattle.std.specs.Prelude.{◌≡◌, ℕ, zero, suc, ◌<◌, Bool, true, false, List, [], ◌∷◌, length, take, slice_set, Option}
use Rattle.dn_base.specs.Device.{Logged}
use Rattle.dn_base.specs.declared.device.TableEvent.{TableEvent}
use Rattle.dn_base.specs.declared.device.TableEvent.TheVariants.{Make, Write, Fence}
use Rattle.dn_net.specs.declared.node.NodeDecl.{NodeDecl}
use Rattle.dn_kind.specs.Kind.{Meaning}
use Rattle.dn_kind.specs.Tables.{Held, record_held}

-- tables in which one word of a node is set
abbrev pub with_word_in : List (List ℕ) → ℕ → ℕ → ℕ → List (List ℕ)
with_word_in [] node word value = []
with_word_in (ws ∷ rest) zero word value = slice_set ws word value ∷ rest
with_word_in (ws ∷ rest) (suc node) word value = ws ∷ with_word_in rest node word value

-- tables after an event of a device: it sets one word, or none
abbrev pub after_event : TableEvent → List (List ℕ) → List (List ℕ)
after_event (Make unit count) words = words
after_event (Write unit word value) words = with_word_in words unit word value
after_event Fence words = words

-- tables after events, one after the other
abbrev pub after_events : List TableEvent → List (List ℕ) → List (List ℕ)
after_events [] words = words
after_events (e ∷ es) words = after_events es (after_event e words)

-- the records that tables hold after so many events of a log
abbrev pub held_at : List NodeDecl → List Meaning → List (List ℕ) → List TableEvent → ℕ → Held
held_at net kinds words log count = record_held net kinds (after_events (take count log) words)

-- Events came in order: all of them, or those before the one that failed. They were added to a log, and
-- tables changed as they say.
pub record AreWritten (events : List TableEvent) (failed : Bool) (log log' : Option (List TableEvent))
    (words words' : List (List ℕ)) : Type 0 where
  pub made : ℕ
  pub all : failed ≡ false → made ≡ length events
  pub less : failed ≡ true → made < length events
  pub logged : Logged log log' (take made events)
  pub kept : words' ≡ after_events (take made events) words
