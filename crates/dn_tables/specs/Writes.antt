-- Writes of words: in which order a record is put and cleared, and what stands after so many of the writes.
use Rattle.std.specs.Prelude.{◌≡◌, ℕ, suc, ◌+◌, ◌-◌, ◌*◌, ◌<◌, ◌⊎◌, Bool, true, false, List, [], ◌∷◌, ◌++◌, map, length, take, replicate, slice_set, Option}
use Rattle.std.specs.Option.{option_map}
use Rattle.dn_base.specs.Device.{Logged, UnitSize, size_of, with_word}
use Rattle.dn_base.specs.declared.device.TableEvent.{TableEvent}
use Rattle.dn_base.specs.declared.device.TableEvent.TheVariants.{Make, Write}
use Rattle.dn_base.specs.declared.device.UnitWords.{UnitWords}
use Rattle.dn_kind.specs.declared.unit_kind.Record.{Record}
use Rattle.dn_kind.specs.Kind.{Meaning}
use Rattle.dn_tables.specs.declared.table.NodeTable.{NodeTable}
use Rattle.dn_tables.specs.Set.{packed_in, width_in, with_table, with_words}

-- a write of one word of a unit
pub record WordWrite : Type 0 where
  pub word : ℕ
  pub value : ℕ

-- values written from a word on, in ascending order
abbrev pub writes_from : ℕ → List ℕ → List WordWrite
writes_from word [] = []
writes_from word (v ∷ vs) = record { word = word; value = v } ∷ writes_from (suc word) vs

-- putting a record: its words in ascending order, so the gate word is last
abbrev pub put_writes : List Meaning → List NodeTable → ℕ → ℕ → Record → List WordWrite
put_writes kinds set node slot r = writes_from (slot * width_in set node) (packed_in kinds set node r)

-- clearing words of a slot: 0 to the last of them, the gate word, and then 0 to the others in ascending order
abbrev pub clears_from : ℕ → ℕ → List WordWrite
clears_from first width =
    record { word = first + (width - 1); value = 0 } ∷ writes_from first (replicate (width - 1) 0)

-- clearing a slot
abbrev pub clear_writes : List NodeTable → ℕ → ℕ → List WordWrite
clear_writes set node slot = clears_from (slot * width_in set node) (width_in set node)

-- the events of writes to a unit
abbrev pub write_events : ℕ → List WordWrite → List TableEvent
write_events unit [] = []
write_events unit (w ∷ ws) = Write unit w.word w.value ∷ write_events unit ws

-- words after writes, one after the other
abbrev pub words_after : List WordWrite → List ℕ → List ℕ
words_after [] ws = ws
words_after (w ∷ writes) ws = words_after writes (slice_set ws w.word w.value)

-- the tables of a device after writes to a unit
abbrev pub device_after : ℕ → List WordWrite → List UnitWords → List UnitWords
device_after unit [] tables = tables
device_after unit (w ∷ writes) tables = device_after unit writes (with_word tables unit w.word w.value)

-- a set after writes to the unit that a node is
abbrev pub set_after : ℕ → List WordWrite → List NodeTable → List NodeTable
set_after node writes set = with_table set node (λ t. with_words t (words_after writes t.words))

-- writes to a unit were made in order, on a device and on what keeps them too: all of them, or those before the one
-- that failed
pub record AreDone {X : Type 0} (after : List WordWrite → X → X) (unit : ℕ) (writes : List WordWrite) (failed : Bool)
    (log log' : Option (List TableEvent)) (told told' : Option (List UnitWords)) (old new : X)
    : Type 0 where
  pub made : ℕ
  pub all : failed ≡ false → made ≡ length writes
  pub less : failed ≡ true → made < length writes
  pub logged : Logged log log' (write_events unit (take made writes))
  pub on_device : told' ≡ option_map (device_after unit (take made writes)) told
  pub kept : new ≡ after (take made writes) old

-- so they were, on a device and on words
abbrev pub AreWordsWritten : ℕ → List WordWrite → Bool →
    Option (List TableEvent) → Option (List TableEvent) →
    Option (List UnitWords) → Option (List UnitWords) → List ℕ → List ℕ → Type 0
AreWordsWritten = AreDone words_after

-- so they were, on a device and in a set
abbrev pub AreMade : ℕ → List WordWrite → Bool →
    Option (List TableEvent) → Option (List TableEvent) →
    Option (List UnitWords) → Option (List UnitWords) → List NodeTable → List NodeTable → Type 0
AreMade unit = AreDone (set_after unit) unit

-- the event of a unit that was made
abbrev pub make_event : UnitWords → TableEvent
make_event t = Make t.unit (length t.words)

-- Units were made in order on a device that had none: all of them, or else a prefix of them, which lacks at least the
-- last one where the device failed. Where the call did not come through, the prefix lacks the last one or is empty: all
-- memory but that of the device is taken before the first is made.
pub record AreUnitsMade (tables : List UnitWords) (done failed : Bool)
    (log log' : Option (List TableEvent)) (units' : List UnitSize) (told told' : Option (List UnitWords))
    : Type 0 where
  pub made : ℕ
  pub all : done ≡ true → made ≡ length tables
  pub less : failed ≡ true → made < length tables
  pub unfinished : done ≡ false → (made < length tables) ⊎ (made ≡ 0)
  pub units : units' ≡ map size_of (take made tables)
  pub logged : Logged log log' (map make_event (take made tables))
  pub on_device : told' ≡ option_map (λ before. before ++ take made tables) told
