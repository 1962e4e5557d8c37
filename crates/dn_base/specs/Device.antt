-- What a device for tables tells: the units that were made, their words and the events, where it tells them.
use Rattle.std.specs.Prelude.{◌≡◌, ℕ, Bool, true, false, if◌then◌else◌, ◌&&◌, ◌||◌, ◌==◌, nat_lt, List, [], ◌∷◌, ◌++◌, map, length, slice_set, slice_index_or, ◌<◌, Option, Some, None, IsSome, Result, Err}
use Rattle.std.specs.Option.{option_map}
use Rattle.dn_base.specs.declared.device.TableEvent.{TableEvent}
use Rattle.dn_base.specs.declared.device.UnitWords.{UnitWords}
use Rattle.dn_base.specs.declared.device.DeviceOrMemory.{DeviceOrMemory}
use Rattle.dn_base.specs.declared.device.DeviceOrMemory.TheVariants.{Device}
use Rattle.dn_base.specs.Memory.{CallState}

-- a unit that was made, and how many words it was given
pub record UnitSize : Type 0 where
  pub unit : ℕ
  pub words : ℕ

-- the number of words of a unit
abbrev pub size_of : UnitWords → UnitSize
size_of t = record { unit = t.unit; words = length t.words }

-- the numbers of words of units
abbrev pub sizes_of : List UnitWords → List UnitSize
sizes_of ts = map size_of ts

-- the unit was made
abbrev pub has_unit : List UnitSize → ℕ → Bool
has_unit [] unit = false
has_unit (s ∷ ss) unit = (s.unit == unit) || has_unit ss unit

-- the unit was made, and has the word
abbrev pub has_word : List UnitSize → ℕ → ℕ → Bool
has_word [] unit word = false
has_word (s ∷ ss) unit word = if s.unit == unit then nat_lt word s.words else has_word ss unit word

-- one word of a unit is set
abbrev pub with_word : List UnitWords → ℕ → ℕ → ℕ → List UnitWords
with_word [] unit word value = []
with_word (t ∷ ts) unit word value =
    if t.unit == unit
    then record { unit = t.unit; words = slice_set t.words word value } ∷ ts
    else t ∷ with_word ts unit word value

-- the events were added at the end of the log, where it is told afterwards
abbrev pub Logged : Option (List TableEvent) → Option (List TableEvent) → List TableEvent → Type 0
Logged before after events = IsSome after → after ≡ option_map (λ told. told ++ events) before

-- a call ended by a fault of the device; want of memory is none
abbrev pub is_device_fault : {A : Type 0} → Result A DeviceOrMemory → Bool
is_device_fault (Err Device) = true
is_device_fault _ = false

-- tables in memory: the units with their words, the events that were kept, whether they are all, at most how many are
-- kept, and the calls
pub record TablesState : Type 0 where
  pub tables : List UnitWords
  pub log : List TableEvent
  pub told : Bool
  pub room : ℕ
  pub calls : CallState

-- the log, where all events were kept
abbrev pub log_told : TablesState → Option (List TableEvent)
log_told s = if s.told then Some s.log else None

-- an event more, which is kept where there is room
abbrev pub log_with : TablesState → TableEvent → List TableEvent
log_with s event = if nat_lt (length s.log) s.room then s.log ++ event ∷ [] else s.log

-- all events were kept, where there is one more
abbrev pub told_with : TablesState → Bool
told_with s = s.told && nat_lt (length s.log) s.room

-- a call kept its event where there is room, and nothing where it failed
pub record KeepsEvent (event : TableEvent) (old new : TablesState) (failed : Bool) : Type 0 where
  pub log : failed ≡ false → new.log ≡ log_with old event
  pub told : failed ≡ false → new.told ≡ told_with old
  pub unlogged : failed ≡ true → (new.log ≡ old.log) × (new.told ≡ old.told)
  pub room : new.room ≡ old.room

-- the words of a unit that was made
abbrev pub words_of_unit : List UnitWords → ℕ → List ℕ
words_of_unit [] unit = []
words_of_unit (t ∷ ts) unit = if t.unit == unit then t.words else words_of_unit ts unit

-- the first unit of this number stands at this place and has the word, and what setting the word does
pub record PlacedAt (tables : List UnitWords) (unit word at : ℕ) : Type 0 where
  pub within : at < length tables
  pub has : (d : UnitWords) → word < length (slice_index_or tables at d).words
  pub sets : (value : ℕ) (d : UnitWords) → with_word tables unit word value
      ≡ slice_set tables at (record {
        unit = (slice_index_or tables at d).unit;
        words = slice_set (slice_index_or tables at d).words word value;
      })
