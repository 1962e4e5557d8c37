-- The record of a slot by an image of pages, whoever made it.
use Rattle.std.specs.Prelude.{ℕ, zero, suc, ◌*◌, if◌then◌else◌, nat_lt, List, [], ◌∷◌, length, Option, Some, Result, Ok, Err}
use Rattle.dn_net.specs.declared.node.Unit.{Unit as UnitPart}
use Rattle.dn_kind.specs.declared.unit_kind.Record.{Record}
use Rattle.dn_kind.specs.Kind.{Meaning}
use Rattle.dn_kind.specs.Tables.{record_within}
use Rattle.dn_radix.specs.declared.fault.Bad.{Bad}
use Rattle.dn_radix.specs.Found.{found}
use Rattle.dn_radix.specs.Tree.{level_of}

-- a word before others, or the first of what is bad
abbrev pub word_before : Result ℕ ℕ → Result (List ℕ) ℕ → Result (List ℕ) ℕ
word_before (Err place) rest = Err place
word_before (Ok w) (Err place) = Err place
word_before (Ok w) (Ok ws) = Ok (w ∷ ws)

-- so many words from a number on, or the place of the first bad entry
abbrev pub walked_words : List ℕ → ℕ → ℕ → ℕ → Result (List ℕ) ℕ
walked_words image level i zero = Ok []
walked_words image level i (suc n) =
    word_before (found image level i 0) (walked_words image level (suc i) n)

-- the record that words spell, where the unit can hold it
abbrev pub record_of_words : UnitPart → Meaning → Result (List ℕ) ℕ → Result (Option Record) ℕ
record_of_words u kind (Err place) = Err place
record_of_words u kind (Ok ws) = Ok (record_within u (kind.unpack ws))

-- the record of a slot, or the place of the first bad entry; the first page begins at byte 0
abbrev pub walked : List ℕ → UnitPart → Meaning → ℕ → Result (Option Record) ℕ
walked image u kind slot =
    if nat_lt (length image) 4096 then Err 0
    else record_of_words u kind
    (walked_words image (level_of (u.slots * kind.words)) (slot * kind.words) kind.words)

-- the byte of a bad entry
abbrev pub bad_view : Bad → Option ℕ
bad_view bad = Some bad.at
