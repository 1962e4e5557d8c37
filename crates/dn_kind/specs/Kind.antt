-- Kinds of units: shapes, records, and what a kind means.
use Rattle.std.specs.Prelude.{◌≡◌, ℕ, ◌-◌, ◌%◌, ◌^◌, ◌≤◌, Bool, ◌&&◌, nat_lt, List, [], ◌∷◌, length, position, Option, Some, None, IsTrue}
use Rattle.std.specs.List.{list_all}
use Rattle.std.specs.Str.{bytes_eq}
use Rattle.dn_net.specs.Units.{is_plain_shape}
use Rattle.dn_kind.specs.declared.shape.Shape.{Shape}
use Rattle.dn_kind.specs.declared.unit_kind.Record.{Record}
use Rattle.dn_kind.specs.Rights.{are_rights}

-- a unit may have this shape, whatever its kind
abbrev pub is_plain_unit_shape : Shape → Bool
is_plain_unit_shape shape = is_plain_shape shape.page shape.slots shape.reach shape.ports

-- a unit of this shape can hold the record: it has the port, and the output is below its reach
abbrev pub is_within : Shape → Record → Bool
is_within shape r = nat_lt r.port shape.ports && nat_lt r.page (2 ^ (shape.reach - shape.page))

-- what a kind means: its name, the number of words of a record, whether it fits a shape, the words
-- of a record in a shape, and the record that words spell
pub record Meaning : Type 0 where
  pub name : List ℕ
  pub words : ℕ
  pub fits : Shape → Bool
  pub pack : Shape → Record → List ℕ
  pub unpack : List ℕ → Option Record

-- the place of the first kind of a name
abbrev pub kind_place : List Meaning → List ℕ → Option ℕ
kind_place kinds name = position (λ k. bytes_eq name k.name) kinds

-- a kind may be asked for the words of the record in the shape
pub record IsPackable (kind : Meaning) (shape : Shape) (r : Record) : Type 0 where
  pub plain : IsTrue (is_plain_unit_shape shape)
  pub fits : IsTrue (kind.fits shape)
  pub within : IsTrue (is_within shape r)
  pub rights : IsTrue (are_rights r.rights)

-- the last of a record's words
abbrev pub gate_word : List ℕ → ℕ
gate_word [] = 0
gate_word (w ∷ []) = w
gate_word (w ∷ v ∷ ws) = gate_word (v ∷ ws)

-- A lawful kind has one to four words. The words of a record are so many, each below 2^64, and spell
-- that record, and where bit 0 of the last word is clear no record is spelled. A record that is spelled allows
-- reading, writing or both.
pub record IsLawful (kind : Meaning) : Type 0 where
  pub least : 1 ≤ kind.words
  pub most : kind.words ≤ 4
  pub width : (shape : Shape) (r : Record) → IsPackable kind shape r →
      length (kind.pack shape r) ≡ kind.words
  pub small : (shape : Shape) (r : Record) → IsPackable kind shape r →
      IsTrue (list_all (λ w. nat_lt w (2 ^ 64)) (kind.pack shape r))
  pub reads_back : (shape : Shape) (r : Record) → IsPackable kind shape r →
      kind.unpack (kind.pack shape r) ≡ Some r
  pub shut : (ws : List ℕ) → length ws ≡ kind.words → gate_word ws % 2 ≡ 0 →
      kind.unpack ws ≡ None
  pub rights : (ws : List ℕ) (r : Record) → kind.unpack ws ≡ Some r →
      IsTrue (are_rights r.rights)
