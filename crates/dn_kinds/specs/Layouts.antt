-- The layouts of the shipped kinds. Bits of a word are counted from 0, the lowest.
use Rattle.std.specs.Prelude.{ℕ, ◌+◌, ◌*◌, ◌/◌, ◌%◌, ◌^◌, Bool, ◌&&◌, nat_le, ◌==◌, List, [], ◌∷◌, Option, Some, None, codes, if◌then◌else◌}
use Rattle.dn_kind.specs.declared.rights.Access.{Access}
use Rattle.dn_kind.specs.declared.rights.Access.TheVariants.{Read, Write}
use Rattle.dn_kind.specs.declared.rights.Rights.{Rights}
use Rattle.dn_kind.specs.declared.shape.Shape.{Shape}
use Rattle.dn_kind.specs.declared.unit_kind.Record.{Record}
use Rattle.dn_kind.specs.Rights.{allows, both_rights}
use Rattle.dn_kind.specs.Kind.{Meaning}
use Rattle.dn_kinds.specs.declared.shipped.ShippedKind.{ShippedKind}
use Rattle.dn_kinds.specs.declared.shipped.ShippedKind.TheVariants.{Pages, Remap, Vectors, Radix}

-- so many bits of a word, from a bit on, as a number
abbrev pub bits : ℕ → ℕ → ℕ → ℕ
bits word first count = word / 2 ^ first % 2 ^ count

-- 1 where an access is not one of the rights, and 0 where it is
abbrev pub denial : Access → Rights → ℕ
denial access rights = if allows rights access then 0 else 1

-- what denies an access in a gate word: bit 4 reading, and bit 5 writing
abbrev pub denials : Rights → ℕ
denials rights = 2 ^ 4 * denial Read rights + 2 ^ 5 * denial Write rights

-- reading alone
abbrev pub read_right : Rights
read_right = record { 0 = 1 }

-- writing alone
abbrev pub write_right : Rights
write_right = record { 0 = 2 }

-- the rights that a gate word leaves, if it leaves any
abbrev pub rights_left : ℕ → Option Rights
rights_left word =
    if bits word 4 1 == 0
    then (if bits word 5 1 == 0 then Some both_rights else Some read_right)
    else (if bits word 5 1 == 0 then Some write_right else None)

-- the record of a port, a page and rights, if there are any
abbrev pub record_with : ℕ → ℕ → Option Rights → Option Record
record_with port page None = None
record_with port page (Some rights) = Some (record { port = port; page = page; rights = rights })

-- the record that one word alone spells
abbrev pub unpack_word : (ℕ → Option Record) → List ℕ → Option Record
unpack_word spelled [] = None
unpack_word spelled (w ∷ []) = spelled w
unpack_word spelled (w ∷ v ∷ ws) = None

-- what a gate word has of a record: bit 0 the gate, bits 1 to 3 the port, bits 4 and 5 the denials
abbrev pub gate_bits : Record → ℕ
gate_bits r = 1 + 2 ^ 1 * r.port + denials r.rights

-- the record of a gate word and an output page, where the bits that must be zero are, the gate is
-- set, and an access is left
abbrev pub gated : Bool → ℕ → ℕ → Option Record
gated zeros w page =
    if zeros && (bits w 0 1 == 1)
    then record_with (bits w 1 3) page (rights_left w)
    else None

-- the word of a record that is a gate word with the output page from a bit on
abbrev pub page_word : ℕ → Shape → Record → List ℕ
page_word first shape r = (gate_bits r + 2 ^ first * r.page) ∷ []

-- a kind of one word, which has the output page from a bit on
abbrev pub word_kind : List ℕ → (Shape → Bool) → ℕ → (ℕ → Option Record) → Meaning
word_kind name fits first spelled = record {
  name = name;
  words = 1;
  fits = fits;
  pack = page_word first;
  unpack = unpack_word spelled;
}

-- a shape has 1 to 8 ports
abbrev pub has_ports : Shape → Bool
has_ports shape = nat_le 1 shape.ports && nat_le shape.ports 8

-- the record that a word spells in `pages`: bits 1 to 3 zero, so that the port is 0, bits 6 and 7
-- zero, bits 8 to 63 the output page
abbrev pub spelled_pages : ℕ → Option Record
spelled_pages w = gated ((bits w 1 3 == 0) && (bits w 6 2 == 0)) w (bits w 8 56)

-- the kind `pages`
abbrev pub pages : Meaning
pages = word_kind (codes "pages") (λ shape. shape.ports == 1) 8 spelled_pages

-- the record that a word spells in `remap`: bits 6 and 7 zero, bits 8 to 63 the output page
abbrev pub spelled_remap : ℕ → Option Record
spelled_remap w = gated (bits w 6 2 == 0) w (bits w 8 56)

-- the kind `remap`
abbrev pub remap : Meaning
remap = word_kind (codes "remap") has_ports 8 spelled_remap

-- the words of a record of `vectors`: word 0 the output address, word 1 the gate word
abbrev pub pack_vectors : Shape → Record → List ℕ
pack_vectors shape r = r.page ∷ gate_bits r ∷ []

-- the record that two words spell in `vectors`: bits 6 to 63 of word 1 zero
abbrev pub unpack_vectors : List ℕ → Option Record
unpack_vectors [] = None
unpack_vectors (a ∷ []) = None
unpack_vectors (a ∷ w ∷ []) = gated (bits w 6 58 == 0) w a
unpack_vectors (a ∷ w ∷ v ∷ ws) = None

-- the kind `vectors`
abbrev pub vectors : Meaning
vectors = record {
  name = codes "vectors";
  words = 2;
  fits = λ shape. has_ports shape && (shape.page == 0);
  pack = pack_vectors;
  unpack = unpack_vectors;
}

-- the record that a word spells in `radix`: bits 6 to 11 zero, bits 12 to 55 the output page, bits
-- 56 to 63 zero
abbrev pub spelled_radix : ℕ → Option Record
spelled_radix w = gated ((bits w 6 6 == 0) && (bits w 56 8 == 0)) w (bits w 12 44)

-- the kind `radix`
abbrev pub radix : Meaning
radix = word_kind (codes "radix") (λ shape. has_ports shape && (shape.page == 12)) 12 spelled_radix

-- what a shipped kind means
abbrev pub shipped : ShippedKind → Meaning
shipped Pages = pages
shipped Remap = remap
shipped Vectors = vectors
shipped Radix = radix
