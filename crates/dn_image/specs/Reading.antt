-- Reading an image: its fields from the front on, and the first that is not as in an image of the net.
use Rattle.std.specs.Prelude.{◌≡◌, ℕ, suc, ◌+◌, ◌-◌, ◌*◌, if◌then◌else◌, nat_lt, List, [], ◌∷◌, ◌++◌, take, drop, length, replicate, Option, Some, None, Result, Ok, Err}
use Rattle.std.specs.Str.{bytes_eq}
use Rattle.byteorder.specs.Endian.{little_bytes, little_number}
use Rattle.dn_net.specs.declared.node.NodeDecl.{NodeDecl}
use Rattle.dn_net.specs.declared.node.Unit.{Unit as UnitPart}
use Rattle.dn_kind.specs.Kind.{Meaning}
use Rattle.dn_image.specs.declared.fault.ImageFault.{ImageFault}
use Rattle.dn_image.specs.declared.fault.ImageFault.TheVariants.{Short, Header, Shape, Trailing, OutOfMemory}
use Rattle.dn_image.specs.Bytes.{words_spelled}
use Rattle.dn_image.specs.Image.{image_mark, count_unit, unit_count, word_count, head_bytes, is_version, ImageWords}

-- why bytes are no image of a net: they end at this place, inside a field; the mark (0), the version (4) or the number of
-- units (6) is another; the head of this number, counted from 0, is not the net's; or bytes follow from this place on
pub data BrokenImage : Type 0 where
  ends : ℕ → BrokenImage
  header : ℕ → BrokenImage
  shape : ℕ → BrokenImage
  trails : ℕ → BrokenImage

-- a field of an image: its number of bytes, and what is wrong with bytes that stand there, if anything is
pub record Field : Type 0 where
  pub size : ℕ
  pub wrong : List ℕ → Option BrokenImage

-- a field of these bytes
abbrev pub exactly : List ℕ → BrokenImage → Field
exactly bytes broken = record {
  size = length bytes;
  wrong = λ given. if bytes_eq bytes given then None else Some broken;
}

-- a word, which may be any
abbrev pub word_field : Field
word_field = record { size = 8; wrong = λ _. None }

-- the version
abbrev pub version_field : Field
version_field = record {
  size = 2;
  wrong = λ given. if is_version (little_number 2 given) then None else Some (header 4);
}

-- the fields before the units: the mark, the version and the number of units
abbrev pub header_fields : List NodeDecl → List Field
header_fields net =
    exactly image_mark (header 0) ∷ version_field ∷ exactly (little_bytes 2 (unit_count net)) (header 6) ∷ []

-- the fields of a unit, whose head has this place among the heads: the head and each word
abbrev pub unit_fields : List Meaning → ℕ → ℕ → Option UnitPart → List Field
unit_fields kinds place node None = []
unit_fields kinds place node (Some u) =
    exactly (head_bytes kinds node u) (shape place) ∷ replicate (word_count kinds (Some u)) word_field

-- the fields of the units of nodes from a number on
abbrev pub units_fields : List Meaning → ℕ → ℕ → List NodeDecl → List Field
units_fields kinds place node [] = []
units_fields kinds place node (n ∷ ns) =
    unit_fields kinds place node n.unit ++ units_fields kinds (count_unit n.unit place) (suc node) ns

-- the fields of an image of a net
abbrev pub image_fields : List NodeDecl → List Meaning → List Field
image_fields net kinds = header_fields net ++ units_fields kinds 0 0 net

-- what is wrong first
abbrev pub first_wrong : Option BrokenImage → Option BrokenImage → Option BrokenImage
first_wrong None later = later
first_wrong (Some b) later = Some b

-- what is wrong with the last bytes of so many, from a field on: for each field the bytes end before it does, or else
-- what is wrong with it; and after the last field bytes follow
abbrev pub broken_in : ℕ → List Field → List ℕ → Option BrokenImage
broken_in total [] rest = if nat_lt 0 (length rest) then Some (trails (total - length rest)) else None
broken_in total (f ∷ fs) rest =
    if nat_lt (length rest) f.size then Some (ends total)
    else first_wrong (f.wrong (take f.size rest)) (broken_in total fs (drop f.size rest))

-- what is wrong with bytes as an image of the net, if anything is
abbrev pub broken_image : List NodeDecl → List Meaning → List ℕ → Option BrokenImage
broken_image net kinds bytes = broken_in (length bytes) (image_fields net kinds) bytes

-- how many bytes a node has in an image
abbrev pub node_size : List Meaning → Option UnitPart → ℕ
node_size kinds None = 0
node_size kinds (Some u) = 8 + 8 * word_count kinds (Some u)

-- the words of a node, of which the bytes begin with its head
abbrev pub node_words : List Meaning → Option UnitPart → List ℕ → List ℕ
node_words kinds None bytes = []
node_words kinds (Some u) bytes = words_spelled (word_count kinds (Some u)) (drop 8 bytes)

-- the words of nodes, whose bytes stand one after the other
abbrev pub words_from : List Meaning → List NodeDecl → List ℕ → List (List ℕ)
words_from kinds [] bytes = []
words_from kinds (n ∷ ns) bytes =
    node_words kinds n.unit bytes ∷ words_from kinds ns (drop (node_size kinds n.unit) bytes)

-- the words of bytes in which nothing is wrong
abbrev pub image_words : List NodeDecl → List Meaning → List ℕ → List (List ℕ)
image_words net kinds bytes = words_from kinds net (drop 8 bytes)

-- the version of bytes in which nothing is wrong
abbrev pub version_of : List ℕ → ℕ
version_of bytes = little_number 2 (drop 4 bytes)

-- what is wrong, or else a value
abbrev pub reading_by : {X : Type 0} → Option BrokenImage → X → Result X BrokenImage
reading_by None x = Ok x
reading_by (Some b) x = Err b

-- what bytes say as an image of the net, or else what is wrong with them
abbrev pub image_reading : List NodeDecl → List Meaning → List ℕ → Result ImageWords BrokenImage
image_reading net kinds bytes =
    reading_by (broken_image net kinds bytes)
    (record { version = version_of bytes; words = image_words net kinds bytes })

-- what a fault says of the bytes; want of memory says nothing
abbrev pub image_fault_view : ImageFault → Option BrokenImage
image_fault_view (Short at) = Some (ends at)
image_fault_view (Header at) = Some (header at)
image_fault_view (Shape unit) = Some (shape unit)
image_fault_view (Trailing at) = Some (trails at)
image_fault_view OutOfMemory = None

-- how many bytes nodes have in an image
abbrev pub nodes_size : List Meaning → List NodeDecl → ℕ
nodes_size kinds [] = 0
nodes_size kinds (n ∷ ns) = node_size kinds n.unit + nodes_size kinds ns

-- what is told of fields at the front of the last bytes of so many: nothing is wrong with them and they have this size,
-- or else the first thing that is wrong, whatever fields follow
abbrev pub PassesFields : {X : Type 0} → ℕ → List ℕ → List Field → (X → ℕ) → Result X ImageFault → Type 0
PassesFields total rest fields size (Ok x) = (more : List Field) →
    broken_in total (fields ++ more) rest ≡ broken_in total more (drop (size x) rest)
PassesFields total rest fields size (Err e) = (more : List Field) →
    broken_in total (fields ++ more) rest ≡ image_fault_view e
