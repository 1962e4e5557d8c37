-- The image of tables: the bytes in which the words of all units of a net are stored.
use Rattle.std.specs.Prelude.{◌≡◌, ℕ, suc, ◌*◌, ◌^◌, Bool, true, false, if◌then◌else◌, ◌&&◌, ◌||◌, nat_lt, ◌==◌, List, [], ◌∷◌, ◌++◌, drop, length, Option, Some, None, IsTrue, codes, slice_get}
use Rattle.std.specs.List.{list_all}
use Rattle.byteorder.specs.Endian.{little_bytes}
use Rattle.dn_net.specs.declared.node.NodeDecl.{NodeDecl}
use Rattle.dn_net.specs.declared.node.Unit.{Unit as UnitPart}
use Rattle.dn_kind.specs.declared.rights.Access.TheVariants.{Read, Write}
use Rattle.dn_kind.specs.Kind.{Meaning}
use Rattle.dn_kind.specs.Cleared.{words_allowing}
use Rattle.dn_tables.specs.Set.{first_words, width_by}
use Rattle.dn_image.specs.Bytes.{word_bytes}

-- tables are a list of words for each node, by the node's number; that of a node that is no unit is empty

-- one more, where the node is a unit
abbrev pub count_unit : Option UnitPart → ℕ → ℕ
count_unit None n = n
count_unit (Some u) n = suc n

-- how many units a net has
abbrev pub unit_count : List NodeDecl → ℕ
unit_count [] = 0
unit_count (n ∷ ns) = count_unit n.unit (unit_count ns)

-- how many words a record of the unit has
abbrev pub width_of : List Meaning → UnitPart → ℕ
width_of kinds u = width_by (slice_get kinds u.kind)

-- how many words a node has
abbrev pub word_count : List Meaning → Option UnitPart → ℕ
word_count kinds None = 0
word_count kinds (Some u) = u.slots * width_of kinds u

-- the mark of an image, "DNIM"
abbrev pub image_mark : List ℕ
image_mark = codes "DNIM"

-- the head of a unit: its node in two bytes, the words of a record in one, a byte 0, and its slots in four
abbrev pub head_of : ℕ → ℕ → ℕ → List ℕ
head_of node width slots = little_bytes 2 node ++ (width ∷ 0 ∷ little_bytes 4 slots)

-- the head of a unit by these kinds
abbrev pub head_bytes : List Meaning → ℕ → UnitPart → List ℕ
head_bytes kinds node u = head_of node (width_of kinds u) u.slots

-- a unit: its head, and its words in eight bytes each; a node that is no unit has none
abbrev pub unit_bytes : List Meaning → ℕ → Option UnitPart → List ℕ → List ℕ
unit_bytes kinds node None ws = []
unit_bytes kinds node (Some u) ws = head_bytes kinds node u ++ word_bytes ws

-- the units of nodes from a number on, in ascending order
abbrev pub units_bytes : List Meaning → ℕ → List NodeDecl → List (List ℕ) → List ℕ
units_bytes kinds node [] words = []
units_bytes kinds node (n ∷ ns) words =
    unit_bytes kinds node n.unit (first_words words) ++ units_bytes kinds (suc node) ns (drop 1 words)

-- the head of an image: the mark, the version and the number of units in two bytes each
abbrev pub image_head : ℕ → List NodeDecl → List ℕ
image_head version net = image_mark ++ (little_bytes 2 version ++ little_bytes 2 (unit_count net))

-- the image of tables in a version; all numbers are little-endian
abbrev pub image_of : ℕ → List NodeDecl → List Meaning → List (List ℕ) → List ℕ
image_of version net kinds words = image_head version net ++ units_bytes kinds 0 net words

-- the version that is written
abbrev pub written_version : ℕ
written_version = 2

-- the image of tables
abbrev pub image : List NodeDecl → List Meaning → List (List ℕ) → List ℕ
image net kinds words = image_of written_version net kinds words

-- a version that is read
abbrev pub is_version : ℕ → Bool
is_version version = (version == 1) || (version == 2)

-- the node has so many words as its kind and its slots ask for, each below 2^64
abbrev pub is_filled : List Meaning → Option UnitPart → List ℕ → Bool
is_filled kinds u ws = (length ws == word_count kinds u) && list_all (λ w. nat_lt w (2 ^ 64)) ws

-- the tables have the words of each node of the net, and no more
abbrev pub are_filled : List Meaning → List NodeDecl → List (List ℕ) → Bool
are_filled kinds [] [] = true
are_filled kinds [] (ws ∷ rest) = false
are_filled kinds (n ∷ ns) [] = false
are_filled kinds (n ∷ ns) (ws ∷ rest) = is_filled kinds n.unit ws && are_filled kinds ns rest

-- what an image says: its version, and the words of each node
pub record ImageWords : Type 0 where
  pub version : ℕ
  pub words : List (List ℕ)

-- bytes are the image of these tables in this version
pub record IsImageOf (net : List NodeDecl) (kinds : List Meaning) (given : List ℕ) (i : ImageWords) : Type 0 where
  pub version : IsTrue (is_version i.version)
  pub filled : IsTrue (are_filled kinds net i.words)
  pub bytes : given ≡ image_of i.version net kinds i.words

-- the tables of an image: in version 2 its words; in version 1 they have 0 in each slot whose record does not allow both
-- reading and writing
abbrev pub image_tables : List NodeDecl → List Meaning → ImageWords → List (List ℕ)
image_tables net kinds i =
    if i.version == 1
    then words_allowing net kinds Write (words_allowing net kinds Read i.words)
    else i.words
