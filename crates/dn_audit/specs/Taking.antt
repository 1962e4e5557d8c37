-- Taking the records of an image slot by slot: what a set of tables holds on the way.
use Rattle.std.specs.Prelude.{◌≡◌, ℕ, if◌then◌else◌, ◌&&◌, ◌||◌, ◌==◌, nat_lt, List, Option, None}
use Rattle.dn_base.specs.Device.{UnitSize}
use Rattle.dn_base.specs.declared.device.UnitWords.{UnitWords}
use Rattle.dn_net.specs.declared.node.NodeDecl.{NodeDecl}
use Rattle.dn_net.specs.Legal.{IsLegalNet}
use Rattle.dn_kind.specs.Kind.{Meaning}
use Rattle.dn_kind.specs.Kinded.{IsShaped, kinds_of}
use Rattle.dn_kind.specs.Tables.{AreHeld, Held}
use Rattle.dn_tables.specs.declared.table.NodeTable.{NodeTable}
use Rattle.dn_tables.specs.Set.{FitsNet, IsOnDevice, record_kept, words_of}
use Rattle.dn_image.specs.Image.{ImageWords}
use Rattle.dn_image.specs.Reading.{broken_image, image_words, version_of}
use Rattle.dn_book.specs.Tables.{packed_tables}
use Rattle.dn_audit.specs.declared.stored.StoredImage.{StoredImage}
use Rattle.dn_audit.specs.Records.{image_records}

-- the kinds are lawful, the net is legal and its units have shapes that they fit, and the bytes are
-- an image of it of this version
pub record IsStored {K : Type 0} {V : K → Type 0} (means : (k : K) × V k → Meaning)
    (image : StoredImage K V) : Type 0 where
  pub on : IsShaped means image.on
  pub legal : IsLegalNet image.on.net.now
  pub whole : broken_image image.on.net.now (kinds_of means image.on.kinds.now) image.bytes.now ≡ None
  pub version : image.version ≡ version_of image.bytes.now

-- what the bytes say
abbrev pub image_says : {K : Type 0} {V : K → Type 0} → ((k : K) × V k → Meaning) →
    StoredImage K V → ImageWords
image_says means image = record {
  version = image.version;
  words = image_words image.on.net.now (kinds_of means image.on.kinds.now) image.bytes.now;
}

-- the records of the image
abbrev pub records_in : {K : Type 0} {V : K → Type 0} → ((k : K) × V k → Meaning) →
    StoredImage K V → Held
records_in means image =
    image_records image.on.net.now (kinds_of means image.on.kinds.now) (image_says means image)

-- the records before a slot of a node
abbrev pub front_records : Held → ℕ → ℕ → Held
front_records h node slot n q =
    if nat_lt n node || ((n == node) && nat_lt q slot) then h n q else None

-- a set holds the records before a slot of a node and no others, and is on a device
pub record IsFilledTo (net : List NodeDecl) (kinds : List Meaning) (h : Held) (node slot : ℕ)
    (set : List NodeTable) (sizes : List UnitSize) (told : Option (List UnitWords)) : Type 0 where
  pub fits : FitsNet net kinds set
  pub words : words_of set ≡ packed_tables net kinds (front_records h node slot)
  pub held : AreHeld net (front_records h node slot)
  pub on_device : IsOnDevice set sizes told

-- a set holds the records
abbrev pub HoldsRecords : List Meaning → Held → List NodeTable → Type 0
HoldsRecords kinds h set = (node slot : ℕ) → record_kept kinds set node slot ≡ h node slot
