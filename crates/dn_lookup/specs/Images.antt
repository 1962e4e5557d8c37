-- Images as they are walked: the bytes, with the net and the kinds for which they are one.
use Rattle.std.specs.Prelude.{◌≡◌, None}
use Rattle.dn_net.specs.Rules.{KeepsNodeRules}
use Rattle.dn_kind.specs.Kinded.{IsShaped, kinds_of}
use Rattle.dn_kind.specs.declared.rights.Access.{Access}
use Rattle.dn_kind.specs.Kind.{Meaning}
use Rattle.dn_kind.specs.Tables.{Held}
use Rattle.dn_image.specs.Reading.{broken_image}
use Rattle.dn_lookup.specs.declared.image.LoadedImage.{LoadedImage}
use Rattle.dn_lookup.specs.Lookup.{bytes_records}

-- the kinds are lawful, the net's units have shapes that they fit and it keeps the node rules, and the bytes are an
-- image of it
pub record IsImage {K : Type 0} {V : K → Type 0} (means : (k : K) × V k → Meaning)
    (image : LoadedImage K V) : Type 0 where
  pub on : IsShaped means image.on
  pub rules : KeepsNodeRules image.on.net.now
  pub whole : broken_image image.on.net.now (kinds_of means image.on.kinds.now) image.bytes.now ≡ None

-- the records of an image that allow an access
abbrev pub records_for : {K : Type 0} {V : K → Type 0} → ((k : K) × V k → Meaning) →
    LoadedImage K V → Access → Held
records_for means image access =
    bytes_records image.on.net.now (kinds_of means image.on.kinds.now) image.bytes.now image.version access
