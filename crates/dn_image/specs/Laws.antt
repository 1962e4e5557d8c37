-- Laws on images: what is read is an image, and each image is read.
use Rattle.std.specs.Prelude.{◌≡◌, ℕ, List, Ok}
use Rattle.dn_net.specs.declared.node.NodeDecl.{NodeDecl}
use Rattle.dn_kind.specs.Kind.{Meaning}
use Rattle.dn_image.specs.Bytes.{AreBytes}
use Rattle.dn_image.specs.Image.{ImageWords, IsImageOf}
use Rattle.dn_image.specs.Reading.{image_reading}

-- The image of tables, in either version, is read as these tables and this version.
abbrev pub ImageIsRead : Type 0
ImageIsRead = (net : List NodeDecl) (kinds : List Meaning) (bytes : List ℕ) (i : ImageWords) →
    IsImageOf net kinds bytes i → image_reading net kinds bytes ≡ Ok i

-- Bytes that are read are the image of the tables and the version that they are read as.
abbrev pub ReadIsImage : Type 0
ReadIsImage = (net : List NodeDecl) (kinds : List Meaning) (bytes : List ℕ) (i : ImageWords) →
    AreBytes bytes → image_reading net kinds bytes ≡ Ok i → IsImageOf net kinds bytes i
