-- A kind of three words.
use Rattle.std.specs.Prelude.{◌∷◌, codes, drop}
use Rattle.dn_kind.specs.Kind.{Meaning}
use Rattle.dn_kinds.specs.Layouts.{vectors}

-- the kind `vectors` with a word more before its two, which is 0 in the words of a record and says nothing
abbrev pub wide : Meaning
wide = record {
  name = codes "wide";
  words = 3;
  fits = vectors.fits;
  pack = λ shape r. 0 ∷ vectors.pack shape r;
  unpack = λ ws. vectors.unpack (drop 1 ws);
}
