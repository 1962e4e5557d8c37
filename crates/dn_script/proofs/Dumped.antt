-- The image of the tables of a sound book is bytes and is read as these tables; so a dump tells them.
use Rattle.std.proofs.Common.{◌≡◌, ◌∙◌, ap, sym, refl, arith, ℕ, zero, suc, ◌/◌, ◌%◌, ◌^◌, ◌<◌, List, [], ◌∷◌, ◌++◌, drop, slice_get, slice_index, Option, Some, None, Ok}
use Rattle.std.specs.Int.{byte_at, bytes_low_first}
use Rattle.std.specs.List.{All}
use Rattle.byteorder.specs.Endian.{little_bytes}
use Rattle.hex.specs.Hex.{IsBytes}
use Rattle.dn_net.specs.declared.node.NodeDecl.{NodeDecl}
use Rattle.dn_net.specs.declared.node.Unit.{Unit as UnitPart}
use Rattle.dn_kind.specs.Kind.{IsLawful, Meaning}
use Rattle.dn_kind.proofs.Held.{kind_lawful}
use Rattle.dn_tables.specs.Set.{first_words, width_by}
use Rattle.dn_image.specs.Bytes.{AreBytes, word_bytes}
use Rattle.dn_image.specs.Image.{ImageWords, head_bytes, image, image_head, image_mark, unit_bytes, unit_count, units_bytes, width_of, written_version}
use Rattle.dn_image.specs.Reading.{image_reading}
use Rattle.dn_image.proofs.Told.{image_is_read}
use Rattle.dn_print.specs.Dump.{dump_text}
use Rattle.dn_print.proofs.OneDump.{dump_is_one}
use Rattle.dn_book.specs.Tables.{tables_of}
use Rattle.dn_script.specs.Books.{BookImageIsRead, DumpTellsTables}
use Rattle.dn_script.proofs.Filled.{tables_filled}

joined : (a b : List ℕ) → AreBytes a → AreBytes b → AreBytes (a ++ b)
joined [] b x y = y
joined (c ∷ cs) b x y = (x.0, joined cs b x.1 y)

-- the bytes of a number
number_bytes : (i n x : ℕ) → AreBytes (bytes_low_first i n x)
number_bytes i zero x = tt
number_bytes i (suc n) x = (small i x, number_bytes (suc i) n x)
  where
    remainder : (y : ℕ) → y % 256 < 256
    remainder y = omega arith

    small : (i x : ℕ) → byte_at i x < 256
    small zero x = remainder x
    small (suc i) x = remainder (x / 256 ^ suc i)

words_bytes : (ws : List ℕ) → AreBytes (word_bytes ws)
words_bytes [] = tt
words_bytes (w ∷ ws) = joined (little_bytes 8 w) (word_bytes ws) (number_bytes 0 8 w) (words_bytes ws)

-- a record has few words
width_small : (kinds : List Meaning) → All IsLawful kinds → (u : UnitPart) → width_of kinds u < 256
width_small kinds lawful u = by (slice_get kinds u.kind) refl
  where
    by : (k : Option Meaning) → slice_get kinds u.kind ≡ k → width_by k < 256
    by None e = omega arith
    by (Some kind) e = let most = (kind_lawful kinds u.kind kind lawful e).most in omega (arith, most)

node_bytes : (kinds : List Meaning) → All IsLawful kinds → (node : ℕ) (o : Option UnitPart) (ws : List ℕ) → AreBytes (unit_bytes kinds node o ws)
node_bytes kinds lawful node None ws = tt
node_bytes kinds lawful node (Some u) ws =
    let slots : AreBytes (0 ∷ little_bytes 4 u.slots) = (omega arith, number_bytes 0 4 u.slots) in
    let width : AreBytes (width_of kinds u ∷ 0 ∷ little_bytes 4 u.slots) = (width_small kinds lawful u, slots) in
    joined (head_bytes kinds node u) (word_bytes ws) (joined (little_bytes 2 node) (width_of kinds u ∷ 0 ∷ little_bytes 4 u.slots) (number_bytes 0 2 node) width) (words_bytes ws)

nodes_bytes : (kinds : List Meaning) → All IsLawful kinds → (node : ℕ) (ns : List NodeDecl) (words : List (List ℕ)) → AreBytes (units_bytes kinds node ns words)
nodes_bytes kinds lawful node [] words = tt
nodes_bytes kinds lawful node (n ∷ ns) words =
    joined (unit_bytes kinds node n.unit (first_words words)) (units_bytes kinds (suc node) ns (drop 1 words)) (node_bytes kinds lawful node n.unit (first_words words)) (nodes_bytes kinds lawful (suc node) ns (drop 1 words))

mark_bytes : AreBytes image_mark
mark_bytes = (omega arith, (omega arith, (omega arith, (omega arith, tt))))

-- the image of any tables is bytes
image_bytes : (kinds : List Meaning) (net : List NodeDecl) (words : List (List ℕ)) → All IsLawful kinds → AreBytes (image net kinds words)
image_bytes kinds net words lawful =
    let head : AreBytes (image_head written_version net) = joined image_mark (little_bytes 2 written_version ++ little_bytes 2 (unit_count net)) mark_bytes (joined (little_bytes 2 written_version) (little_bytes 2 (unit_count net)) (number_bytes 0 2 written_version) (number_bytes 0 2 (unit_count net))) in
    joined (image_head written_version net) (units_bytes kinds 0 net words) head (nodes_bytes kinds lawful 0 net words)

pub book_image_is_read : BookImageIsRead
book_image_is_read kinds net book lawful legal sound =
    let i : ImageWords = record { version = written_version; words = tables_of net kinds book } in
    record {
      bytes = image_bytes kinds net (tables_of net kinds book) lawful;
      read = image_is_read net kinds (image net kinds (tables_of net kinds book)) i (record { version = refl; filled = tables_filled kinds net book lawful legal sound; bytes = refl });
    }

-- each of them is a byte
each_byte : (bs : List ℕ) → AreBytes bs → IsBytes bs
each_byte [] all i = omega arith
each_byte (b ∷ bs) all zero = all.0
each_byte (b ∷ bs) all (suc i) = each_byte bs all.1 i

pub dump_tells_tables : DumpTellsTables
dump_tells_tables kinds net book lawful legal sound bytes all same =
    let own = book_image_is_read kinds net book lawful legal sound in
    let is : bytes ≡ image net kinds (tables_of net kinds book) = dump_is_one bytes (image net kinds (tables_of net kinds book)) (each_byte bytes all) (each_byte (image net kinds (tables_of net kinds book)) own.bytes) same in
    ap (image_reading net kinds) is ∙ own.read
