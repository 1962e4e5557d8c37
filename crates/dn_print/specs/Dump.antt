-- The text of an image: a heading with its number of bytes, and the bytes in hexadecimal.
use Rattle.std.specs.Prelude.{◌≡◌, ℕ, zero, suc, ◌+◌, ◌/◌, List, [], ◌++◌, take, drop, length, codes}
use Rattle.std.specs.Fmt.{decimal}
use Rattle.hex.specs.Hex.{IsBytes, encode_lower}

-- the heading, which has the number of bytes
abbrev pub heading_text : ℕ → List ℕ
heading_text count = codes "dump bytes " ++ (decimal count ++ codes "\n")

-- a line: at most 32 bytes, two digits each
abbrev pub line_text : List ℕ → List ℕ
line_text bytes = encode_lower bytes ++ codes "\n"

-- so many lines of 32 bytes each, of which the last may have fewer
abbrev pub lines_of : ℕ → List ℕ → List ℕ
lines_of zero bytes = []
lines_of (suc count) bytes = line_text (take 32 bytes) ++ lines_of count (drop 32 bytes)

-- the lines of bytes, as many as they need
abbrev pub lines_text : List ℕ → List ℕ
lines_text bytes = lines_of ((length bytes + 31) / 32) bytes

-- the text of an image
abbrev pub dump_text : List ℕ → List ℕ
dump_text image = heading_text (length image) ++ lines_text image

-- Two texts of images that are the same are the text of one image.
abbrev pub DumpIsOne : Type 0
DumpIsOne = (image other : List ℕ) → IsBytes image → IsBytes other → dump_text image ≡ dump_text other → image ≡ other
