-- Numbers in little-endian bytes.
use Rattle.std.specs.Prelude.{◌≡◌, ℕ, zero, suc, ◌<◌, List, [], ◌∷◌, drop, length}
use Rattle.std.specs.List.{AllByRecursion, flat_map}
use Rattle.byteorder.specs.Endian.{little_bytes, little_number}

-- the bytes of words, one word after the other
abbrev pub word_bytes : List ℕ → List ℕ
word_bytes ws = flat_map (little_bytes 8) ws

-- so many words that bytes spell
abbrev pub words_spelled : ℕ → List ℕ → List ℕ
words_spelled zero bytes = []
words_spelled (suc n) bytes = little_number 8 bytes ∷ words_spelled n (drop 8 bytes)

-- each is a byte
abbrev pub AreBytes : List ℕ → Type 0
AreBytes bytes = AllByRecursion (λ b. b < 256) bytes

-- Bytes are those of the number that they spell.
abbrev pub BytesOfNumber : Type 0
BytesOfNumber = (n : ℕ) (bytes : List ℕ) → length bytes ≡ n → AreBytes bytes →
    little_bytes n (little_number n bytes) ≡ bytes
