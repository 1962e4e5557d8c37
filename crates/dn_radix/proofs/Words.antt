-- Words in their bytes.
use Rattle.std.proofs.Common.{◌≡◌, ℕ, zero, suc, ◌+◌, ◌*◌, ◌^◌, ◌<◌, List, [], ◌∷◌, ◌++◌, length, drop, get_or, replicate, refl, sym, ap, ◌∙◌, arith, length-append}
use Rattle.std.proofs.lemmas.List.{drop-drop, drop_at}
use Rattle.std.proofs.lemmas.Grind.{flat_map-append}
use Rattle.byteorder.specs.Endian.{little_number, little_bytes}
use Rattle.byteorder.specs.Numbers.{little_number-reads_back, length-bytes_low_first}
use Rattle.dn_radix.specs.Tree.{joined_bytes}
use Rattle.dn_radix.specs.Found.{word_in_bytes}

pub length_words : (ws : List ℕ) → length (joined_bytes ws) ≡ 8 * length ws
length_words [] = refl
length_words (w ∷ ws) =
    let a : length (little_bytes 8 w ++ joined_bytes ws) ≡ length (little_bytes 8 w) + length (joined_bytes ws) = length-append (little_bytes 8 w) (joined_bytes ws) in
    let b : length (little_bytes 8 w) ≡ 8 = length-bytes_low_first 0 8 w in
    let ih = length_words ws in
    omega arith

-- the bytes of two lists
pub bytes_both : (ws vs : List ℕ) → joined_bytes (ws ++ vs) ≡ joined_bytes ws ++ joined_bytes vs
bytes_both ws vs = flat_map-append (little_bytes 8) ws vs

-- the bytes of zeros
pub bytes_of_zeros : (n : ℕ) → joined_bytes (replicate {A = ℕ} n 0) ≡ replicate {A = ℕ} (8 * n) 0
bytes_of_zeros zero = refl
bytes_of_zeros (suc n) =
    let e : suc (suc (suc (suc (suc (suc (suc (suc (8 * n)))))))) ≡ 8 * suc n = omega arith in
    ap (λ (l : List ℕ). little_bytes 8 0 ++ l) (bytes_of_zeros n) ∙ ap (λ m. replicate {A = ℕ} m 0) e

-- a word is read at its place
pub word_there : (ws : List ℕ) (k place : ℕ) → k < length ws → get_or ws k 0 < 2 ^ 64 → place ≡ 8 * k → word_in_bytes (joined_bytes ws) place ≡ get_or ws k 0
word_there [] k place l small e = absurd (omega arith)
word_there (w ∷ ws) zero place l small e =
    let z : place ≡ 0 = omega arith in
    ap (word_in_bytes (joined_bytes (w ∷ ws))) z ∙ little_number-reads_back 8 w (joined_bytes ws) small
word_there (w ∷ ws) (suc k) place l small e =
    let b : length (little_bytes 8 w) ≡ 8 = length-bytes_low_first 0 8 w in
    let z : place ≡ 8 + 8 * k = omega arith in
    ap (word_in_bytes (joined_bytes (w ∷ ws))) z
    ∙ ap (little_number 8) (sym (drop-drop (8 * k) 8 (little_bytes 8 w ++ joined_bytes ws)) ∙ ap (drop (8 * k)) (drop_at (little_bytes 8 w) (joined_bytes ws) 8 b))
    ∙ word_there ws k (8 * k) (omega arith) small refl
