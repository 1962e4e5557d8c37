-- Bytes of numbers, and words of bytes.
use Rattle.std.proofs.Common.{◌≡◌, ℕ, zero, suc, ◌+◌, ◌-◌, ◌*◌, ◌/◌, ◌%◌, ◌^◌, ◌<◌, ◌≤◌, List, [], ◌∷◌, ◌++◌, length, take, drop, slice_index, nat_lt, IsTrue, refl, sym, ap, ◌∙◌, arith, ltb-true, lt-ltb, length-append, length-drop, append_assoc, append-nil}
use Rattle.std.proofs.Math.Nat.{div-div-eq-div-mul, pow-succ'}
use Rattle.std.proofs.lemmas.List.{drop_at, drop-drop, length-take-le, take-append-drop}
use Rattle.std.specs.Int.{byte_at, bytes_low_first}
use Rattle.std.specs.List.{list_all}
use Rattle.byteorder.specs.Endian.{little_from, little_number, little_bytes}
use Rattle.byteorder.specs.Numbers.{little_from-cons, little_from-append, little_from-lt, little_number-reads_back, length-bytes_low_first}
use Rattle.dn_base.proofs.Booleans.{and_parts, and_from}
use Rattle.dn_kind.specs.Tables.{slot_words}
use Rattle.dn_image.specs.Bytes.{word_bytes, words_spelled, AreBytes, BytesOfNumber}

-- the bytes from the second on are those of what is left of the number
byte_moved : (i b y : ℕ) → b < 256 → byte_at (suc i) (b + 256 * y) ≡ byte_at i y
byte_moved zero b y l = omega arith
byte_moved (suc i) b y l =
    let whole : (b + 256 * y) / 256 ≡ y = omega arith in
    ap (λ p. (b + 256 * y) / p % 256) (pow-succ' 256 (suc i))
    ∙ ap (λ p. p % 256) (sym (div-div-eq-div-mul (b + 256 * y) 256 (256 ^ suc i)))
    ∙ ap (λ p. p / 256 ^ suc i % 256) whole

bytes_moved : (n i b y : ℕ) → b < 256 → bytes_low_first (suc i) n (b + 256 * y) ≡ bytes_low_first i n y
bytes_moved zero i b y l = refl
bytes_moved (suc n) i b y l = ap (λ c. c ∷ bytes_low_first (suc (suc i)) n (b + 256 * y)) (byte_moved i b y l) ∙ ap (λ (r : List ℕ). byte_at i y ∷ r) (bytes_moved n (suc i) b y l)

pub bytes_of_number : BytesOfNumber
bytes_of_number zero [] e all = refl
bytes_of_number zero (b ∷ bs) e all = absurd (omega arith)
bytes_of_number (suc n) [] e all = absurd (omega arith)
bytes_of_number (suc n) (b ∷ bs) e all =
    let l : b < 256 = all.0 in
    let rest : little_from 1 n (b ∷ bs) ≡ little_from 0 n bs = little_from-cons 0 n b bs in
    let first : (b + 256 * little_from 0 n bs) % 256 ≡ b = omega arith in
    ap (λ y. bytes_low_first 0 (suc n) (b + 256 * y)) rest
    ∙ ap (λ c. c ∷ bytes_low_first 1 n (b + 256 * little_from 0 n bs)) first
    ∙ ap (λ (r : List ℕ). b ∷ r) (bytes_moved n 0 b (little_from 0 n bs) l)
    ∙ ap (λ (r : List ℕ). b ∷ r) (bytes_of_number n bs (omega arith) all.1)

-- bytes that are left of bytes, and the first of them
pub bytes_left : (n : ℕ) (bs : List ℕ) → AreBytes bs → AreBytes (drop n bs)
bytes_left zero bs all = all
bytes_left (suc n) [] all = all
bytes_left (suc n) (b ∷ bs) all = bytes_left n bs all.1

pub bytes_front : (n : ℕ) (bs : List ℕ) → AreBytes bs → AreBytes (take n bs)
bytes_front zero bs all = tt
bytes_front (suc n) [] all = tt
bytes_front (suc n) (b ∷ bs) all = (all.0, bytes_front n bs all.1)

-- the number of the first bytes
pub number_of_front : (n : ℕ) (bs : List ℕ) → n ≤ length bs → little_number n (take n bs) ≡ little_number n bs
number_of_front n bs l =
    sym (little_from-append n (take n bs) (drop n bs) (let e = length-take-le n bs l in omega arith))
    ∙ ap (little_number n) (take-append-drop n bs)

-- a word, and the bytes behind it
pub word_again : (w : ℕ) (rest : List ℕ) → w < 2 ^ 64 → little_number 8 (little_bytes 8 w ++ rest) ≡ w
word_again w rest l = little_number-reads_back 8 w rest l

pub length_word : (w : ℕ) → length (little_bytes 8 w) ≡ 8
length_word w = length-bytes_low_first 0 8 w

-- each word has eight bytes
pub length_words : (ws : List ℕ) → length (word_bytes ws) ≡ 8 * length ws
length_words [] = refl
length_words (w ∷ ws) =
    let a : length (little_bytes 8 w ++ word_bytes ws) ≡ length (little_bytes 8 w) + length (word_bytes ws) = length-append (little_bytes 8 w) (word_bytes ws) in
    let b : length (little_bytes 8 w) ≡ 8 = length_word w in
    let ih = length_words ws in
    omega arith

-- the words whose bytes stand first are read
pub words_again : (ws rest : List ℕ) → IsTrue (list_all (λ w. nat_lt w (2 ^ 64)) ws) → words_spelled (length ws) (word_bytes ws ++ rest) ≡ ws
words_again [] rest all = refl
words_again (w ∷ ws) rest all =
    let b = and_parts (nat_lt w (2 ^ 64)) (list_all (λ v. nat_lt v (2 ^ 64)) ws) all in
    let joined : (little_bytes 8 w ++ word_bytes ws) ++ rest ≡ little_bytes 8 w ++ (word_bytes ws ++ rest) = append_assoc (little_bytes 8 w) (word_bytes ws) rest in
    ap (words_spelled (suc (length ws))) joined
    ∙ ap (λ n. n ∷ words_spelled (length ws) (drop 8 (little_bytes 8 w ++ (word_bytes ws ++ rest)))) (word_again w (word_bytes ws ++ rest) (ltb-true w (2 ^ 64) b.0))
    ∙ ap (λ (bs : List ℕ). w ∷ words_spelled (length ws) bs) (drop_at (little_bytes 8 w) (word_bytes ws ++ rest) 8 (length_word w))
    ∙ ap (λ (l : List ℕ). w ∷ l) (words_again ws rest b.1)

take_none : (k : ℕ) → take {A = ℕ} k [] ≡ []
take_none zero = refl
take_none (suc k) = refl

-- bytes are those of the words that they spell
pub bytes_of_words : (n : ℕ) (bs : List ℕ) → 8 * n ≤ length bs → AreBytes bs → word_bytes (words_spelled n bs) ≡ take (8 * n) bs
bytes_of_words zero bs l all = refl
bytes_of_words (suc n) bs l all =
    let more : 8 * suc n ≡ 8 + 8 * n = omega arith in
    let d : length (drop 8 bs) ≡ length bs - 8 = length-drop 8 bs in
    let front : length (take 8 bs) ≡ 8 = length-take-le 8 bs (omega arith) in
    let first : little_bytes 8 (little_number 8 bs) ≡ take 8 bs = ap (little_bytes 8) (sym (number_of_front 8 bs (omega arith))) ∙ bytes_of_number 8 (take 8 bs) front (bytes_front 8 bs all) in
    ap (λ (b : List ℕ). b ++ word_bytes (words_spelled n (drop 8 bs))) first
    ∙ ap (λ (b : List ℕ). take 8 bs ++ b) (bytes_of_words n (drop 8 bs) (omega arith) (bytes_left 8 bs all))
    ∙ front_then 8 (8 * n) bs
    ∙ ap (λ k. take k bs) (sym more)
  where
    front_then : (a b : ℕ) (xs : List ℕ) → take a xs ++ take b (drop a xs) ≡ take (a + b) xs
    front_then zero b xs = let e : 0 + b ≡ b = omega arith in ap (λ k. take k xs) (sym e)
    front_then (suc a) b [] = take_none b ∙ sym (take_none (suc a + b))
    front_then (suc a) b (x ∷ xs) =
        let e : suc a + b ≡ suc (a + b) = omega arith in
        ap (λ (l : List ℕ). x ∷ l) (front_then a b xs) ∙ ap (λ k. take k (x ∷ xs)) (sym e)

-- words that are spelled are so many, each below 2^64
pub length_spelled : (n : ℕ) (bs : List ℕ) → length (words_spelled n bs) ≡ n
length_spelled zero bs = refl
length_spelled (suc n) bs = ap suc (length_spelled n (drop 8 bs))

byte_small : (bs : List ℕ) (k : ℕ) → AreBytes bs → slice_index bs k < 256
byte_small [] k all = omega arith
byte_small (b ∷ bs) zero all = all.0
byte_small (b ∷ bs) (suc k) all = byte_small bs k all.1

pub spelled_small : (n : ℕ) (bs : List ℕ) → AreBytes bs → IsTrue (list_all (λ w. nat_lt w (2 ^ 64)) (words_spelled n bs))
spelled_small zero bs all = refl
spelled_small (suc n) bs all =
    and_from (nat_lt (little_number 8 bs) (2 ^ 64)) (list_all (λ w. nat_lt w (2 ^ 64)) (words_spelled n (drop 8 bs)))
    (lt-ltb (little_number 8 bs) (2 ^ 64) (little_from-lt 0 8 bs (λ k. byte_small bs k all)))
    (spelled_small n (drop 8 bs) (bytes_left 8 bs all))

-- words read so far, and those to come

-- one word more
pub spelled_next : (count i w : ℕ) (bytes read read' : List ℕ) → i < count → read ++ words_spelled (count - i) (drop (8 * i) bytes) ≡ words_spelled count bytes → read' ≡ read ++ w ∷ [] → w ≡ little_number 8 (drop (8 * i) bytes) → read' ++ words_spelled (count - (i + 1)) (drop (8 * (i + 1)) bytes) ≡ words_spelled count bytes
spelled_next count i w bytes read read' l so_far more e =
    let left : count - i ≡ suc (count - (i + 1)) = omega arith in
    let place : 8 * i + 8 ≡ 8 * (i + 1) = omega arith in
    let next : List ℕ = words_spelled (count - (i + 1)) (drop (8 * (i + 1)) bytes) in
    ap (λ (r : List ℕ). r ++ next) more
    ∙ append_assoc read (w ∷ []) next
    ∙ ap (λ v. read ++ (v ∷ next)) e
    ∙ ap (λ (b : List ℕ). read ++ (little_number 8 (drop (8 * i) bytes) ∷ words_spelled (count - (i + 1)) b)) (ap (λ k. drop k bytes) (sym place) ∙ sym (drop-drop 8 (8 * i) bytes))
    ∙ ap (λ k. read ++ words_spelled k (drop (8 * i) bytes)) (sym left)
    ∙ so_far

-- all were read
pub spelled_last : (count i : ℕ) (bytes read : List ℕ) → count ≤ i → read ++ words_spelled (count - i) (drop (8 * i) bytes) ≡ words_spelled count bytes → read ≡ words_spelled count bytes
spelled_last count i bytes read l so_far =
    let none : count - i ≡ 0 = omega arith in
    sym (append-nil read) ∙ ap (λ k. read ++ words_spelled k (drop (8 * i) bytes)) (sym none) ∙ so_far

-- the first of words that are spelled, and those behind them

pub take_spelled : (w n : ℕ) (bs : List ℕ) → w ≤ n → take w (words_spelled n bs) ≡ words_spelled w bs
take_spelled zero n bs l = refl
take_spelled (suc w) zero bs l = absurd (omega arith)
take_spelled (suc w) (suc n) bs l = ap (λ (r : List ℕ). little_number 8 bs ∷ r) (take_spelled w n (drop 8 bs) (omega arith))

pub drop_spelled : (k n : ℕ) (bs : List ℕ) → k ≤ n → drop k (words_spelled n bs) ≡ words_spelled (n - k) (drop (8 * k) bs)
drop_spelled zero n bs l = let e : n ≡ n - 0 = omega arith in ap (λ m. words_spelled m bs) e
drop_spelled (suc k) zero bs l = absurd (omega arith)
drop_spelled (suc k) (suc n) bs l =
    let e : n - k ≡ suc n - suc k = omega arith in
    let f : 8 + 8 * k ≡ 8 * suc k = omega arith in
    drop_spelled k n (drop 8 bs) (omega arith)
    ∙ ap (λ m. words_spelled m (drop (8 * k) (drop 8 bs))) e
    ∙ ap (words_spelled (suc n - suc k)) (drop-drop (8 * k) 8 bs ∙ ap (λ m. drop m bs) f)

-- the words of a slot are spelled at its place
pub slot_spelled : (w n slot : ℕ) (bs : List ℕ) → slot * w + w ≤ n → slot_words w (words_spelled n bs) slot ≡ words_spelled w (drop (8 * (slot * w)) bs)
slot_spelled w n slot bs l = ap (take w) (drop_spelled (slot * w) n bs (omega arith)) ∙ take_spelled w (n - slot * w) (drop (8 * (slot * w)) bs) (omega arith)
