-- The bytes of an image can be read off its text: past the first line end, the digits of all lines in turn.
use Rattle.std.proofs.Common.{◌≡◌, ◌∙◌, ℕ, zero, suc, ◌+◌, ◌*◌, ◌/◌, ◌%◌, ◌≤◌, Bool, true, false, not, eqb, List, [], ◌∷◌, ◌++◌, take, drop, length, codes, IsTrue, Result, Ok, refl, sym, ap, arith, tests, append_assoc, append-nil, slice_index}
use Rattle.std.specs.Fmt.{decimal}
use Rattle.std.specs.List.{filter, list_all}
use Rattle.std.proofs.lemmas.List.{length-drop, take-append-drop}
use Rattle.std.proofs.lemmas.List.Elements.{filter-append}
use Rattle.std.proofs.lemmas.List.Sums.{list_all-from_AllPass}
use Rattle.hex.specs.Hex.{IsBytes, decode_of, encode_lower, encode_with, is_hex_digit, lower_digits}
use Rattle.hex.proofs.HexLemmas.{decode_of-encode_lower, decode_of-ok}
use Rattle.dn_base.proofs.Booleans.{and_parts}
use Rattle.dn_base.proofs.Lists.{nil_from_length}
use Rattle.dn_token.specs.Token.{is_digit}
use Rattle.dn_print.specs.Dump.{DumpIsOne, dump_text, line_text, lines_of, lines_text}
use Rattle.dn_print.proofs.Digits.{decimal_digits}

-- the byte ends no line
abbrev stays : ℕ → Bool
stays c = not (eqb c 10)

digit_stays : (c : ℕ) → is_hex_digit c ≡ true → stays c ≡ true
digit_stays c h = grind (arith, tests)

digit_ends_none : (c : ℕ) → is_digit c ≡ true → eqb c 10 ≡ false
digit_ends_none c h = grind (arith, tests)

first_same : (a b : ℕ) (xs ys : List ℕ) → a ∷ xs ≡ b ∷ ys → a ≡ b
first_same a b xs ys e = cc e

rest_same : (a b : ℕ) (xs ys : List ℕ) → a ∷ xs ≡ b ∷ ys → xs ≡ ys
rest_same a b xs ys e = cc e

-- two texts of digits, each with a line end and more after it, are one only where what follows is
past_line : (xs ys us vs : List ℕ) → IsTrue (list_all is_digit xs) → IsTrue (list_all is_digit ys) → xs ++ 10 ∷ us ≡ ys ++ 10 ∷ vs → us ≡ vs
past_line [] [] us vs x y e = rest_same 10 10 us vs e
past_line [] (b ∷ ys) us vs x y e =
    let no = digit_ends_none b (and_parts (is_digit b) (list_all is_digit ys) y).0 in
    let is : 10 ≡ b = first_same 10 b us (ys ++ 10 ∷ vs) e in
    absurd (cc (no, is))
past_line (a ∷ xs) [] us vs x y e =
    let no = digit_ends_none a (and_parts (is_digit a) (list_all is_digit xs) x).0 in
    let is : a ≡ 10 = first_same a 10 (xs ++ 10 ∷ us) vs e in
    absurd (cc (no, is))
past_line (a ∷ xs) (b ∷ ys) us vs x y e = past_line xs ys us vs (and_parts (is_digit a) (list_all is_digit xs) x).1 (and_parts (is_digit b) (list_all is_digit ys) y).1 (rest_same a b (xs ++ 10 ∷ us) (ys ++ 10 ∷ vs) e)

-- digits are none of a line's end
all_stay : (xs : List ℕ) → IsTrue (list_all is_hex_digit xs) → filter stays xs ≡ xs
all_stay [] h = refl
all_stay (c ∷ xs) h =
    let p = and_parts (is_hex_digit c) (list_all is_hex_digit xs) h in
    let e = digit_stays c p.0 in
    rw e (ap (λ l. c ∷ l) (all_stay xs p.1))

encoded_stay : (xs : List ℕ) → IsBytes xs → filter stays (encode_lower xs) ≡ encode_lower xs
encoded_stay xs h = all_stay (encode_lower xs) (list_all-from_AllPass is_hex_digit (encode_lower xs) (decode_of-ok (encode_lower xs) xs (decode_of-encode_lower xs h)).1)

encoded_behind : (xs ys : List ℕ) → encode_with lower_digits (xs ++ ys) ≡ encode_with lower_digits xs ++ encode_with lower_digits ys
unfolding encode_with
encoded_behind [] ys = refl
encoded_behind (x ∷ xs) ys = ap (λ l. slice_index lower_digits (x / 16) ∷ slice_index lower_digits (x % 16) ∷ l) (encoded_behind xs ys)

no_digits : filter stays (encode_with lower_digits []) ≡ []
unfolding encode_with
no_digits = refl

-- the digits of so many lines are those of their bytes
lines_are : (n : ℕ) (xs : List ℕ) → length xs ≤ 32 * n → filter stays (lines_of n xs) ≡ filter stays (encode_lower xs)
lines_are zero xs l =
    let none : xs ≡ [] = nil_from_length xs (omega (arith, l)) in
    let empty : filter stays (encode_lower []) ≡ [] = no_digits in
    sym (ap (λ x. filter stays (encode_lower x)) none ∙ empty)
lines_are (suc n) xs l =
    let front : List ℕ = take 32 xs in
    let later : List ℕ = drop 32 xs in
    let size = length-drop 32 xs in
    let whole : front ++ later ≡ xs = take-append-drop 32 xs in
    filter-append stays (line_text front) (lines_of n later)
    ∙ ap (λ t. t ++ filter stays (lines_of n later)) (filter-append stays (encode_lower front) (codes "\n") ∙ append-nil (filter stays (encode_lower front)))
    ∙ ap (λ t. filter stays (encode_lower front) ++ t) (lines_are n later (omega (arith, size, l)))
    ∙ sym (filter-append stays (encode_lower front) (encode_lower later))
    ∙ ap (filter stays) (sym (encoded_behind front later) ∙ ap encode_lower whole)

lines_stay : (xs : List ℕ) → IsBytes xs → filter stays (lines_text xs) ≡ encode_lower xs
lines_stay xs h = lines_are ((length xs + 31) / 32) xs (omega arith) ∙ encoded_stay xs h

-- a text of an image past its first word
after_word : (xs : List ℕ) → drop 11 (dump_text xs) ≡ decimal (length xs) ++ 10 ∷ lines_text xs
after_word xs = append_assoc (decimal (length xs)) (codes "\n") (lines_text xs)

pub dump_is_one : DumpIsOne
dump_is_one image other a b e =
    let lines : lines_text image ≡ lines_text other = past_line (decimal (length image)) (decimal (length other)) (lines_text image) (lines_text other) (decimal_digits (length image)) (decimal_digits (length other)) (sym (after_word image) ∙ ap (drop 11) e ∙ after_word other) in
    let digits : encode_lower image ≡ encode_lower other = sym (lines_stay image a) ∙ ap (filter stays) lines ∙ lines_stay other b in
    let both : ◌≡◌ {A = Result (List ℕ) _} (Ok image) (Ok other) = sym (decode_of-encode_lower image a) ∙ ap decode_of digits ∙ decode_of-encode_lower other b in
    cc both
