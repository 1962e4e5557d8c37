-- Numbers as they are printed: the tokenizer takes them back, and each byte of them is one of a word.
use Rattle.std.proofs.Common.{◌≡◌, ◌∙◌, ap, sym, refl, subst, ℕ, zero, suc, ◌+◌, ◌*◌, ◌/◌, ◌%◌, ◌^◌, ◌<◌, ◌≤◌, Bool, true, false, cond, ◌&&◌, eqb, List, [], ◌∷◌, ◌++◌, length, codes, Option, Some, IsTrue, arith, tests, ◌-◌, set, drop, nat_lt, slice_index_or, eq-eqb, ne_eqb, ltb-true, mod-lt, pow-suc, div-lt_iff_lt-mul, div-add-mod', eqb-true, lt-ltb}
use Rattle.std.proofs.Math.Nat.{pow-zero}
use Rattle.std.specs.Fmt.{digits, digits_onto, digit_glyph, decimal}
use Rattle.std.specs.List.{list_all}
use Rattle.std.specs.Str.{IsAscii}
use Rattle.std.proofs.lemmas.List.{drop-set, drop_all, append_assoc, append-nil}
use Rattle.std.proofs.lemmas.List.Sums.{AllPass-from_list_all}
use Rattle.std.proofs.lemmas.Str.Ascii.{IsAscii-from_all}
use Rattle.dn_print.specs.Names.{address_text}
use Rattle.dn_token.specs.Token.{hex_value, decimal_value, spelled_from, digits_number, number_within, is_hexadecimal, number_of, is_word_byte, is_digit}
use Rattle.dn_token.proofs.Numbers.{some_digits}
use Rattle.dn_base.proofs.Booleans.{and_parts, and-false}

hex_glyph : (d : ℕ) → d < 16 → hex_value (digit_glyph false d) ≡ Some d
hex_glyph d h = grind (arith, tests)

decimal_glyph : (d : ℕ) → d < 10 → decimal_value (digit_glyph false d) ≡ Some d
decimal_glyph d h = grind (arith, tests)

word_glyph : (d : ℕ) → d < 16 → is_word_byte (digit_glyph false d) ≡ true
word_glyph d h = grind (arith, tests)

digit_glyph_digit : (d : ℕ) → d < 10 → is_digit (digit_glyph false d) ≡ true
digit_glyph_digit d h = grind (arith, tests)

-- the digits are read from the highest on
spelled : (base : ℕ) (value : ℕ → Option ℕ) → 0 < base → ((d : ℕ) → d < base → value (digit_glyph false d) ≡ Some d) → (k n : ℕ) → n < base ^ k → (acc : List ℕ) → spelled_from base value (Some 0) (digits_onto k base false n acc) ≡ spelled_from base value (Some n) acc
spelled base value some glyph zero n h acc =
    let one = pow-zero base in
    let e : 0 ≡ n = omega (arith, one, h) in
    ap (λ (m : ℕ). spelled_from base value (Some m) acc) e
spelled base value some glyph (suc k) n h acc = go (eqb (n / base) 0) refl (spelled base value some glyph k (n / base) below (digit_glyph false (n % base) ∷ acc))
  where
    below : n / base < base ^ k
    below = let p = pow-suc base k in (div-lt_iff_lt-mul some).1 (subst (λ (m : ℕ). n < m) p h)

    step : (m : ℕ) → m ≡ n / base → spelled_from base value (Some m) (digit_glyph false (n % base) ∷ acc) ≡ spelled_from base value (Some n) acc
    step m e =
        let g = glyph (n % base) (mod-lt n some) in
        let d : m * base + n % base ≡ n = ap (λ (q : ℕ). q * base + n % base) e ∙ div-add-mod' n base in
        rw g (ap (λ (q : ℕ). spelled_from base value (Some q) acc) d)

    go : (b : Bool) → eqb (n / base) 0 ≡ b → spelled_from base value (Some 0) (digits_onto k base false (n / base) (digit_glyph false (n % base) ∷ acc)) ≡ spelled_from base value (Some (n / base)) (digit_glyph false (n % base) ∷ acc) → spelled_from base value (Some 0) (cond b (digit_glyph false (n % base) ∷ acc) (digits_onto k base false (n / base) (digit_glyph false (n % base) ∷ acc))) ≡ spelled_from base value (Some n) acc
    go true e more = step 0 (sym (eqb-true (n / base) 0 e))
    go false e more = more ∙ step (n / base) refl

-- there is a digit
longer : (base k n : ℕ) (acc : List ℕ) → length acc ≤ length (digits_onto k base false n acc)
longer base zero n acc = omega arith
longer base (suc k) n acc = go (eqb (n / base) 0) (longer base k (n / base) (digit_glyph false (n % base) ∷ acc))
  where
    go : (b : Bool) → length (digit_glyph false (n % base) ∷ acc) ≤ length (digits_onto k base false (n / base) (digit_glyph false (n % base) ∷ acc)) → length acc ≤ length (cond b (digit_glyph false (n % base) ∷ acc) (digits_onto k base false (n / base) (digit_glyph false (n % base) ∷ acc)))
    go true more = omega arith
    go false more = omega (arith, more)

some_digit : (base k n : ℕ) (acc : List ℕ) → 0 < length (digits_onto (suc k) base false n acc)
some_digit base k n acc = go (eqb (n / base) 0) (longer base k (n / base) (digit_glyph false (n % base) ∷ acc))
  where
    go : (b : Bool) → length (digit_glyph false (n % base) ∷ acc) ≤ length (digits_onto k base false (n / base) (digit_glyph false (n % base) ∷ acc)) → 0 < length (cond b (digit_glyph false (n % base) ∷ acc) (digits_onto k base false (n / base) (digit_glyph false (n % base) ∷ acc)))
    go true more = omega arith
    go false more = omega (arith, more)

-- each byte passes a test that each digit passes
all_pass : (p : ℕ → Bool) (base : ℕ) → 0 < base → ((d : ℕ) → d < base → p (digit_glyph false d) ≡ true) → (k n : ℕ) (acc : List ℕ) → IsTrue (list_all p acc) → IsTrue (list_all p (digits_onto k base false n acc))
all_pass p base some glyph zero n acc h = h
all_pass p base some glyph (suc k) n acc h = go (eqb (n / base) 0) one (all_pass p base some glyph k (n / base) (digit_glyph false (n % base) ∷ acc) one)
  where
    one : IsTrue (list_all p (digit_glyph false (n % base) ∷ acc))
    one = let g = glyph (n % base) (mod-lt n some) in rw g h

    go : (b : Bool) → IsTrue (list_all p (digit_glyph false (n % base) ∷ acc)) → IsTrue (list_all p (digits_onto k base false (n / base) (digit_glyph false (n % base) ∷ acc))) → IsTrue (list_all p (cond b (digit_glyph false (n % base) ∷ acc) (digits_onto k base false (n / base) (digit_glyph false (n % base) ∷ acc))))
    go true first more = first
    go false first more = more

fits_is : (n : ℕ) → n < 2 ^ 64 → number_within (Some n) ≡ Some n
fits_is n fits = let e = lt-ltb n (2 ^ 64) fits in rw e refl

below_hexadecimal : (n : ℕ) → n < 2 ^ 64 → n < 16 ^ 64
below_hexadecimal n h = omega arith

below_decimal : (n : ℕ) → n < 2 ^ 64 → n < 10 ^ 64
below_decimal n h = omega arith

-- a row of decimal digits does not begin with `0x`
second_digit : (b : ℕ) → is_digit b ≡ true → eqb b 120 ≡ false
second_digit b h = grind (arith, tests)

no_prefix : (s : List ℕ) → IsTrue (list_all is_digit s) → is_hexadecimal s ≡ false
no_prefix [] h = refl
no_prefix (a ∷ []) h = and-false (eqb a 48)
no_prefix (a ∷ b ∷ s) h =
    let second = and_parts (is_digit b) (list_all is_digit s) (and_parts (is_digit a) (is_digit b && list_all is_digit s) h).1 in
    let other = second_digit b second.0 in
    rw other (and-false (eqb a 48))

pub decimal_number : (n : ℕ) → n < 2 ^ 64 → number_of (decimal n) ≡ Some n
unfolding number_of digits
decimal_number n h =
    let plain : is_hexadecimal (digits_onto 64 10 false n []) ≡ false = no_prefix (digits_onto 64 10 false n []) (all_pass is_digit 10 (omega arith) digit_glyph_digit 64 n [] refl) in
    let read : digits_number 10 decimal_value (digits_onto 64 10 false n []) ≡ Some n = some_digits 10 decimal_value (digits_onto 64 10 false n []) (some_digit 10 63 n []) ∙ spelled 10 decimal_value (omega arith) decimal_glyph 64 n (below_decimal n h) [] in
    rw plain (ap number_within read ∙ fits_is n h)

pub hexadecimal_number : (n : ℕ) → n < 2 ^ 64 → number_of (codes "0x" ++ digits 16 false n) ≡ Some n
unfolding number_of digits
hexadecimal_number n h =
    let read : digits_number 16 hex_value (digits_onto 64 16 false n []) ≡ Some n = some_digits 16 hex_value (digits_onto 64 16 false n []) (some_digit 16 63 n []) ∙ spelled 16 hex_value (omega arith) hex_glyph 64 n (below_hexadecimal n h) [] in
    ap number_within read ∙ fits_is n h

pub decimal_word : (n : ℕ) → IsTrue (list_all is_word_byte (decimal n))
unfolding digits
decimal_word n = all_pass is_word_byte 10 (omega arith) (λ d h. word_glyph d (omega arith)) 64 n [] refl

pub hexadecimal_word : (n : ℕ) → IsTrue (list_all is_word_byte (digits 16 false n))
unfolding digits
hexadecimal_word n = all_pass is_word_byte 16 (omega arith) word_glyph 64 n [] refl

pub decimal_digits : (n : ℕ) → IsTrue (list_all is_digit (decimal n))
unfolding digits
decimal_digits n = all_pass is_digit 10 (omega arith) digit_glyph_digit 64 n [] refl

pub decimal_some : (n : ℕ) → 0 < length (decimal n)
unfolding digits
decimal_some n = some_digit 10 63 n []

-- digits that are written from the last on, each in front of those behind it

module _ (n : ℕ) (acc : List ℕ) where
  by_test : (k : ℕ) (t : Bool) → eqb (n / 16) 0 ≡ t → digits_onto (suc k) 16 false n acc ≡ cond t (digit_glyph false (n % 16) ∷ acc) (digits_onto k 16 false (n / 16) (digit_glyph false (n % 16) ∷ acc))
  by_test k t e = ap (λ (b : Bool). cond b (digit_glyph false (n % 16) ∷ acc) (digits_onto k 16 false (n / 16) (digit_glyph false (n % 16) ∷ acc))) e

  pub last_digit : (i : ℕ) → 0 < i → n / 16 ≡ 0 → digits_onto i 16 false n acc ≡ digit_glyph false (n % 16) ∷ acc
  last_digit zero h e = absurd (omega arith)
  last_digit (suc k) h e = by_test k true (eq-eqb (n / 16) 0 e)

  pub next_digit : (i : ℕ) → 0 < i → (n / 16 ≡ 0 → ⊥) → digits_onto i 16 false n acc ≡ digits_onto (i - 1) 16 false (n / 16) (digit_glyph false (n % 16) ∷ acc)
  next_digit zero h e = absurd (omega arith)
  next_digit (suc k) h e =
      let less : k ≡ suc k - 1 = omega arith in
      by_test k false (ne_eqb (n / 16) 0 e) ∙ ap (λ (j : ℕ). digits_onto j 16 false (n / 16) (digit_glyph false (n % 16) ∷ acc)) less

-- digits in front of what stands behind them
digits_before : (k n : ℕ) (acc : List ℕ) → digits_onto k 16 false n acc ≡ digits_onto k 16 false n [] ++ acc
digits_before zero n acc = refl
digits_before (suc k) n acc = go (eqb (n / 16) 0) (digits_before k (n / 16) (d ∷ acc) ∙ sym (append_assoc (digits_onto k 16 false (n / 16) []) (d ∷ []) acc) ∙ ap (λ (l : List ℕ). l ++ acc) (sym (digits_before k (n / 16) (d ∷ []))))
  where
    d : ℕ
    d = digit_glyph false (n % 16)

    go : (b : Bool) → digits_onto k 16 false (n / 16) (d ∷ acc) ≡ digits_onto k 16 false (n / 16) (d ∷ []) ++ acc → cond b (d ∷ acc) (digits_onto k 16 false (n / 16) (d ∷ acc)) ≡ cond b (d ∷ []) (digits_onto k 16 false (n / 16) (d ∷ [])) ++ acc
    go true more = refl
    go false more = more

pub address_before : (n : ℕ) (acc : List ℕ) → 48 ∷ 120 ∷ digits_onto 64 16 false n acc ≡ address_text n ++ acc
unfolding digits
address_before n acc = ap (λ (l : List ℕ). 48 ∷ 120 ∷ l) (digits_before 64 n acc)

pub digit_put : (room : List ℕ) (i x g : ℕ) → 0 < i → i ≤ length room → x ≡ g → drop (i - 1) (set room (i - 1) x) ≡ g ∷ drop i room
digit_put room i x g some l e =
    let back : i - 1 + 1 ≡ i = omega arith in
    drop-set room (i - 1) x (omega arith) ∙ ap (λ j. x ∷ drop j room) back ∙ ap (λ d. d ∷ drop i room) e

below_ascii : (d : ℕ) → d < 16 → nat_lt (digit_glyph false d) 128 ≡ true
below_ascii d h = grind (arith, tests)

all_ascii : (s : List ℕ) → IsTrue (list_all (λ b. nat_lt b 128) s) → IsAscii s
all_ascii s h = IsAscii-from_all s (λ k d l. ltb-true (slice_index_or s k d) 128 (AllPass-from_list_all (λ b. nat_lt b 128) s h k d l))

address_passes : (n : ℕ) (acc : List ℕ) → IsTrue (list_all (λ b. nat_lt b 128) acc) → IsTrue (list_all (λ b. nat_lt b 128) (address_text n ++ acc))
address_passes n acc h = subst (λ (l : List ℕ). IsTrue (list_all (λ b. nat_lt b 128) l)) (address_before n acc) (all_pass (λ b. nat_lt b 128) 16 (omega arith) below_ascii 64 n acc h)

pub span_ascii : (lo hi : ℕ) → IsAscii (address_text lo ++ (codes "-" ++ (address_text hi ++ codes " ")))
span_ascii lo hi = all_ascii (address_text lo ++ (codes "-" ++ (address_text hi ++ codes " "))) (address_passes lo (codes "-" ++ (address_text hi ++ codes " ")) (address_passes hi (codes " ") refl))

pub at_ascii : (n : ℕ) → IsAscii (codes "@" ++ address_text n)
unfolding digits
at_ascii n = all_ascii (64 ∷ 48 ∷ 120 ∷ digits_onto 64 16 false n []) (all_pass (λ b. nat_lt b 128) 16 (omega arith) below_ascii 64 n [] refl)

pub at_text : (before room : List ℕ) (first n : ℕ) → drop first room ≡ address_text n ++ drop 134 before → 0 < first → first ≤ length room → length before ≤ 134 → drop (first - 1) (set room (first - 1) 64) ≡ codes "@" ++ address_text n
at_text before room first n e some within short =
    digit_put room first 64 64 some within refl ∙ ap (λ (l : List ℕ). 64 ∷ l) (e ∙ ap (λ (l : List ℕ). address_text n ++ l) (drop_all 134 before short) ∙ append-nil (address_text n))

pub span_text : (zeros between room : List ℕ) (second start lo hi : ℕ) → drop second between ≡ address_text hi ++ drop 133 (set zeros 133 32) → drop start room ≡ address_text lo ++ drop (second - 1) (set between (second - 1) 45) → length zeros ≡ 134 → length between ≡ 134 → 0 < second → second ≤ 134 → drop start room ≡ address_text lo ++ (codes "-" ++ (address_text hi ++ codes " "))
span_text zeros between room second start lo hi e f long same some within =
    let space : drop 133 (set zeros 133 32) ≡ 32 ∷ [] = digit_put zeros 134 32 32 (omega arith) (omega (arith, long)) refl ∙ ap (λ (l : List ℕ). 32 ∷ l) (drop_all 134 zeros (omega (arith, long))) in
    let dash = digit_put between second 45 45 some (omega (arith, same, within)) refl in
    f ∙ ap (λ (l : List ℕ). address_text lo ++ l) (dash ∙ ap (λ (l : List ℕ). 45 ∷ l) (e ∙ ap (λ (l : List ℕ). address_text hi ++ l) space))
