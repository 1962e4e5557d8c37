-- Numbers: what a digit more makes of the number so far.
use Rattle.std.proofs.Common.{◌≡◌, ◌∙◌, ap, refl, ℕ, ◌+◌, ◌*◌, ◌^◌, ◌<◌, ◌≤◌, true, List, [], ◌∷◌, length, get_or, drop, suc, Option, Some, None, arith}
use Rattle.std.proofs.Math.Nat.{mul-le-mul_right}
use Rattle.std.proofs.lemmas.Bool.{le-ltb}
use Rattle.std.specs.List.{prefix_len}
use Rattle.std.proofs.lemmas.List.{get_or-take}
use Rattle.std.proofs.lemmas.List.Sums.{prefix_len-drop_yes}
use Rattle.std.proofs.lemmas.List.Folds.{length-prefix_len}
use Rattle.std.proofs.Math.Seq.{drop-cons}
use Rattle.dn_token.specs.declared.number.Radix.{Radix}
use Rattle.dn_token.specs.declared.number.Radix.TheVariants.{Decimal, Hexadecimal}
use Rattle.dn_token.specs.Token.{spelled_from, with_digit, number_within, digits_number, is_word_byte, word_run}
use Rattle.dn_token.specs.Lexing.{base_of}

-- there is a digit
pub some_base : (radix : Radix) → 1 ≤ base_of radix
some_base Decimal = omega arith
some_base Hexadecimal = omega arith

-- no number comes back
none_stays : (base : ℕ) (value : ℕ → Option ℕ) (s : List ℕ) → spelled_from base value None s ≡ None
none_stays base value [] = refl
none_stays base value (b ∷ s) = none_stays base value s

no_digit : (base : ℕ) (value : ℕ → Option ℕ) (s : List ℕ) → number_within (spelled_from base value None s) ≡ None
no_digit base value s = ap number_within (none_stays base value s)

grows : (base n d : ℕ) → 1 ≤ base → n ≤ n * base + d
grows base n d h = grind (arith, mul-le-mul_right)

-- a number that is too large stays so
too_large : (base : ℕ) (value : ℕ → Option ℕ) (n : ℕ) (s : List ℕ) → 1 ≤ base → 2 ^ 64 ≤ n → number_within (spelled_from base value (Some n) s) ≡ None
too_large base value n [] h large = let e = le-ltb n (2 ^ 64) large in rw e refl
too_large base value n (b ∷ s) h large = go (value b) (λ m. too_large base value m s h) where
  go : (v : Option ℕ) → ((m : ℕ) → 2 ^ 64 ≤ m → number_within (spelled_from base value (Some m) s) ≡ None) → number_within (spelled_from base value (with_digit base n v) s) ≡ None
  go None more = no_digit base value s
  go (Some d) more = more (n * base + d) (omega (arith, grows base n d h))

pub some_digits : (base : ℕ) (value : ℕ → Option ℕ) (s : List ℕ) → 0 < length s → digits_number base value s ≡ spelled_from base value (Some 0) s
some_digits base value [] h = absurd (omega arith)
some_digits base value (b ∷ s) h = refl

-- the run at the front of a text, by the length of what is gone through of it

run_length : (s : List ℕ) → length (word_run s) ≡ prefix_len is_word_byte s
run_length s = length-prefix_len is_word_byte s

module _ (base : ℕ) (value : ℕ → Option ℕ) (s : List ℕ) (n i : ℕ) (within : i < length s) (passed : prefix_len is_word_byte s ≡ i + prefix_len is_word_byte (drop i s)) (is : is_word_byte (get_or s i 0) ≡ true) where
  one_more : prefix_len is_word_byte (drop i s) ≡ 1 + prefix_len is_word_byte (drop (i + 1) s)
  one_more = prefix_len-drop_yes is_word_byte s i 0 within is

  -- one byte more of the run is gone through
  pub passed_one : prefix_len is_word_byte s ≡ i + 1 + prefix_len is_word_byte (drop (i + 1) s)
  passed_one = omega (arith, passed, one_more)

  in_run : i < length (word_run s)
  in_run = omega (arith, passed, one_more, run_length s)

  same_byte : get_or (word_run s) i 0 ≡ get_or s i 0
  same_byte = get_or-take (prefix_len is_word_byte s) s i 0 (omega (arith, passed, one_more))

  -- the digits so far, and the next byte of the run
  pub next_byte : number_within (spelled_from base value (Some n) (drop i (word_run s))) ≡ number_within (spelled_from base value (with_digit base n (value (get_or s i 0))) (drop (i + 1) (word_run s)))
  next_byte =
      let next : suc i ≡ i + 1 = omega arith in
      ap (λ (t : List ℕ). number_within (spelled_from base value (Some n) t)) (drop-cons (word_run s) i 0 in_run)
      ∙ ap (λ (b : ℕ). number_within (spelled_from base value (with_digit base n (value b)) (drop (suc i) (word_run s)))) same_byte
      ∙ ap (λ (k : ℕ). number_within (spelled_from base value (with_digit base n (value (get_or s i 0))) (drop k (word_run s)))) next

  pub run_stops : number_within (spelled_from base value (Some 0) (word_run s)) ≡ number_within (spelled_from base value (Some n) (drop i (word_run s))) → number_within (spelled_from base value (with_digit base n (value (get_or s i 0))) (drop (i + 1) (word_run s))) ≡ None → number_within (digits_number base value (word_run s)) ≡ None
  run_stops before stop = ap number_within (some_digits base value (word_run s) (omega (arith, in_run))) ∙ before ∙ next_byte ∙ stop

-- no digit stands where the run goes on
pub no_digit_value : (base : ℕ) (value : ℕ → Option ℕ) (n b : ℕ) (s : List ℕ) → value b ≡ None → number_within (spelled_from base value (with_digit base n (value b)) s) ≡ None
no_digit_value base value n b s is = ap (λ (v : Option ℕ). number_within (spelled_from base value (with_digit base n v) s)) is ∙ no_digit base value s

pub product_past : (base : ℕ) (value : ℕ → Option ℕ) (n b : ℕ) (s : List ℕ) → 1 ≤ base → 2 ^ 64 ≤ n * base → number_within (spelled_from base value (with_digit base n (value b)) s) ≡ None
product_past base value n b s h large = go (value b) where
  go : (v : Option ℕ) → number_within (spelled_from base value (with_digit base n v) s) ≡ None
  go None = no_digit base value s
  go (Some d) = too_large base value (n * base + d) s h (omega arith)

pub sum_past : (base : ℕ) (value : ℕ → Option ℕ) (n b d : ℕ) (s : List ℕ) → 1 ≤ base → value b ≡ Some d → 2 ^ 64 ≤ n * base + d → number_within (spelled_from base value (with_digit base n (value b)) s) ≡ None
sum_past base value n b d s h is large = ap (λ (v : Option ℕ). number_within (spelled_from base value (with_digit base n v) s)) is ∙ too_large base value (n * base + d) s h large
