-- Numbers in hexadecimal digits, by the mark in front of them.
use Rattle.std.proofs.Common.{◌≡◌, ap, refl, sym, subst, ℕ, zero, suc, ◌+◌, ◌≤◌, Bool, true, false, ◌&&◌, eqb, eqb-true, List, [], ◌∷◌, length, take, drop, arith}
use Rattle.std.specs.List.{prefix_len}
use Rattle.dn_base.proofs.Booleans.{and_parts, and-false}
use Rattle.dn_token.specs.Token.{after_run, decimal_value, digits_number, hex_value, is_hexadecimal, is_word_byte, number_of, number_within, word_run}
use Rattle.dn_token.specs.Lexing.{begins_hexadecimal}

-- A text begins with the mark, and its run is the mark and the run behind it.
pub record Marked (s : List ℕ) : Type 0 where
  pub long : 2 ≤ length s
  pub run : word_run s ≡ 48 ∷ 120 ∷ word_run (drop 2 s)
  pub rest : after_run s ≡ after_run (drop 2 s)

two_more : (n : ℕ) → 1 + (1 + n) ≡ suc (suc n)
two_more n = omega arith

mark : (s : List ℕ) → Marked (48 ∷ 120 ∷ s)
mark s = record {
  long = omega arith;
  run = ap (λ (k : ℕ). take k (48 ∷ 120 ∷ s)) (two_more (prefix_len is_word_byte s));
  rest = ap (λ (k : ℕ). drop k (48 ∷ 120 ∷ s)) (two_more (prefix_len is_word_byte s));
}

pub marked : (s : List ℕ) → begins_hexadecimal s ≡ true → Marked s
marked [] h = cc
marked (a ∷ []) h = let f = and-false (eqb a 48) in cc
marked (a ∷ b ∷ s) h =
    let parts = and_parts (eqb a 48) (eqb b 120) h in
    subst (λ (x : ℕ). Marked (x ∷ b ∷ s)) (sym (eqb-true a 48 parts.0)) (subst (λ (y : ℕ). Marked (48 ∷ y ∷ s)) (sym (eqb-true b 120 parts.1)) (mark s))

pub marked_number : (w : List ℕ) → number_of (48 ∷ 120 ∷ w) ≡ number_within (digits_number 16 hex_value w)
unfolding number_of
marked_number w = refl

not_both : (p q : Bool) → (p && q) ≡ false → (p && (q && true)) ≡ false
not_both true true h = h
not_both true false h = refl
not_both false q h = refl

unmarked : (n : ℕ) (s : List ℕ) → begins_hexadecimal s ≡ false → is_hexadecimal (take n s) ≡ false
unmarked zero s h = refl
unmarked (suc n) [] h = refl
unmarked (suc zero) (a ∷ s) h = and-false (eqb a 48)
unmarked (suc (suc n)) (a ∷ []) h = and-false (eqb a 48)
unmarked (suc (suc n)) (a ∷ b ∷ s) h = not_both (eqb a 48) (eqb b 120) h

pub plain_number : (s : List ℕ) → begins_hexadecimal s ≡ false → number_of (word_run s) ≡ number_within (digits_number 10 decimal_value (word_run s))
unfolding number_of
plain_number s h = let plain = unmarked (prefix_len is_word_byte s) s h in rw plain refl
