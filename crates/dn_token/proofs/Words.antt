-- Words: the reserved words by length, what a word is, and that a run is ASCII.
use Rattle.std.proofs.Common.{◌≡◌, ◌∙◌, ap, refl, sym, subst, ℕ, suc, ◌+◌, ◌<◌, Bool, true, false, cond, eqb, List, [], ◌∷◌, length, take, Option, Some, None, arith, tests}
use Rattle.std.specs.List.{prefix_len}
use Rattle.std.specs.Str.{bytes_eq, IsAscii}
use Rattle.std.proofs.lemmas.Slice.Eq.{bytes_eq-Decides}
use Rattle.std.proofs.lemmas.Bool.{eqb-false}
use Rattle.std.proofs.lemmas.Str.Ascii.{IsAscii-nil, IsAscii-cons}
use Rattle.dn_token.specs.declared.token.Keyword.{Keyword}
use Rattle.dn_token.specs.Token.{Lexeme, word, keyword, word_among, word_lexeme, reserved_words, is_word_byte, word_run}
use Rattle.dn_token.specs.Lexing.{keyword_among, of_length, reserved_word}

-- a word is no other of another length
lengths_differ : (w r : List ℕ) → eqb (length r) (length w) ≡ false → bytes_eq w r ≡ false
lengths_differ w r e = go (bytes_eq w r) refl where
  go : (b : Bool) → bytes_eq w r ≡ b → bytes_eq w r ≡ false
  go true is = absurd (eqb-false (length r) (length w) e (sym (ap length ((bytes_eq-Decides w r).0 is))))
  go false is = is

among_length : (rs : List (List ℕ × Keyword)) (w : List ℕ) → keyword_among rs w ≡ keyword_among (of_length (length w) rs) w
among_length [] w = refl
among_length (r ∷ rs) w = go (eqb (length r.0) (length w)) refl (among_length rs w) where
  go : (b : Bool) → eqb (length r.0) (length w) ≡ b → keyword_among rs w ≡ keyword_among (of_length (length w) rs) w → cond (bytes_eq w r.0) (Some r.1) (keyword_among rs w) ≡ keyword_among (cond b (r ∷ of_length (length w) rs) (of_length (length w) rs)) w
  go true is more = ap (λ (o : Option Keyword). cond (bytes_eq w r.0) (Some r.1) o) more
  go false is more = ap (λ (b : Bool). cond b (Some r.1) (keyword_among rs w)) (lengths_differ w r.0 is) ∙ more

pub by_length : (n : ℕ) (w : List ℕ) → length w ≡ n → keyword_among (of_length n reserved_words) w ≡ reserved_word w
unfolding reserved_word
by_length n w e = sym (among_length reserved_words w ∙ ap (λ (k : ℕ). keyword_among (of_length k reserved_words) w) e)

-- a reserved word, or the word itself
abbrev keyword_or_word : List ℕ → Option Keyword → Lexeme
keyword_or_word w (Some k) = keyword k
keyword_or_word w None = word w

among_is : (rs : List (List ℕ × Keyword)) (w : List ℕ) → word_among rs w ≡ keyword_or_word w (keyword_among rs w)
among_is [] w = refl
among_is (r ∷ rs) w = go (bytes_eq w r.0) (among_is rs w) where
  go : (b : Bool) → word_among rs w ≡ keyword_or_word w (keyword_among rs w) → cond b (keyword r.1) (word_among rs w) ≡ keyword_or_word w (cond b (Some r.1) (keyword_among rs w))
  go true more = refl
  go false more = more

pub is_reserved : (w : List ℕ) (k : Keyword) → Some k ≡ reserved_word w → keyword k ≡ word_lexeme w
unfolding reserved_word word_lexeme
is_reserved w k e = ap (keyword_or_word w) e ∙ sym (among_is reserved_words w)

pub is_word : (w : List ℕ) → None ≡ reserved_word w → word w ≡ word_lexeme w
unfolding reserved_word word_lexeme
is_word w e = ap (keyword_or_word w) e ∙ sym (among_is reserved_words w)

word_byte_ascii : (b : ℕ) → is_word_byte b ≡ true → b < 128
word_byte_ascii b is = grind (arith, tests)

-- a run of letters, digits and `_` is ASCII
pub run_ascii : (s : List ℕ) → IsAscii (word_run s)
run_ascii [] = IsAscii-nil
run_ascii (b ∷ s) = go (is_word_byte b) refl (run_ascii s) where
  go : (t : Bool) → is_word_byte b ≡ t → IsAscii (word_run s) → IsAscii (take (cond t (1 + prefix_len is_word_byte s) 0) (b ∷ s))
  go true is more =
      let e : suc (prefix_len is_word_byte s) ≡ 1 + prefix_len is_word_byte s = omega arith in
      subst (λ (k : ℕ). IsAscii (take k (b ∷ s))) e (IsAscii-cons b (word_run s) (word_byte_ascii b is) more)
  go false is more = IsAscii-nil
