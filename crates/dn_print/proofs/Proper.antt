-- The tokens of a text: a word that is not reserved begins with a letter, and a number fits in 64 bits.
use Rattle.std.proofs.Common.{◌≡◌, ◌∙◌, ◌⊎◌, inl, inr, ap, sym, refl, subst, ℕ, zero, suc, ◌+◌, ◌<◌, ◌^◌, Bool, true, false, cond, ◌&&◌, ◌==◌, List, [], ◌∷◌, take, drop, Option, Some, None, Result, Ok, Err, IsTrue, arith, ltb-true, nat_lt, bytes_eq}
use Rattle.std.specs.List.{list_all, prefix_len}
use Rattle.dn_base.proofs.Lists.{Each}
use Rattle.dn_token.specs.declared.token.Keyword.{Keyword}
use Rattle.dn_token.specs.declared.token.Sign.{Sign}
use Rattle.dn_token.specs.declared.token.Sign.TheVariants.{Dots}
use Rattle.dn_token.specs.Token.{Lexeme, Token, word, keyword, number, sign, Front, taken, bad, tokens, tokens_from, with_token, then_tokens, front, word_run, after_run, number_of, number_front, sign_front, sign_of, dots_or_sign, word_among, word_lexeme, reserved_words, number_within, is_hexadecimal, digits_number, hex_value, decimal_value, is_word_byte, is_letter, is_digit, is_line_feed, is_blank, is_slash, begins_with, after_comment}
use Rattle.dn_print.proofs.Titles.{Title}
use Rattle.dn_print.proofs.Lexes.{letter_word}

abbrev pub ProperLexeme : Lexeme → Type 0
ProperLexeme (word w) = Title w
ProperLexeme (number n) = n < 2 ^ 64
ProperLexeme (keyword k) = Unit {0}
ProperLexeme (sign s) = Unit {0}

abbrev pub Proper : List Token → Type 0
Proper ts = Each (λ (t : Token). ProperLexeme t.lexeme) ts

-- a word is itself or a reserved word
word_or_keyword : (rs : List (List ℕ × Keyword)) (w : List ℕ) → (word_among rs w ≡ word w) ⊎ ((k : Keyword) × (word_among rs w ≡ keyword k))
word_or_keyword [] w = inl refl
word_or_keyword (r ∷ rs) w = go (bytes_eq w r.0) (word_or_keyword rs w)
  where
    go : (b : Bool) → (word_among rs w ≡ word w) ⊎ ((k : Keyword) × (word_among rs w ≡ keyword k)) → (cond b (keyword r.1) (word_among rs w) ≡ word w) ⊎ ((k : Keyword) × (cond b (keyword r.1) (word_among rs w) ≡ keyword k))
    go true more = inr (r.1, refl)
    go false more = more

lexeme_or : (w : List ℕ) → (word_lexeme w ≡ word w) ⊎ ((k : Keyword) × (word_lexeme w ≡ keyword k))
unfolding word_lexeme
lexeme_or w = word_or_keyword reserved_words w

word_proper : (b : ℕ) (w : List ℕ) → is_letter b ≡ true → IsTrue (list_all is_word_byte w) → ProperLexeme (word_lexeme (b ∷ w))
word_proper b w letter all = go (lexeme_or (b ∷ w))
  where
    go : (word_lexeme (b ∷ w) ≡ word (b ∷ w)) ⊎ ((k : Keyword) × (word_lexeme (b ∷ w) ≡ keyword k)) → ProperLexeme (word_lexeme (b ∷ w))
    go (inl e) = subst ProperLexeme (sym e) (letter, all, e)
    go (inr k) = subst ProperLexeme (sym k.1) tt

front_all : (p : ℕ → Bool) (s : List ℕ) → IsTrue (list_all p (take (prefix_len p s) s))
front_all p [] = refl
front_all p (b ∷ s) = go (p b) refl (front_all p s)
  where
    go : (t : Bool) → p b ≡ t → IsTrue (list_all p (take (prefix_len p s) s)) → IsTrue (list_all p (take (cond t (1 + prefix_len p s) 0) (b ∷ s)))
    go true e more =
        let n : suc (prefix_len p s) ≡ 1 + prefix_len p s = omega arith in
        subst (λ (k : ℕ). IsTrue (list_all p (take k (b ∷ s)))) n (rw e more)
    go false e more = refl

run_first : (b : ℕ) (s : List ℕ) → is_word_byte b ≡ true → word_run (b ∷ s) ≡ b ∷ word_run s
run_first b s h =
    let n : 1 + prefix_len is_word_byte s ≡ suc (prefix_len is_word_byte s) = omega arith in
    ap (λ (t : Bool). take (cond t (1 + prefix_len is_word_byte s) 0) (b ∷ s)) h ∙ ap (λ (k : ℕ). take k (b ∷ s)) n

fitting_small : (o : Option ℕ) (n : ℕ) → number_within o ≡ Some n → n < 2 ^ 64
fitting_small None n e = cc
fitting_small (Some m) n e = go (nat_lt m (2 ^ 64)) refl e
  where
    go : (b : Bool) → nat_lt m (2 ^ 64) ≡ b → cond {A = Option ℕ} b (Some m) None ≡ Some n → n < 2 ^ 64
    go true p e = let same : m ≡ n = cc in let l = ltb-true m (2 ^ 64) p in subst (λ (k : ℕ). k < 2 ^ 64) same l
    go false p e = cc

number_small : (s : List ℕ) (n : ℕ) → number_of s ≡ Some n → n < 2 ^ 64
unfolding number_of
number_small s n e = fitting_small (cond (is_hexadecimal s) (digits_number 16 hex_value (drop 2 s)) (digits_number 10 decimal_value s)) n e

-- what stands first is proper
number_proper : (o : Option ℕ) (r : List ℕ) (l : Lexeme) (rest : List ℕ) → ((n : ℕ) → o ≡ Some n → n < 2 ^ 64) → number_front o r ≡ taken l rest → ProperLexeme l
number_proper None r l rest h e = cc
number_proper (Some n) r l rest h e = let same : number n ≡ l = cc in subst ProperLexeme same (h n refl)

sign_proper : (o : Option Sign) (r : List ℕ) (l : Lexeme) (rest : List ℕ) → sign_front o r ≡ taken l rest → ProperLexeme l
sign_proper None r l rest e = cc
sign_proper (Some s) r l rest e = let same : sign s ≡ l = cc in subst ProperLexeme same tt

dots_proper : (b : ℕ) (s : List ℕ) (l : Lexeme) (rest : List ℕ) → dots_or_sign b s ≡ taken l rest → ProperLexeme l
dots_proper b s l rest e = go ((b == 46) && begins_with (λ c. c == 46) s) e
  where
    go : (d : Bool) → cond d (taken (sign Dots) (drop 1 s)) (sign_front (sign_of b) s) ≡ taken l rest → ProperLexeme l
    go true e = let same : sign Dots ≡ l = cc in subst ProperLexeme same tt
    go false e = sign_proper (sign_of b) s l rest e

front_proper : (b : ℕ) (s : List ℕ) (l : Lexeme) (rest : List ℕ) → front b s ≡ taken l rest → ProperLexeme l
front_proper b s l rest e = go (is_letter b) refl (is_digit b) e
  where
    go : (p : Bool) → is_letter b ≡ p → (q : Bool) → cond p (taken (word_lexeme (word_run (b ∷ s))) (after_run (b ∷ s))) (cond q (number_front (number_of (word_run (b ∷ s))) (after_run (b ∷ s))) (dots_or_sign b s)) ≡ taken l rest → ProperLexeme l
    go true p q e =
        let same : word_lexeme (word_run (b ∷ s)) ≡ l = cc in
        subst ProperLexeme same (subst (λ (w : List ℕ). ProperLexeme (word_lexeme w)) (sym (run_first b s (letter_word b p))) (word_proper b (word_run s) p (front_all is_word_byte s)))
    go false p true e = number_proper (number_of (word_run (b ∷ s))) (after_run (b ∷ s)) l rest (number_small (word_run (b ∷ s))) e
    go false p false e = dots_proper b s l rest e

then_proper : (line : ℕ) (fr : Front) (more : List ℕ → Result (List Token) ℕ) (ts : List Token) → ((l : Lexeme) (rest : List ℕ) → fr ≡ taken l rest → ProperLexeme l) → ((rest : List ℕ) (us : List Token) → more rest ≡ Ok us → Proper us) → then_tokens line fr more ≡ Ok ts → Proper ts
then_proper line bad more ts h g e = cc
then_proper line (taken l rest) more ts h g e = go (more rest) refl e
  where
    go : (r : Result (List Token) ℕ) → more rest ≡ r → with_token (record { lexeme = l; line = line }) r ≡ Ok ts → Proper ts
    go (Ok us) p e = let same : record { lexeme = l; line = line } ∷ us ≡ ts = cc in subst Proper same (h l rest refl, g rest us p)
    go (Err n) p e = cc

from_proper : (fuel line : ℕ) (text : List ℕ) (ts : List Token) → tokens_from fuel line text ≡ Ok ts → Proper ts
unfolding tokens_from
from_proper zero line [] ts e = let same : [] ≡ ts = cc in subst Proper same tt
from_proper zero line (b ∷ s) ts e = let same : [] ≡ ts = cc in subst Proper same tt
from_proper (suc n) line [] ts e = let same : [] ≡ ts = cc in subst Proper same tt
from_proper (suc n) line (b ∷ s) ts e = go (is_line_feed b) (is_blank b) (is_slash b && begins_with is_slash s) (λ line' s' us f. from_proper n line' s' us f) e
  where
    go : (p q r : Bool) → ((line' : ℕ) (s' : List ℕ) (us : List Token) → tokens_from n line' s' ≡ Ok us → Proper us) → cond p (tokens_from n (line + 1) s) (cond q (tokens_from n line s) (cond r (tokens_from n line (after_comment s)) (then_tokens line (front b s) (tokens_from n line)))) ≡ Ok ts → Proper ts
    go true q r ih e = ih (line + 1) s ts e
    go false true r ih e = ih line s ts e
    go false false true ih e = ih line (after_comment s) ts e
    go false false false ih e = then_proper line (front b s) (tokens_from n line) ts (front_proper b s) (λ rest us f. ih line rest us f) e

pub tokens_proper : (text : List ℕ) (ts : List Token) → tokens text ≡ Ok ts → Proper ts
unfolding tokens
tokens_proper text ts e = from_proper _ 1 text ts e
