-- One turn of the tokens of a text, and tokens before those of the rest.
use Rattle.std.proofs.Common.{◌≡◌, refl, ℕ, suc, ◌+◌, true, false, ◌&&◌, List, ◌∷◌, ◌++◌, Result, Ok, Err}
use Rattle.dn_token.specs.Token.{Token, tokens_from, then_tokens, front, is_line_feed, is_blank, is_slash, begins_with, after_comment}

-- tokens, and then those of the rest
abbrev pub with_tokens : List Token → Result (List Token) ℕ → Result (List Token) ℕ
with_tokens found (Ok more) = Ok (found ++ more)
with_tokens found (Err line) = Err line

pub turn_line : (n line b : ℕ) (s : List ℕ) → is_line_feed b ≡ true → tokens_from (suc n) line (b ∷ s) ≡ tokens_from n (line + 1) s
unfolding tokens_from
turn_line n line b s is = rw is refl

pub turn_blank : (n line b : ℕ) (s : List ℕ) → is_line_feed b ≡ false → is_blank b ≡ true → tokens_from (suc n) line (b ∷ s) ≡ tokens_from n line s
unfolding tokens_from
turn_blank n line b s no_line is = rw (no_line, is) refl

pub turn_comment : (n line b : ℕ) (s : List ℕ) → is_line_feed b ≡ false → is_blank b ≡ false → (is_slash b && begins_with is_slash s) ≡ true → tokens_from (suc n) line (b ∷ s) ≡ tokens_from n line (after_comment s)
unfolding tokens_from
turn_comment n line b s no_line no_blank is = rw (no_line, no_blank, is) refl

pub turn_front : (n line b : ℕ) (s : List ℕ) → is_line_feed b ≡ false → is_blank b ≡ false → (is_slash b && begins_with is_slash s) ≡ false → tokens_from (suc n) line (b ∷ s) ≡ then_tokens line (front b s) (tokens_from n line)
unfolding tokens_from
turn_front n line b s no_line no_blank no_comment = rw (no_line, no_blank, no_comment) refl
