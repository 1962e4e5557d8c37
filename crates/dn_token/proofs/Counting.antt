-- How many tokens a text has, token by token.
use Rattle.std.proofs.Common.{◌≡◌, ◌∙◌, ◌<◌, ◌≤◌, ap, refl, sym, ℕ, suc, ◌+◌, ◌-◌, true, List, [], ◌∷◌, length, Option, None, Some, Result, Ok, Err, arith}
use Rattle.dn_token.specs.declared.token.Lexeme.{Lexeme}
use Rattle.dn_token.specs.Token.{Token, tokens, with_token}
use Rattle.dn_token.specs.Going.{tokens_of}
use Rattle.dn_token.specs.Ahead.{how_many, is_good, good_tokens, ahead}
use Rattle.dn_token.proofs.Going.{tokens_go_on}

-- so many tokens, and those of the rest
abbrev pub and_more : ℕ → Result (List Token) ℕ → Result ℕ ℕ
and_more n (Ok ts) = Ok (n + length ts)
and_more n (Err line) = Err line

pub begun : (text : List ℕ) → how_many (tokens text) ≡ and_more 0 (tokens_of 1 text)
begun text = ap how_many (tokens_go_on.whole text) ∙ go (tokens_of 1 text) where
  go : (r : Result (List Token) ℕ) → how_many r ≡ and_more 0 r
  go (Ok ts) = let e : length ts ≡ 0 + length ts = omega arith in ap (λ (n : ℕ). Ok n) e
  go (Err line) = refl

pub one_more : (n : ℕ) (t : Token) (r : Result (List Token) ℕ) → and_more n (with_token t r) ≡ and_more (n + 1) r
one_more n t (Ok ts) = let e : n + suc (length ts) ≡ n + 1 + length ts = omega arith in ap (λ (k : ℕ). Ok k) e
one_more n t (Err line) = refl

pub ahead_some : (o : Option Lexeme) (line : ℕ) (rest : List ℕ) (left : ℕ) → left ≡ length (ahead o line rest) → 0 < length (ahead o line rest) → 1 ≤ left
ahead_some o line rest left e h = omega (arith, e, h)

-- the tokens behind the next one are one less
pub ahead_less : (o : Option Lexeme) (line : ℕ) (rest : List ℕ) (left : ℕ) → left ≡ length (ahead o line rest) → 0 < length (ahead o line rest) → left - 1 ≡ length (good_tokens (tokens_of line rest))
ahead_less None line rest left e h = absurd (omega (arith, h))
ahead_less (Some l) line rest left e h = omega (arith, e)

-- what the count of a text's tokens says
pub counted_good : (r : Result (List Token) ℕ) (n : ℕ) → Ok n ≡ how_many r → is_good r ≡ true
counted_good (Ok ts) n e = refl
counted_good (Err line) n e = cc

pub counted_tokens : (r : Result (List Token) ℕ) (n : ℕ) → Ok n ≡ how_many r → n ≡ length (good_tokens r)
counted_tokens (Ok ts) n e = cc
counted_tokens (Err line) n e = cc

pub counted_made : (r : Result (List Token) ℕ) (n : ℕ) (made : List Token) → Ok n ≡ how_many r → made ≡ good_tokens r → r ≡ Ok made
counted_made (Ok ts) n made e is = ap (λ (l : List Token). Ok l) (sym is)
counted_made (Err line) n made e is = cc

pub counted_bad : (r : Result (List Token) ℕ) (line : ℕ) → Err line ≡ how_many r → r ≡ Err line
counted_bad (Ok ts) line e = cc
counted_bad (Err l) line e = cc

-- what is good from its first token on
pub good_behind : (t : Token) (r : Result (List Token) ℕ) → is_good (with_token t r) ≡ true → is_good r ≡ true
good_behind t (Ok ts) e = refl
good_behind t (Err line) e = cc

pub good_first : (t : Token) (r : Result (List Token) ℕ) → is_good (with_token t r) ≡ true → good_tokens (with_token t r) ≡ t ∷ good_tokens r
good_first t (Ok ts) e = refl
good_first t (Err line) e = cc

pub no_more : (n : ℕ) → and_more n (Ok []) ≡ Ok n
no_more n = let e : n + 0 ≡ n = omega arith in ap (λ (k : ℕ). Ok k) e
