-- The law above the tokens of a text: what stands first decides, and the rest is read alike.
use Rattle.std.specs.Prelude.{◌≡◌, ℕ, suc, ◌+◌, if◌then◌else◌, ◌&&◌, List, [], ◌∷◌, length, Result, Ok}
use Rattle.dn_token.specs.Token.{Token, tokens_from, tokens, is_line_feed, is_blank, is_slash, begins_with, after_comment, front, then_tokens}

-- the tokens from a line on
abbrev pub tokens_of : ℕ → List ℕ → Result (List Token) ℕ
tokens_of line text = tokens_from (suc (length text)) line text

-- A line feed begins the next line; a blank and a comment are left out; otherwise a token, the longest that stands
-- there, comes first, or it is the first bad place. No text is cut short.
pub record TokensGoOn : Type 0 where
  pub whole : (text : List ℕ) → tokens text ≡ tokens_of 1 text
  pub none : (line : ℕ) → tokens_of line [] ≡ Ok []
  pub more : (line b : ℕ) (s : List ℕ) → tokens_of line (b ∷ s) ≡ (if is_line_feed b then tokens_of (line + 1) s
      else (if is_blank b then tokens_of line s
      else (if is_slash b && begins_with is_slash s then tokens_of line (after_comment s)
      else then_tokens line (front b s) (tokens_of line))))
