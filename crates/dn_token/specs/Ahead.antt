-- The tokens that are still to come, as a cursor keeps them: what the next one says, and the text behind it.
use Rattle.std.specs.Prelude.{ℕ, Bool, true, false, List, [], ◌∷◌, length, Option, Some, None, Result, Ok, Err}
use Rattle.dn_token.specs.declared.token.Lexeme.{Lexeme as CodeLexeme}
use Rattle.dn_token.specs.declared.token.Token.{Token as CodeToken}
use Rattle.dn_token.specs.Token.{Token, with_token}
use Rattle.dn_token.specs.Lexing.{lexeme_view, token_view}
use Rattle.dn_token.specs.Going.{tokens_of}
use Rattle.std.specs.Borrow.{Bor}

-- a text has tokens, and no bad place
abbrev pub is_good : Result (List Token) ℕ → Bool
is_good (Ok ts) = true
is_good (Err line) = false

-- the tokens of a text that has no bad place
abbrev pub good_tokens : Result (List Token) ℕ → List Token
good_tokens (Ok ts) = ts
good_tokens (Err line) = []

-- the next token and those behind it; with no next one there is none
abbrev pub ahead : Option CodeLexeme → ℕ → List ℕ → List Token
ahead None line rest = []
ahead (Some l) line rest = record { lexeme = lexeme_view l; line = line } ∷ good_tokens (tokens_of line rest)

-- the tokens of a text by its first one and what follows it, or by the bad place that stands first
abbrev pub first_and_rest : Result (Option (CodeToken × Bor (List ℕ))) ℕ → Result (List Token) ℕ
first_and_rest (Err line) = Err line
first_and_rest (Ok None) = Ok []
first_and_rest (Ok (Some p)) = with_token (token_view p.0) (tokens_of p.0.line p.1.now)

-- how many tokens there are
abbrev pub how_many : Result (List Token) ℕ → Result ℕ ℕ
how_many (Ok ts) = Ok (length ts)
how_many (Err line) = Err line
