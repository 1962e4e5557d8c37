-- What the tokenizer's functions say: its tokens as tokens of a text, and the parts of the way there.
use Rattle.std.specs.Prelude.{ℕ, ◌==◌, Bool, false, ◌&&◌, if◌then◌else◌, List, [], ◌∷◌, length, Option, Some, None}
use Rattle.std.specs.List.{filter}
use Rattle.std.specs.Str.{bytes_eq}
use Rattle.dn_token.specs.declared.token.Keyword.{Keyword}
use Rattle.dn_token.specs.declared.token.Lexeme.{Lexeme as CodeLexeme}
use Rattle.dn_token.specs.declared.token.Lexeme.TheVariants.{Word as WordCase, Keyword as KeywordCase, Number as NumberCase, Sign as SignCase}
use Rattle.dn_token.specs.declared.token.Token.{Token as CodeToken}
use Rattle.dn_token.specs.declared.number.Radix.{Radix}
use Rattle.dn_token.specs.declared.number.Radix.TheVariants.{Decimal, Hexadecimal}
use Rattle.dn_token.specs.Token.{Lexeme, Token, Front, is_word_byte, word, keyword, number, sign, bad, front, reserved_words, decimal_value, hex_value, dots_or_sign, is_slash, begins_with}

-- the lexeme of the subject that a lexeme of the code is
abbrev pub lexeme_view : CodeLexeme → Lexeme
lexeme_view (WordCase w) = word w.now
lexeme_view (KeywordCase k) = keyword k
lexeme_view (NumberCase n) = number n
lexeme_view (SignCase s) = sign s

-- the token of the subject that a token of the code is
abbrev pub token_view : CodeToken → Token
token_view t = record { lexeme = lexeme_view t.lexeme; line = t.line }

-- what stands at the front of a text
abbrev pub front_of : List ℕ → Front
front_of [] = bad
front_of (b ∷ s) = front b s

-- the sign at the front of a text, the longer one first
abbrev pub sign_front_of : List ℕ → Front
sign_front_of [] = bad
sign_front_of (b ∷ s) = dots_or_sign b s

-- a comment begins here
abbrev pub begins_comment : List ℕ → Bool
begins_comment [] = false
begins_comment (b ∷ s) = is_slash b && begins_with is_slash s

-- a number in hexadecimal digits begins here
abbrev pub begins_hexadecimal : List ℕ → Bool
begins_hexadecimal [] = false
begins_hexadecimal (b ∷ s) = (b == 48) && begins_with (λ c. c == 120) s

-- the reserved word that a word is
abbrev pub keyword_among : List (List ℕ × Keyword) → List ℕ → Option Keyword
keyword_among [] w = None
keyword_among (r ∷ rs) w = if bytes_eq w r.0 then Some r.1 else keyword_among rs w

-- the reserved word that a word is, where it is one
unfoldable pub reserved_word : List ℕ → Option Keyword
reserved_word w = keyword_among reserved_words w

-- the reserved words of one length
abbrev pub of_length : ℕ → List (List ℕ × Keyword) → List (List ℕ × Keyword)
of_length n rs = filter (λ r. length r.0 == n) rs

-- the class of a byte of no hexadecimal digit
abbrev pub class_or : Option ℕ → Bool → ℕ
class_or (Some d) is_word = d
class_or None is_word = if is_word then 16 else 17

-- the class of a byte: the value of a hexadecimal digit, 16 for another byte of a word, and 17 for a byte of none
unfoldable pub class_of : ℕ → ℕ
class_of b = class_or (hex_value b) (is_word_byte b)

-- how many digits a way to write numbers has
abbrev pub base_of : Radix → ℕ
base_of Decimal = 10
base_of Hexadecimal = 16

-- what a byte stands for as a digit of it
abbrev pub value_of : Radix → ℕ → Option ℕ
value_of Decimal b = decimal_value b
value_of Hexadecimal b = hex_value b
