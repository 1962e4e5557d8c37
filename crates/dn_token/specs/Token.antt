-- Tokens: their spellings, and the list of tokens that a text is, or its first bad place.
use Rattle.std.specs.Prelude.{ℕ, zero, suc, ◌+◌, ◌-◌, ◌*◌, ◌^◌, Bool, false, if◌then◌else◌, ◌&&◌, ◌||◌, not, nat_le, nat_lt, ◌==◌, List, [], ◌∷◌, length, take, drop, codes, Option, Some, None, Result, Ok, Err}
use Rattle.std.specs.List.{prefix_len}
use Rattle.std.specs.Str.{bytes_eq}
use Rattle.dn_token.specs.declared.token.Keyword.{Keyword}
use Rattle.dn_token.specs.declared.token.Keyword.TheVariants.{Agent, Vectors, Unit as UnitWord, Module, Use, For, In, End, Begin, Is, Accept, Map, To, And, At, Over, Kind, Page, Slots, Reach, As, Num, Node, Resolve, Lookup, View, Grant, Route, Revoke, Dump, Split, Absorb}
use Rattle.dn_token.specs.declared.token.Sign.{Sign}
use Rattle.dn_token.specs.declared.token.Sign.TheVariants.{Semicolon, Comma, OpenBracket, CloseBracket, OpenParenthesis, CloseParenthesis, Minus, Plus, Times, Dot, Dots}

-- a word that is not reserved, a reserved word, a number, or a sign
pub data Lexeme : Type 0 where
  word : List ℕ → Lexeme
  keyword : Keyword → Lexeme
  number : ℕ → Lexeme
  sign : Sign → Lexeme

-- a token is a lexeme and the line in which it begins
pub record Token : Type 0 where
  pub lexeme : Lexeme
  pub line : ℕ

-- the kinds of bytes
abbrev pub is_between : ℕ → ℕ → ℕ → Bool
is_between lo hi b = nat_le lo b && nat_le b hi

-- a letter, or `_`
abbrev pub is_letter : ℕ → Bool
is_letter b = is_between 97 122 b || (is_between 65 90 b || (b == 95))

-- a decimal digit
abbrev pub is_digit : ℕ → Bool
is_digit b = is_between 48 57 b

-- a byte that a word may have after its first
abbrev pub is_word_byte : ℕ → Bool
is_word_byte b = is_letter b || is_digit b

-- the end of a line
abbrev pub is_line_feed : ℕ → Bool
is_line_feed b = b == 10

-- a space, a tab or a carriage return
abbrev pub is_blank : ℕ → Bool
is_blank b = (b == 32) || ((b == 9) || (b == 13))

-- a slash, of which two begin a comment
abbrev pub is_slash : ℕ → Bool
is_slash b = b == 47

-- the longest run of letters, digits and `_`, and what follows it
abbrev pub word_run : List ℕ → List ℕ
word_run s = take (prefix_len is_word_byte s) s

-- what follows the longest run of letters, digits and `_`
abbrev pub after_run : List ℕ → List ℕ
after_run s = drop (prefix_len is_word_byte s) s

-- what follows a comment: the next line feed, or nothing
abbrev pub after_comment : List ℕ → List ℕ
after_comment s = drop (prefix_len (λ b. not (is_line_feed b)) s) s

-- the reserved words, with their spellings
abbrev pub reserved_words : List (List ℕ × Keyword)
reserved_words =
    (codes "agent", Agent) ∷ (codes "vectors", Vectors) ∷ (codes "unit", UnitWord) ∷ (codes "module", Module) ∷ (codes "use", Use) ∷ (codes "for", For) ∷ (codes "in", In) ∷ (codes "end", End) ∷ (codes "begin", Begin) ∷ (codes "is", Is) ∷ (codes "accept", Accept)
    ∷ (codes "map", Map) ∷ (codes "to", To) ∷ (codes "and", And) ∷ (codes "at", At) ∷ (codes "over", Over) ∷ (codes "kind", Kind) ∷ (codes "page", Page) ∷ (codes "slots", Slots) ∷ (codes "reach", Reach) ∷ (codes "as", As) ∷ (codes "num", Num) ∷ (codes "node", Node)
    ∷ (codes "resolve", Resolve) ∷ (codes "lookup", Lookup) ∷ (codes "view", View) ∷ (codes "grant", Grant) ∷ (codes "route", Route) ∷ (codes "revoke", Revoke) ∷ (codes "dump", Dump) ∷ (codes "split", Split) ∷ (codes "absorb", Absorb) ∷ []

-- the reserved word of this list that a word is, or the word itself
abbrev pub word_among : List (List ℕ × Keyword) → List ℕ → Lexeme
word_among [] w = word w
word_among (r ∷ rs) w = if bytes_eq w r.0 then keyword r.1 else word_among rs w

-- the lexeme that a word is
unfoldable pub word_lexeme : List ℕ → Lexeme
word_lexeme w = word_among reserved_words w

-- digits: the value of a byte as a digit, and the number that digits spell in a base
abbrev pub hex_value : ℕ → Option ℕ
hex_value b = if is_digit b then Some (b - 48) else (if is_between 97 102 b then Some (b - 87) else (if is_between 65 70 b then Some (b - 55) else None))

-- the value of a byte as a decimal digit
abbrev pub decimal_value : ℕ → Option ℕ
decimal_value b = if is_digit b then Some (b - 48) else None

-- the number so far with one digit more
abbrev pub with_digit : ℕ → ℕ → Option ℕ → Option ℕ
with_digit base so_far None = None
with_digit base so_far (Some d) = Some (so_far * base + d)

-- the number so far with one byte more, where it is a digit
abbrev pub next_value : ℕ → (ℕ → Option ℕ) → Option ℕ → ℕ → Option ℕ
next_value base value None b = None
next_value base value (Some so_far) b = with_digit base so_far (value b)

-- the number so far with all of these bytes
abbrev pub spelled_from : ℕ → (ℕ → Option ℕ) → Option ℕ → List ℕ → Option ℕ
spelled_from base value so_far [] = so_far
spelled_from base value so_far (b ∷ bs) = spelled_from base value (next_value base value so_far b) bs

-- the number that one or more digits spell
abbrev pub digits_number : ℕ → (ℕ → Option ℕ) → List ℕ → Option ℕ
digits_number base value [] = None
digits_number base value (b ∷ bs) = spelled_from base value (Some 0) (b ∷ bs)

-- a number that is at most 2^64 - 1
abbrev pub number_within : Option ℕ → Option ℕ
number_within None = None
number_within (Some n) = if nat_lt n (2 ^ 64) then Some n else None

-- a number in hexadecimal digits begins with `0x`
abbrev pub is_hexadecimal : List ℕ → Bool
is_hexadecimal s = bytes_eq (take 2 s) (codes "0x")

-- the number that a run spells: decimal digits, or `0x` and hexadecimal digits of either case, at most 2^64 - 1
unfoldable pub number_of : List ℕ → Option ℕ
number_of s = number_within (if is_hexadecimal s then digits_number 16 hex_value (drop 2 s) else digits_number 10 decimal_value s)

-- the sign that one byte is
abbrev pub sign_among : List (ℕ × Sign) → ℕ → Option Sign
sign_among [] b = None
sign_among (r ∷ rs) b = if r.0 == b then Some r.1 else sign_among rs b

-- the sign that one byte is
abbrev pub sign_of : ℕ → Option Sign
sign_of b = sign_among ((59, Semicolon) ∷ (44, Comma) ∷ (91, OpenBracket) ∷ (93, CloseBracket) ∷ (40, OpenParenthesis) ∷ (41, CloseParenthesis) ∷ (45, Minus) ∷ (43, Plus) ∷ (42, Times) ∷ (46, Dot) ∷ []) b

-- the first byte passes a test
abbrev pub begins_with : (ℕ → Bool) → List ℕ → Bool
begins_with p [] = false
begins_with p (b ∷ s) = p b

-- what stands at the front of a text that is not blank: a token and what follows it, or no token
pub data Front : Type 0 where
  taken : Lexeme → List ℕ → Front
  bad : Front

-- a number at the front, where the run spells one
abbrev pub number_front : Option ℕ → List ℕ → Front
number_front None rest = bad
number_front (Some n) rest = taken (number n) rest

-- a sign at the front, where the byte is one
abbrev pub sign_front : Option Sign → List ℕ → Front
sign_front None rest = bad
sign_front (Some s) rest = taken (sign s) rest

-- the longer sign first
abbrev pub dots_or_sign : ℕ → List ℕ → Front
dots_or_sign b s = if (b == 46) && begins_with (λ c. c == 46) s then taken (sign Dots) (drop 1 s) else sign_front (sign_of b) s

-- what stands at the front: a word, a number or a sign
abbrev pub front : ℕ → List ℕ → Front
front b s =
    if is_letter b then taken (word_lexeme (word_run (b ∷ s))) (after_run (b ∷ s))
    else (if is_digit b then number_front (number_of (word_run (b ∷ s))) (after_run (b ∷ s))
    else dots_or_sign b s)

-- one token before those that follow
abbrev pub with_token : Token → Result (List Token) ℕ → Result (List Token) ℕ
with_token t (Ok ts) = Ok (t ∷ ts)
with_token t (Err line) = Err line

-- the token at the front and then those of the rest, or the line of a bad place
abbrev pub then_tokens : ℕ → Front → (List ℕ → Result (List Token) ℕ) → Result (List Token) ℕ
then_tokens line (taken l rest) more = with_token (record { lexeme = l; line = line }) (more rest)
then_tokens line bad more = Err line

-- the tokens from a line on, or the line of the first bad place; each turn takes a byte or more
unfoldable pub tokens_from : ℕ → ℕ → List ℕ → Result (List Token) ℕ
tokens_from fuel line [] = Ok []
tokens_from zero line (b ∷ s) = Ok []
tokens_from (suc n) line (b ∷ s) =
    if is_line_feed b then tokens_from n (line + 1) s
    else (if is_blank b then tokens_from n line s
    else (if is_slash b && begins_with is_slash s then tokens_from n line (after_comment s)
    else then_tokens line (front b s) (tokens_from n line)))

-- the tokens of a text, or the line of its first bad place
unfoldable pub tokens : List ℕ → Result (List Token) ℕ
tokens text = tokens_from (suc (length text)) 1 text
