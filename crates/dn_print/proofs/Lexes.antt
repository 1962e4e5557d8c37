-- Pieces of a printed text and the tokens that they are, whatever follows.
use Rattle.std.proofs.Common.{◌≡◌, ◌∙◌, ap, ap₂, sym, refl, subst, ℕ, ◌+◌, ◌<◌, ◌^◌, Bool, true, false, ◌==◌, List, [], ◌∷◌, ◌++◌, length, take_at, drop_at, codes, Some, Result, Ok, Err, IsTrue, arith, tests, append_assoc}
use Rattle.std.specs.Fmt.{digits, decimal}
use Rattle.std.specs.List.{list_all, prefix_len}
use Rattle.dn_token.specs.declared.token.Keyword.{Keyword}
use Rattle.dn_token.specs.declared.token.Sign.{Sign}
use Rattle.dn_token.specs.declared.token.Sign.TheVariants.{Semicolon, Comma, OpenBracket, CloseBracket, Minus, Dot}
use Rattle.dn_token.specs.Token.{Lexeme, Token, word, keyword, number, sign, taken, tokens_from, with_token, then_tokens, front, word_run, after_run, number_of, number_front, word_lexeme, is_word_byte, is_letter, is_digit, is_line_feed, is_blank, is_slash, begins_with}
use Rattle.dn_token.specs.Words.{spelling}
use Rattle.dn_token.specs.Going.{tokens_of}
use Rattle.dn_token.proofs.Going.{tokens_go_on}
use Rattle.dn_token.proofs.Lexed.{with_tokens}
use Rattle.dn_print.specs.Names.{address_text}
use Rattle.dn_print.proofs.Digits.{decimal_number, hexadecimal_number, decimal_digits, decimal_word, hexadecimal_word, decimal_some}
use Rattle.dn_print.proofs.Words.{IsReserved, keyword_reserved}
use Rattle.dn_base.proofs.Booleans.{and_parts, cond-true, cond-false}

-- a token of a line
abbrev pub word_token : ℕ → List ℕ → Token
word_token line w = record { lexeme = word w; line = line }

abbrev pub number_token : ℕ → ℕ → Token
number_token line n = record { lexeme = number n; line = line }

abbrev pub keyword_token : ℕ → Keyword → Token
keyword_token line k = record { lexeme = keyword k; line = line }

abbrev pub sign_token : ℕ → Sign → Token
sign_token line s = record { lexeme = sign s; line = line }

-- what may follow a word or a number
abbrev pub Stops : List ℕ → Type 0
Stops rest = begins_with is_word_byte rest ≡ false

-- a piece is these tokens, where no letter, digit or `_` follows
pub record Closed (line : ℕ) (text : List ℕ) (ts : List Token) : Type 0 where
  pub it : (rest : List ℕ) → Stops rest → tokens_of line (text ++ rest) ≡ with_tokens ts (tokens_of line rest)

-- the same, whatever follows
pub record Open (line : ℕ) (text : List ℕ) (ts : List Token) : Type 0 where
  pub it : (rest : List ℕ) → tokens_of line (text ++ rest) ≡ with_tokens ts (tokens_of line rest)

-- a piece that may follow a word or a number
pub record Quiet (text : List ℕ) : Type 0 where
  pub it : (rest : List ℕ) → Stops rest → Stops (text ++ rest)

pub with_both : (xs ys : List Token) (r : Result (List Token) ℕ) → with_tokens xs (with_tokens ys r) ≡ with_tokens (xs ++ ys) r
with_both xs ys (Ok ts) = ap (λ (l : List Token). Ok l) (sym (append_assoc xs ys ts))
with_both xs ys (Err line) = refl

pub with_none : (r : Result (List Token) ℕ) → r ≡ with_tokens [] r
with_none (Ok ts) = refl
with_none (Err line) = refl

with_one : (t : Token) (r : Result (List Token) ℕ) → with_token t r ≡ with_tokens (t ∷ []) r
with_one t (Ok ts) = refl
with_one t (Err line) = refl

-- pieces one after another
pub closed_then : {line : ℕ} {p q : List ℕ} {ts us : List Token} → Closed line p ts → Quiet q → Closed line q us → Closed line (p ++ q) (ts ++ us)
closed_then {line} {p} {q} {ts} {us} c quiet d = record {
  it = λ rest h. ap (tokens_of line) (append_assoc p q rest) ∙ c.it (q ++ rest) (quiet.it rest h) ∙ ap (with_tokens ts) (d.it rest h) ∙ with_both ts us (tokens_of line rest);
}

pub open_then : {line : ℕ} {p q : List ℕ} {ts us : List Token} → Open line p ts → Closed line q us → Closed line (p ++ q) (ts ++ us)
open_then {line} {p} {q} {ts} {us} c d = record {
  it = λ rest h. ap (tokens_of line) (append_assoc p q rest) ∙ c.it (q ++ rest) ∙ ap (with_tokens ts) (d.it rest h) ∙ with_both ts us (tokens_of line rest);
}

pub quiet_then : {p q : List ℕ} → Quiet p → Quiet q → Quiet (p ++ q)
quiet_then {p} {q} a b = record { it = λ rest h. subst Stops (sym (append_assoc p q rest)) (a.it (q ++ rest) (b.it rest h)) }

pub quiet_none : Quiet []
quiet_none = record { it = λ rest h. h }

pub closed_none : (line : ℕ) → Closed line [] []
closed_none line = record { it = λ rest h. with_none (tokens_of line rest) }

-- a piece that is these tokens whatever follows is so where no letter, digit or `_` does
pub as_closed : {line : ℕ} {p : List ℕ} {ts : List Token} → Open line p ts → Closed line p ts
as_closed o = record { it = λ rest h. o.it rest }

-- one token
token_step : (line b : ℕ) (s : List ℕ) (l : Lexeme) (rest : List ℕ) → is_line_feed b ≡ false → is_blank b ≡ false → is_slash b ≡ false → front b s ≡ taken l rest → tokens_of line (b ∷ s) ≡ with_tokens (record { lexeme = l; line = line } ∷ []) (tokens_of line rest)
token_step line b s l rest p q r e =
    tokens_go_on.more line b s
    ∙ rw (p, q, r) (ap (λ f. then_tokens line f (tokens_of line)) e)
    ∙ with_one (record { lexeme = l; line = line }) (tokens_of line rest)

letter_line : (b : ℕ) → is_word_byte b ≡ true → is_line_feed b ≡ false
letter_line b h = grind (arith, tests)

letter_blank : (b : ℕ) → is_word_byte b ≡ true → is_blank b ≡ false
letter_blank b h = grind (arith, tests)

letter_slash : (b : ℕ) → is_word_byte b ≡ true → is_slash b ≡ false
letter_slash b h = grind (arith, tests)

pub letter_word : (b : ℕ) → is_letter b ≡ true → is_word_byte b ≡ true
letter_word b h = rw h refl

digit_word : (b : ℕ) → is_digit b ≡ true → is_word_byte b ≡ true
digit_word b h = grind (arith, tests)

digit_letter : (b : ℕ) → is_digit b ≡ true → is_letter b ≡ false
digit_letter b h = grind (arith, tests)

-- the bytes of a word up to its end
prefix_none : (p : ℕ → Bool) (rest : List ℕ) → begins_with p rest ≡ false → prefix_len p rest ≡ 0
prefix_none p [] h = refl
prefix_none p (b ∷ s) h = rw h refl

prefix_all : (p : ℕ → Bool) (w rest : List ℕ) → IsTrue (list_all p w) → begins_with p rest ≡ false → prefix_len p (w ++ rest) ≡ length w
prefix_all p [] rest all h = prefix_none p rest h
prefix_all p (b ∷ w) rest all h =
    let parts = and_parts (p b) (list_all p w) all in
    let more = prefix_all p w rest parts.1 h in
    rw (parts.0, more) (omega arith)

run_is : (w rest : List ℕ) → IsTrue (list_all is_word_byte w) → Stops rest → word_run (w ++ rest) ≡ w
run_is w rest all h = take_at w rest (prefix_len is_word_byte (w ++ rest)) (sym (prefix_all is_word_byte w rest all h))

after_is : (w rest : List ℕ) → IsTrue (list_all is_word_byte w) → Stops rest → after_run (w ++ rest) ≡ rest
after_is w rest all h = drop_at w rest (prefix_len is_word_byte (w ++ rest)) (sym (prefix_all is_word_byte w rest all h))

with_first : (b : ℕ) (w : List ℕ) → is_word_byte b ≡ true → IsTrue (list_all is_word_byte w) → IsTrue (list_all is_word_byte (b ∷ w))
with_first b w h all = rw h all

word_front : (b : ℕ) (w : List ℕ) (l : Lexeme) (rest : List ℕ) → is_letter b ≡ true → IsTrue (list_all is_word_byte (b ∷ w)) → word_lexeme (b ∷ w) ≡ l → Stops rest → front b (w ++ rest) ≡ taken l rest
word_front b w l rest letter whole e h =
    let r = run_is (b ∷ w) rest whole h in
    let a = after_is (b ∷ w) rest whole h in
    cond-true (is_letter b) _ _ letter ∙ ap₂ (λ m t. taken (word_lexeme m) t) r a ∙ ap (λ m. taken m rest) e

number_at : (b : ℕ) (w : List ℕ) (n : ℕ) (rest : List ℕ) → is_digit b ≡ true → IsTrue (list_all is_word_byte (b ∷ w)) → number_of (b ∷ w) ≡ Some n → Stops rest → front b (w ++ rest) ≡ taken (number n) rest
number_at b w n rest digit whole e h =
    let letter = digit_letter b digit in
    let r = run_is (b ∷ w) rest whole h in
    let a = after_is (b ∷ w) rest whole h in
    cond-false (is_letter b) _ _ letter ∙ cond-true (is_digit b) _ _ digit ∙ ap₂ (λ m t. number_front (number_of m) t) r a ∙ ap (λ m. number_front m rest) e

-- a word, reserved or not
pub word_closed : (line b : ℕ) (w : List ℕ) (l : Lexeme) → is_letter b ≡ true → IsTrue (list_all is_word_byte w) → word_lexeme (b ∷ w) ≡ l → Closed line (b ∷ w) (record { lexeme = l; line = line } ∷ [])
word_closed line b w l letter all e =
    let byte = letter_word b letter in
    let whole = with_first b w byte all in
    record { it = λ rest h. token_step line b (w ++ rest) l rest (letter_line b byte) (letter_blank b byte) (letter_slash b byte) (word_front b w l rest letter whole e h) }

-- a number
number_closed : (line b : ℕ) (w : List ℕ) (n : ℕ) → is_digit b ≡ true → IsTrue (list_all is_word_byte w) → number_of (b ∷ w) ≡ Some n → Closed line (b ∷ w) (number_token line n ∷ [])
number_closed line b w n digit all e =
    let byte = digit_word b digit in
    let whole = with_first b w byte all in
    record { it = λ rest h. token_step line b (w ++ rest) (number n) rest (letter_line b byte) (letter_blank b byte) (letter_slash b byte) (number_at b w n rest digit whole e h) }

digits_closed : (line n : ℕ) (s : List ℕ) → 0 < length s → IsTrue (list_all is_digit s) → IsTrue (list_all is_word_byte s) → number_of s ≡ Some n → Closed line s (number_token line n ∷ [])
digits_closed line n [] some digits all e = absurd (omega (arith, some))
digits_closed line n (b ∷ w) some digits all e = number_closed line b w n (and_parts (is_digit b) (list_all is_digit w) digits).0 (and_parts (is_word_byte b) (list_all is_word_byte w) all).1 e

pub decimal_closed : (line n : ℕ) → n < 2 ^ 64 → Closed line (decimal n) (number_token line n ∷ [])
decimal_closed line n h = digits_closed line n (decimal n) (decimal_some n) (decimal_digits n) (decimal_word n) (decimal_number n h)

pub address_closed : (line n : ℕ) → n < 2 ^ 64 → Closed line (address_text n) (number_token line n ∷ [])
address_closed line n h = number_closed line 48 (120 ∷ digits 16 false n) n refl (hexadecimal_word n) (hexadecimal_number n h)

-- a reserved word
reserved_closed : (line : ℕ) (w : List ℕ) (k : Keyword) → IsReserved k w → Closed line w (keyword_token line k ∷ [])
reserved_closed line [] k h = absurd h
reserved_closed line (b ∷ w) k h = word_closed line b w (keyword k) h.0 h.1 h.2

pub keyword_closed : (line : ℕ) (k : Keyword) → Closed line (spelling k) (keyword_token line k ∷ [])
keyword_closed line k = reserved_closed line (spelling k) k (keyword_reserved k)

-- a space, before a piece and behind one
blank_open : (line : ℕ) → Open line (codes " ") []
unfolding tokens_from
blank_open line = record { it = λ rest. with_none (tokens_of line rest) }

pub behind_blank : {line : ℕ} {p : List ℕ} {ts : List Token} → Closed line p ts → Closed line (codes " " ++ p) ts
behind_blank {line} c = open_then (blank_open line) c

before_blank : {line : ℕ} {p : List ℕ} {ts : List Token} → Closed line p ts → Open line (p ++ codes " ") ts
before_blank {line} {p} {ts} c = record {
  it = λ rest. ap (tokens_of line) (append_assoc p (codes " ") rest) ∙ c.it (codes " " ++ rest) refl ∙ ap (with_tokens ts) ((blank_open line).it rest ∙ sym (with_none (tokens_of line rest)));
}

-- a reserved word with a space behind it, and with one before it too
pub keyword_open : (line : ℕ) (k : Keyword) → Open line (spelling k ++ codes " ") (keyword_token line k ∷ [])
keyword_open line k = before_blank (keyword_closed line k)

pub keyword_between : (line : ℕ) (k : Keyword) → Open line (codes " " ++ (spelling k ++ codes " ")) (keyword_token line k ∷ [])
unfolding tokens_from
keyword_between line k = record { it = (keyword_open line k).it }

-- a sign of one byte
sign_open : (line b : ℕ) (s : Sign) → is_line_feed b ≡ false → is_blank b ≡ false → is_slash b ≡ false → ((rest : List ℕ) → front b rest ≡ taken (sign s) rest) → Open line (b ∷ []) (sign_token line s ∷ [])
sign_open line b s p q r e = record { it = λ rest. token_step line b rest (sign s) rest p q r (e rest) }

pub minus_open : (line : ℕ) → Open line (codes "-") (sign_token line Minus ∷ [])
minus_open line = sign_open line 45 Minus refl refl refl (λ rest. refl)

pub bracket_open : (line : ℕ) → Open line (codes "[") (sign_token line OpenBracket ∷ [])
bracket_open line = sign_open line 91 OpenBracket refl refl refl (λ rest. refl)

pub close_open : (line : ℕ) → Open line (codes "]") (sign_token line CloseBracket ∷ [])
close_open line = sign_open line 93 CloseBracket refl refl refl (λ rest. refl)

pub comma_open : (line : ℕ) → Open line (codes ", ") (sign_token line Comma ∷ [])
comma_open line = before_blank (as_closed (sign_open line 44 Comma refl refl refl (λ rest. refl)))

-- the end of a statement and of its line
pub end_open : (line : ℕ) (rest : List ℕ) → tokens_of line (codes ";\n" ++ rest) ≡ with_tokens (sign_token line Semicolon ∷ []) (tokens_of (line + 1) rest)
unfolding tokens_from
end_open line rest = (sign_open line 59 Semicolon refl refl refl (λ s. refl)).it (codes "\n" ++ rest)

dot_at : (s : List ℕ) → begins_with (λ c. c == 46) s ≡ false → front 46 s ≡ taken (sign Dot) s
dot_at s h = rw h refl

-- a dot before a name
pub dot_closed : (line : ℕ) (p : List ℕ) (ts : List Token) → ((rest : List ℕ) → begins_with (λ c. c == 46) (p ++ rest) ≡ false) → Closed line p ts → Closed line (codes "." ++ p) (sign_token line Dot ∷ ts)
dot_closed line p ts no_dot c = record {
  it = λ rest h. token_step line 46 (p ++ rest) (sign Dot) (p ++ rest) refl refl refl (dot_at (p ++ rest) (no_dot rest)) ∙ ap (with_tokens (sign_token line Dot ∷ [])) (c.it rest h) ∙ with_both (sign_token line Dot ∷ []) ts (tokens_of line rest);
}
