-- What a grammar is made of, and what it is to spell a form: the tokens, and what they add to the values of the tree.
use Rattle.std.specs.Prelude.{◌≡◌, ◌⊎◌, ℕ, zero, suc, Bool, true, false, not, ◌||◌, List, [], ◌∷◌, ◌++◌, codes}
use Rattle.std.specs.Str.{bytes_eq}
use Rattle.dn_token.specs.declared.token.Keyword.{Keyword}
use Rattle.dn_token.specs.declared.token.Sign.{Sign}
use Rattle.dn_token.specs.Token.{Lexeme, Token, word, keyword, number, sign}
use Rattle.dn_parse.specs.Actions.{Action, Value, perform, text, expression}
use Rattle.dn_token.specs.Words.{same_keyword, same_sign, spelling}
use Rattle.dn_parse.specs.Tree.{constant}

-- a word that is not reserved and that begins a command where a word follows it
abbrev pub is_command_word : List ℕ → Bool
is_command_word w = bytes_eq w (codes "radix") || bytes_eq w (codes "gather")

-- the sorts of tokens: a word that is not reserved, such a word that begins no command, a word of either sort, a number,
-- one word that is not reserved, one reserved word, one sign
pub data Sort : Type 0 where
  a_word : Sort
  a_node_word : Sort
  any_word : Sort
  a_number : Sort
  the_word : List ℕ → Sort
  the_keyword : Keyword → Sort
  the_sign : Sign → Sort

-- a word that is not reserved
abbrev pub is_word : Lexeme → Bool
is_word (word w) = true
is_word _ = false

-- a word that is not reserved and begins no command
abbrev pub is_node_word : Lexeme → Bool
is_node_word (word w) = not (is_command_word w)
is_node_word _ = false

-- a word, reserved or not
abbrev pub is_any : Lexeme → Bool
is_any (word w) = true
is_any (keyword k) = true
is_any _ = false

-- a number
abbrev pub is_number : Lexeme → Bool
is_number (number n) = true
is_number _ = false

-- this word, which is not reserved
abbrev pub is_the_word : List ℕ → Lexeme → Bool
is_the_word w (word v) = bytes_eq v w
is_the_word w _ = false

-- this reserved word
abbrev pub is_keyword : Keyword → Lexeme → Bool
is_keyword k (keyword l) = same_keyword k l
is_keyword k _ = false

-- this sign
abbrev pub is_sign : Sign → Lexeme → Bool
is_sign s (sign u) = same_sign s u
is_sign s _ = false

-- whether a token is of this sort
abbrev pub is : Sort → Lexeme → Bool
is a_word l = is_word l
is a_node_word l = is_node_word l
is any_word l = is_any l
is a_number l = is_number l
is (the_word w) l = is_the_word w l
is (the_keyword k) l = is_keyword k l
is (the_sign s) l = is_sign s l

-- what a token adds to the values: a word its text, a number an expression, and a token that was asked for by its spelling nothing
abbrev pub with_text : Lexeme → List Value → List Value
with_text (word w) vs = text w ∷ vs
with_text (keyword k) vs = text (spelling k) ∷ vs
with_text (number n) vs = expression (constant n) ∷ vs
with_text (sign s) vs = vs

-- what a token of this sort adds to the values
abbrev pub values_with_token : Sort → Lexeme → List Value → List Value
values_with_token a_word l vs = with_text l vs
values_with_token a_node_word l vs = with_text l vs
values_with_token any_word l vs = with_text l vs
values_with_token a_number l vs = with_text l vs
values_with_token (the_word w) l vs = vs
values_with_token (the_keyword k) l vs = vs
values_with_token (the_sign s) l vs = vs

-- a form: one token of a sort; no token but an action on the values; one form and then another; one form or else another; a form zero or more times;
-- or an expression in parentheses, which is named here because expressions stand in each other
pub data Form : Type 0 where
  takes : Sort → Form
  does : Action → Form
  and_then : Form → Form → Form
  either : Form → Form → Form
  many : Form → Form
  parenthesised : Form

-- a form again and again: the tokens of each turn after those of the turn before
abbrev pub Times : (List Token → List Value → List Value → Type 0) → ℕ → List Token → List Value → List Value → Type 0
Times S zero ts vs vs' = (ts ≡ []) × (vs' ≡ vs)
Times S (suc n) ts vs vs' = (xs : List Token) × (ys : List Token) × (ws : List Value) × (ts ≡ xs ++ ys) × S xs vs ws × Times S n ys ws vs'

-- These tokens spell this form, and make these values of those before them. N says what an expression in parentheses is.
abbrev pub Spells : (List Token → List Value → List Value → Type 0) → Form → List Token → List Value → List Value → Type 0
Spells N (takes s) ts vs vs' = (t : Token) × (is s t.lexeme ≡ true) × (ts ≡ t ∷ []) × (vs' ≡ values_with_token s t.lexeme vs)
Spells N (does a) ts vs vs' = (ts ≡ []) × (vs' ≡ perform a vs)
Spells N (and_then f g) ts vs vs' = (xs : List Token) × (ys : List Token) × (ws : List Value) × (ts ≡ xs ++ ys) × Spells N f xs vs ws × Spells N g ys ws vs'
Spells N (either f g) ts vs vs' = Spells N f ts vs vs' ⊎ Spells N g ts vs vs'
Spells N (many f) ts vs vs' = (n : ℕ) × Times (Spells N f) n ts vs vs'
Spells N parenthesised ts vs vs' = N ts vs vs'

-- forms one after another, and a choice between forms
abbrev pub forms_in_order : Form → List Form → Form
forms_in_order f [] = f
forms_in_order f (g ∷ gs) = and_then f (forms_in_order g gs)

-- a choice between forms
abbrev pub one_of : Form → List Form → Form
one_of f [] = f
one_of f (g ∷ gs) = either f (one_of g gs)
