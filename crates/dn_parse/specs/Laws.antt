-- The laws that tie the machine to the grammar: with them its stops are the places that the grammar names.
use Rattle.std.specs.Prelude.{◌≡◌, ◌≤◌, ◌-◌, ◌⊎◌, ℕ, suc, false, List, [], ◌∷◌, ◌++◌, length, All, count_by}
use Rattle.dn_token.specs.declared.token.Sign.TheVariants.{OpenParenthesis, CloseParenthesis, Semicolon}
use Rattle.dn_token.specs.Token.{Token, sign}
use Rattle.dn_parse.specs.Tree.{Placed}
use Rattle.dn_parse.specs.Syntax.{SpellsText, Viable}
use Rattle.dn_parse.specs.Forms.{is_sign}
use Rattle.dn_parse.specs.Machine.{Stop, whole, refused, deep, Outcome, ReadingPlace, between, run}

-- What is refused at a token, or nested too deep there, is so whatever follows it.
abbrev pub StopIsFinal : Type 0
StopIsFinal = (p : ReadingPlace) (front : List Token) (t : Token) (r r' : List Token) → ((run p (front ++ t ∷ r)).stop ≡ refused (suc (length r)) → (run p (front ++ t ∷ r')).stop ≡ refused (suc (length r')))
    × ((run p (front ++ t ∷ r)).stop ≡ deep (suc (length r)) → (run p (front ++ t ∷ r')).stop ≡ deep (suc (length r')))

-- What is read to its end is a spelling of the statements that were read.
abbrev pub ReadIsSpelled : Type 0
ReadIsSpelled = (ts : List Token) → (run between ts).stop ≡ whole → SpellsText ts (run between ts).statements

-- the reading stops at a parenthesis that is nested too deep
abbrev pub IsDeep : Stop → Type 0
IsDeep whole = ⊥
IsDeep (refused n) = ⊥
IsDeep (deep n) = Unit {0}

-- Each spelling is read as its statements, unless a parenthesis in it is nested too deep.
abbrev pub SpelledIsRead : Type 0
SpelledIsRead = (ts : List Token) (ss : List Placed) → SpellsText ts ss → (((run between ts).stop ≡ whole) × ((run between ts).statements ≡ ss)) ⊎ IsDeep (run between ts).stop

-- with one token more, or at its end, a list is no spelling, nor the front of one
abbrev pub IsEnded : List Token → List Token → Type 0
IsEnded front [] = (ss : List Placed) → SpellsText front ss → ⊥
IsEnded front (t ∷ rest) = Viable (front ++ t ∷ []) → ⊥

-- The place of a refusal: the tokens before it are viable, and with the token there they are not; at the end of the text they are no spelling.
abbrev pub RefusedIsFirst : Type 0
RefusedIsFirst = (ts : List Token) (n : ℕ) → (run between ts).stop ≡ refused n → (front : List Token) × (rest : List Token) × (ts ≡ front ++ rest) × (n ≡ length rest) × Viable front × IsEnded front rest

-- so many of these tokens open a parenthesis
abbrev pub opening_count : List Token → ℕ
opening_count ts = count_by (λ t. is_sign OpenParenthesis t.lexeme) ts

-- so many of these tokens close one
abbrev pub closing_count : List Token → ℕ
closing_count ts = count_by (λ t. is_sign CloseParenthesis t.lexeme) ts

-- the parentheses that are open behind these tokens
abbrev pub open_parentheses : List Token → ℕ
open_parentheses ts = opening_count ts - closing_count ts

-- The place of a nesting: a parenthesis that a form allows there, before which 32 are open.
abbrev pub DeepIsFirst : Type 0
DeepIsFirst = (ts : List Token) (n : ℕ) → (run between ts).stop ≡ deep n → (front : List Token) × (t : Token) × (rest : List Token) × (ts ≡ front ++ t ∷ rest) × (n ≡ suc (length rest)) × Viable (front ++ t ∷ []) × (t.lexeme ≡ sign OpenParenthesis) × (open_parentheses front ≡ 32)

-- so many tokens are left where the reading stops
abbrev pub left_at : Stop → ℕ
left_at whole = 0
left_at (refused n) = n
left_at (deep n) = n

-- the token ends no statement
abbrev pub EndsNoStatement : Token → Type 0
EndsNoStatement t = is_sign Semicolon t.lexeme ≡ false

-- Before the place where the reading stops stand the tokens of the statements that were read, and then those of a
-- statement that has begun: no `;` is among these, and so no whole statement.
abbrev pub IsStoppedIn : List Token → Outcome → Type 0
IsStoppedIn ts o = (before : List Token) × (inside : List Token) × (rest : List Token)
    × (ts ≡ before ++ inside ++ rest) × (left_at o.stop ≡ length rest)
    × SpellsText before o.statements × All EndsNoStatement inside

-- Wherever the reading stops, the statements that were read are kept, and none is passed over.
abbrev pub StopKeepsStatements : Type 0
StopKeepsStatements = (ts : List Token) → IsStoppedIn ts (run between ts)

-- at no place in a list are more than 32 parentheses open
abbrev pub IsShallowText : List Token → Type 0
IsShallowText ts = (front rest : List Token) → ts ≡ front ++ rest → open_parentheses front ≤ 32

-- The first 33rd parenthesis that a form allows stops the reading there.
abbrev pub DeepStops : Type 0
DeepStops = (front : List Token) (t : Token) (rest : List Token) → IsShallowText front → Viable (front ++ t ∷ []) →
    t.lexeme ≡ sign OpenParenthesis → open_parentheses front ≡ 32 → (run between (front ++ t ∷ rest)).stop ≡ deep (suc (length rest))

-- Each spelling with at most 32 parentheses open at once is read as its statements.
abbrev pub ShallowIsRead : Type 0
ShallowIsRead = (ts : List Token) (ss : List Placed) → SpellsText ts ss → IsShallowText ts →
    ((run between ts).stop ≡ whole) × ((run between ts).statements ≡ ss)
