-- A machine that reads tokens one by one, by the forms that may still come.
use Rattle.std.specs.Prelude.{ℕ, suc, ◌+◌, ◌-◌, ◌==◌, Bool, true, false, if◌then◌else◌, ◌&&◌, List, [], ◌∷◌, ◌++◌, length}
use Rattle.dn_token.specs.declared.token.Sign.TheVariants.{Semicolon, OpenParenthesis, CloseParenthesis}
use Rattle.dn_token.specs.Token.{Lexeme, Token}
use Rattle.dn_parse.specs.Tree.{Placed}
use Rattle.dn_parse.specs.Actions.{Value, perform}
use Rattle.dn_parse.specs.Forms.{Form, takes, does, and_then, either, many, parenthesised, is, is_sign, values_with_token}
use Rattle.dn_parse.specs.Syntax.{statement_form, after_open, statement_of}

-- what a form does at a token: it takes it, and then these forms follow, with these values; it may be left out, with these values; or it allows no such token
pub data Move : Type 0 where
  to : List Form → List Value → Move
  skips : List Value → Move
  refuses : Move

-- a token is taken, and these forms follow it, or it is refused
abbrev pub move_of_token : Bool → List Form → List Value → Move
move_of_token true k vs = to k vs
move_of_token false k vs = refuses

-- one form and then another
abbrev pub move_and_then : Move → Form → (List Value → Move) → Move
move_and_then (to k vs) g next = to (k ++ g ∷ []) vs
move_and_then (skips vs) g next = next vs
move_and_then refuses g next = refuses

-- one form or else another
abbrev pub move_or_else : Move → Move → Move
move_or_else (to k vs) m = to k vs
move_or_else (skips vs) m = skips vs
move_or_else refuses m = m

-- a form again and again
abbrev pub move_again : Move → Form → List Value → Move
move_again (to k ws) f vs = to (k ++ f ∷ []) ws
move_again (skips ws) f vs = skips vs
move_again refuses f vs = skips vs

-- what a form does at a token
abbrev pub move : Form → List Value → Lexeme → Move
move (takes s) vs l = move_of_token (is s l) [] (values_with_token s l vs)
move (does a) vs l = skips (perform a vs)
move (and_then f g) vs l = move_and_then (move f vs l) g (λ ws. move g ws l)
move (either f g) vs l = move_or_else (move f vs l) (move g vs l)
move (many f) vs l = move_again (move f vs l) (many f) vs
move parenthesised vs l = move_of_token (is_sign OpenParenthesis l) (after_open ∷ []) vs

-- what a token does to the forms that may still come, and to the values; where none is left a `;` ends the statement
pub data Fed : Type 0 where
  on : List Form → List Value → Fed
  over : List Value → Fed
  stuck : Fed

-- the statement ends at a `;`, and at no other token
abbrev pub fed_at_end : Bool → List Value → Fed
fed_at_end true vs = over vs
fed_at_end false vs = stuck

-- what a move of the first form makes of all of them
abbrev pub fed_by_move : Move → List Form → (List Value → Fed) → Fed
fed_by_move (to k' vs) k next = on (k' ++ k) vs
fed_by_move (skips vs) k next = next vs
fed_by_move refuses k next = stuck

-- what a token does to the forms that may still come
abbrev pub feed : List Form → List Value → Lexeme → Fed
feed [] vs l = fed_at_end (is_sign Semicolon l) vs
feed (f ∷ k) vs l = fed_by_move (move f vs l) k (λ ws. feed k ws l)

-- the parentheses that are open after a token; behind a `;`, which ends a statement, there is none
abbrev pub parentheses : ℕ → Lexeme → ℕ
parentheses n l = if is_sign OpenParenthesis l then n + 1 else (if is_sign CloseParenthesis l then n - 1 else (if is_sign Semicolon l then 0 else n))

-- a 33rd parenthesis is opened
abbrev pub is_deep : ℕ → Lexeme → Bool
is_deep n l = is_sign OpenParenthesis l && (n == 32)

-- where the reading stops: at the end of the text, between statements; at the first token that no form allows, or at the end inside a statement; or at a 33rd parenthesis.
-- The number is that of the tokens that are left, the token at which it stops among them.
pub data Stop : Type 0 where
  whole : Stop
  refused : ℕ → Stop
  deep : ℕ → Stop

-- the statements that were read, and where the reading stopped
pub record Outcome : Type 0 where
  pub statements : List Placed
  pub stop : Stop

-- nothing was read before the stop
abbrev pub stop_outcome : Stop → Outcome
stop_outcome s = record { statements = []; stop = s }

-- one statement more before what was read
abbrev pub with_statement : Placed → Outcome → Outcome
with_statement p o = record { statements = p ∷ o.statements; stop = o.stop }

-- the machine stands between statements, or in one that began in a line, with so many parentheses open, and these forms may still come
pub data ReadingPlace : Type 0 where
  between : ReadingPlace
  inside : ℕ → ℕ → List Form → List Value → ReadingPlace

-- the end of the text
abbrev pub at_end : ReadingPlace → Outcome
at_end between = stop_outcome whole
at_end (inside line opened k vs) = stop_outcome (refused 0)

-- the reading goes on inside a statement, unless a parenthesis there is nested too deep
abbrev pub go_in : Bool → ReadingPlace → ℕ → (ReadingPlace → Outcome) → Outcome
go_in true p left next = stop_outcome (deep left)
go_in false p left next = next p

-- the reading goes on, or stops, by what a token did to the forms
abbrev pub go : Fed → ℕ → ℕ → Lexeme → ℕ → (ReadingPlace → Outcome) → Outcome
go (on k vs) line opened l left next = go_in (is_deep opened l) (inside line (parentheses opened l) k vs) left next
go (over vs) line opened l left next = with_statement (record { line = line; statement = statement_of vs }) (next between)
go stuck line opened l left next = stop_outcome (refused left)

-- a token at a place
abbrev pub turn : ReadingPlace → Token → ℕ → (ReadingPlace → Outcome) → Outcome
turn between t left next = go (feed (statement_form ∷ []) [] t.lexeme) t.line 0 t.lexeme left next
turn (inside line opened k vs) t left next = go (feed k vs t.lexeme) line opened t.lexeme left next

-- the reading from a place to the end, or to where it stops
abbrev pub run : ReadingPlace → List Token → Outcome
run p [] = at_end p
run p (t ∷ ts) = turn p t (suc (length ts)) (λ q. run q ts)
