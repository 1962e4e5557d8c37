-- A gather that is read has one to eight pieces.
use Rattle.std.proofs.Common.{ℕ, zero, suc, ◌≤◌, Bool, true, false, cond, List, [], ◌∷◌, length, codes, Option, Some, None, Result, Ok, Err, arith}
use Rattle.std.specs.Str.{bytes_eq}
use Rattle.dn_base.proofs.Lists.{Each}
use Rattle.dn_token.specs.declared.token.Keyword.{Keyword}
use Rattle.dn_token.specs.declared.token.Keyword.TheVariants.{Agent, Vectors, Unit as UnitWord, Module, Use, For, In, End, Begin, As, Resolve, Lookup, View, Grant, Route, Revoke, Dump, Split, Absorb}
use Rattle.dn_token.specs.declared.token.Sign.TheVariants.{Semicolon, OpenParenthesis, Dots}
use Rattle.dn_token.specs.Cursor.{cursor_view}
use Rattle.dn_token.specs.Token.{Lexeme, Token, word, keyword, number, sign}
use Rattle.dn_parse.specs.declared.script.Script.{Script}
use Rattle.dn_parse.specs.Tree.{Declaration, plain_role, agent_role, vectors_role, Piece, Order, gather, Statement, declares, heads_module, uses, heads_loop, ends, begins, orders, Command}
use Rattle.dn_parse.specs.Machine.{Stop}
use Rattle.dn_parse.specs.Descent.{Read, Next, and_then, with_front, row_from, row, word_at, sign_at, keyword_at, name_at, expr_at, access_at, node_at, unit_declaration_at, closed_params_at, closed_args_at, measure_at, module_at, use_at, loop_at, resolve_at, lookup_at, view_at, grant_at, route_at, radix_at, piece_at, next_piece_at, pieces_at, gather_at, word_order_at, order_at, as_declared, as_ordered, keyword_statement_at, begins_order, word_statement_at, statement_by, statement_at, whole_statement_at}
use Rattle.dn_parse.specs.Whole.{first_line}
use Rattle.dn_parse.specs.Commands.{command_of_statement, command_at, command_read, next_in, next_command, with_more, commands_from}
use Rattle.dn_parse.specs.Script.{script_view}

-- an order to gather has one to eight pieces
abbrev pub FewOrder : Order → Type 0
FewOrder (gather agent pieces m) = (1 ≤ length pieces) × (length pieces ≤ 8)
FewOrder o = Unit {0}

abbrev FewStatement : Statement → Type 0
FewStatement (orders o) = FewOrder o
FewStatement s = Unit {0}

-- what is read, where it is read, has a property
abbrev HasBy : {X : Type 0} → (X → Type 0) → Read X → Type 0
HasBy P (Ok p) = P p.0
HasBy P (Err s) = Unit {0}

record Has {X : Type 0} (P : X → Type 0) (r : Read X) : Type 0 where
  it : HasBy P r

there : {X : Type 0} {P : X → Type 0} {x : X} {ts : List Token} → P x → Has P (Ok (x, ts))
there h = record { it = h }

on : {A X : Type 0} {P : X → Type 0} (r : Result A Stop) (f : A → Read X) → ((a : A) → Has P (f a)) → Has P (and_then r f)
on (Ok a) f h = record { it = (h a).it }
on (Err s) f h = record { it = tt }

on_known : {A X : Type 0} {P : X → Type 0} (Q : A → Type 0) (r : Read A) (f : A × List Token → Read X) → Has Q r → ((a : A) (ts : List Token) → Q a → Has P (f (a, ts))) → Has P (and_then r f)
on_known Q (Ok p) f g h = record { it = (h p.0 p.1 g.it).it }
on_known Q (Err s) f g h = record { it = tt }

-- pieces one after another
abbrev AtMost : ℕ → List Piece → Type 0
AtMost n ps = length ps ≤ n

front_most : {n : ℕ} (p : Piece) (r : Read (List Piece)) → Has (AtMost n) r → Has (λ ps. (1 ≤ length ps) × (length ps ≤ suc n)) (with_front (p ∷ []) r)
front_most p (Ok more) h = record { it = let l = h.it in (omega arith, omega (arith, l)) }
front_most p (Err s) h = record { it = tt }

row_most : (next : List Token → Next Piece) (n : ℕ) (ts : List Token) → Has (AtMost n) (row next n ts)
row_most next zero ts = there (omega arith)
row_most next (suc n) ts = go (next ts) (λ us. row_most next n us)
  where
    more : (p : Piece) (r : Read (List Piece)) → Has (AtMost n) r → Has (AtMost (suc n)) (with_front (p ∷ []) r)
    more p (Ok found) h = record { it = let l = h.it in omega (arith, l) }
    more p (Err s) h = record { it = tt }

    go : (r : Next Piece) → ((us : List Token) → Has (AtMost n) (row next n us)) → Has (AtMost (suc n)) (and_then r (λ found. row_from ts found (row next n)))
    go (Err s) h = record { it = tt }
    go (Ok None) h = there (omega arith)
    go (Ok (Some p)) h = more p.0 (row next n p.1) (h p.1)

pieces_few : (ts : List Token) → Has (λ ps. (1 ≤ length ps) × (length ps ≤ 8)) (pieces_at ts)
unfolding pieces_at
pieces_few ts = on (piece_at ts) _ (λ first. front_most first.0 (row next_piece_at 7 first.1) (row_most next_piece_at 7 first.1))

-- commands
gather_few : (ts : List Token) → Has FewOrder (gather_at ts)
unfolding gather_at
gather_few ts = on (name_at 32 ts) _ (λ n. on_known (λ ps. (1 ≤ length ps) × (length ps ≤ 8)) (pieces_at n.1) _ (pieces_few n.1) (λ ps r few. on (access_at r) _ (λ m. there few)))

radix_few : (ts : List Token) → Has FewOrder (radix_at ts)
unfolding radix_at
radix_few ts = on (name_at 32 ts) _ (λ n. on (expr_at 32 n.1) _ (λ e. there tt))

either_few : (b : Bool) (ts : List Token) → Has FewOrder (cond b (radix_at ts) (gather_at ts))
either_few true ts = radix_few ts
either_few false ts = gather_few ts

word_order_few : (w : List ℕ) (ts : List Token) → Has FewOrder (word_order_at w ts)
unfolding word_order_at
word_order_few w ts = either_few (bytes_eq w (codes "radix")) ts

order_few : (k : Keyword) (ts rest : List Token) → Has FewOrder (order_at k ts rest)
unfolding order_at resolve_at lookup_at view_at grant_at route_at
order_few Resolve ts rest = on (name_at 32 rest) _ (λ n. on (expr_at 32 n.1) _ (λ e. on (access_at e.1) _ (λ m. there tt)))
order_few Lookup ts rest = on (name_at 32 rest) _ (λ n. on (expr_at 32 n.1) _ (λ e. on (access_at e.1) _ (λ m. there tt)))
order_few View ts rest = on (name_at 32 rest) _ (λ n. on (access_at n.1) _ (λ m. there tt))
order_few Grant ts rest = on (word_at rest) _ (λ w. on (name_at 32 w.1) _ (λ a. on (name_at 32 a.1) _ (λ n. on (expr_at 32 n.1) _ (λ e. on (expr_at 32 e.1) _ (λ f. on (access_at f.1) _ (λ m. there tt))))))
order_few Route ts rest = on (word_at rest) _ (λ w. on (name_at 32 w.1) _ (λ a. on (expr_at 32 a.1) _ (λ e. on (name_at 32 e.1) _ (λ n. there tt))))
order_few Revoke ts rest = on (word_at rest) _ (λ w. there tt)
order_few Dump ts rest = there tt
order_few Split ts rest = there tt
order_few Absorb ts rest = on (name_at 32 rest) _ (λ n. there tt)
order_few _ ts rest = record { it = tt }

-- statements
declared_few : (r : Read Declaration) → Has FewStatement (as_declared r)
declared_few r = on r _ (λ d. there tt)

ordered_few : (r : Read Order) → Has FewOrder r → Has FewStatement (as_ordered r)
ordered_few r h = on_known FewOrder r _ h (λ o ts few. there few)

keyword_few : (k : Keyword) (ts rest : List Token) → Has FewStatement (keyword_statement_at k ts rest)
unfolding keyword_statement_at module_at use_at loop_at
keyword_few Agent ts rest = declared_few (node_at agent_role rest)
keyword_few Vectors ts rest = declared_few (node_at vectors_role rest)
keyword_few UnitWord ts rest = declared_few (unit_declaration_at rest)
keyword_few Module ts rest = on (word_at rest) _ (λ w. on (sign_at OpenParenthesis w.1) _ (λ r. on (closed_params_at r) _ (λ ps. there tt)))
keyword_few Use ts rest = on (word_at rest) _ (λ w. on (sign_at OpenParenthesis w.1) _ (λ r. on (closed_args_at r) _ (λ xs. on (keyword_at As xs.1) _ (λ q. on (name_at 32 q) _ (λ n. there tt)))))
keyword_few For ts rest = on (word_at rest) _ (λ w. on (measure_at In w.1) _ (λ e. on (sign_at Dots e.1) _ (λ r. on (expr_at 32 r) _ (λ f. there tt))))
keyword_few End ts rest = there tt
keyword_few Begin ts rest = there tt
keyword_few k ts rest = ordered_few (order_at k ts rest) (order_few k ts rest)

word_few : (w : List ℕ) (b : Bool) (ts rest : List Token) → Has FewStatement (cond b (as_ordered (word_order_at w rest)) (as_declared (node_at plain_role ts)))
word_few w true ts rest = ordered_few (word_order_at w rest) (word_order_few w rest)
word_few w false ts rest = declared_few (node_at plain_role ts)

by_few : (l : Lexeme) (ts rest : List Token) → Has FewStatement (statement_by l ts rest)
unfolding word_statement_at
by_few (word w) ts rest = word_few w (begins_order w rest) ts rest
by_few (keyword k) ts rest = keyword_few k ts rest
by_few (number n) ts rest = record { it = tt }
by_few (sign s) ts rest = record { it = tt }

statement_few : (ts : List Token) → Has FewStatement (statement_at ts)
unfolding statement_at
statement_few [] = record { it = tt }
statement_few (t ∷ ts) = by_few t.lexeme (t ∷ ts) ts

whole_few : (ts : List Token) → Has FewStatement (whole_statement_at ts)
unfolding whole_statement_at
whole_few ts = on_known FewStatement (statement_at ts) _ (statement_few ts) (λ s r few. on (sign_at Semicolon r) _ (λ rest. there few))

-- commands one after another
abbrev FewFound : Option (Command × List Token) → Type 0
FewFound None = Unit {0}
FewFound (Some c) = FewOrder c.0.order

of_statement : (line : ℕ) (rest : List Token) (s : Statement) → FewStatement s → FewFound (command_of_statement line rest s)
of_statement line rest (orders o) h = h
of_statement line rest (declares d) h = tt
of_statement line rest (heads_module w ps) h = tt
of_statement line rest (uses w xs n) h = tt
of_statement line rest (heads_loop w from upto) h = tt
of_statement line rest ends h = tt
of_statement line rest begins h = tt

next_few : (ts : List Token) → FewFound (next_command ts)
unfolding next_command command_at
next_few ts = by_line (first_line ts)
  where
    read : (line : ℕ) (r : Read Statement) → Has FewStatement r → FewFound (command_read (and_then r (λ s. Ok (command_of_statement line s.1 s.0))))
    read line (Ok s) h = of_statement line s.1 s.0 h.it
    read line (Err s) h = tt

    by_line : (o : Option ℕ) → FewFound (next_in o ts)
    by_line None = tt
    by_line (Some line) = read line (whole_statement_at ts) (whole_few ts)

from_few : (n : ℕ) (ts : List Token) → Each (λ c. FewOrder c.order) (commands_from n ts)
unfolding commands_from
from_few zero ts = tt
from_few (suc n) ts = go (next_command ts) (next_few ts) (from_few n)
  where
    go : (o : Option (Command × List Token)) → FewFound o → ((us : List Token) → Each (λ c. FewOrder c.order) (commands_from n us)) → Each (λ c. FewOrder c.order) (with_more o (commands_from n))
    go None h more = tt
    go (Some c) h more = (h, more c.1)

-- the commands of a script
pub script_few : (s : Script) → Each (λ c. FewOrder c.order) (script_view s)
unfolding script_view
script_few s = from_few s.count (cursor_view s.first)
