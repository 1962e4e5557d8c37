-- Each part of the whole grammar, read from the front of a list of tokens: its value and the tokens after it, or where the reading stops.
use Rattle.std.specs.Prelude.{ℕ, zero, suc, Bool, true, false, if◌then◌else◌, ◌&&◌, not, List, [], ◌∷◌, ◌++◌, length, codes, Option, Some, None, Result, Ok, Err}
use Rattle.dn_parse.specs.declared.syntax.Mode.{Mode}
use Rattle.dn_parse.specs.declared.syntax.Mode.TheVariants.{Unsaid, Read as ForRead, Write as ForWrite}
use Rattle.dn_token.specs.declared.token.Keyword.{Keyword}
use Rattle.dn_token.specs.declared.token.Keyword.TheVariants.{Agent, Vectors, Unit as UnitWord, Module, Use, For, In, End, Begin, Is, Accept, Map, To, And, At, Over, Kind, Page, Slots, Reach, As, Num, Node, Resolve, Lookup, View, Grant, Route, Revoke, Dump, Split, Absorb}
use Rattle.dn_token.specs.declared.token.Sign.{Sign}
use Rattle.dn_token.specs.declared.token.Sign.TheVariants.{Semicolon, Comma, OpenBracket, CloseBracket, OpenParenthesis, CloseParenthesis, Minus, Plus, Times, Dot, Dots}
use Rattle.dn_token.specs.Token.{Lexeme, Token, word, keyword, number, sign}
use Rattle.dn_token.specs.Words.{spelling}
use Rattle.std.specs.Str.{bytes_eq}
use Rattle.dn_parse.specs.Tree.{Expression, constant, variable, minus, Part, Block, Dest, Entry, Role, plain_role, agent_role, vectors_role, Spec, Param, number_param, node_param, Arg, number_arg, node_arg, Declaration, node, unit, Order, resolve, lookup, view, grant, route, revoke, dump, split, absorb, radix, gather, Piece, Statement, declares, heads_module, uses, heads_loop, ends, begins, orders}
use Rattle.dn_parse.specs.Actions.{sum_of_members, product_of_members}
use Rattle.dn_parse.specs.Forms.{is_sign, is_keyword, is_the_word, is_command_word}
use Rattle.dn_parse.specs.Machine.{Stop, refused, deep}

-- what follows a part that is read; a stop is final
abbrev pub and_then : {A B : Type 0} → Result A Stop → (A → Result B Stop) → Result B Stop
and_then (Ok a) f = f a
and_then (Err s) f = Err s

infixl 10 ◌>>=◌
-- the same between two readings
abbrev pub ◌>>=◌ : {A B : Type 0} → Result A Stop → (A → Result B Stop) → Result B Stop
r >>= f = and_then r f

-- a part and the tokens after it
abbrev pub Read : Type 0 → Type 0
Read X = Result (X × List Token) Stop

-- a part that may be left out, and the tokens after it
abbrev pub Next : Type 0 → Type 0
Next X = Result (Option (X × List Token)) Stop

-- the reading of a part from a list of tokens
abbrev pub Reader : Type 0 → Type 0
Reader X = List Token → Read X

-- the first of these tokens is refused, or the end where none is left
abbrev pub refuses_at : {A : Type 0} → List Token → Result A Stop
refuses_at ts = Err (refused (length ts))

-- a part that may be left out: what follows its first token, if that is there
abbrev pub if_there : {A B : Type 0} → Option A → (A → B) → B → B
if_there None present absent = absent
if_there (Some rest) present absent = present rest

-- one token
abbrev pub after : (Lexeme → Bool) → List Token → Option (List Token)
after test [] = None
after test (t ∷ ts) = if test t.lexeme then Some ts else None

-- what follows this sign, if it is the first token
unfoldable pub after_sign : Sign → List Token → Option (List Token)
after_sign s ts = after (is_sign s) ts

-- what follows this reserved word, if it is the first token
unfoldable pub after_keyword : Keyword → List Token → Option (List Token)
after_keyword k ts = after (is_keyword k) ts

-- what follows this word, which is not reserved, if it is the first token
unfoldable pub after_word : List ℕ → List Token → Option (List Token)
after_word w ts = after (is_the_word w) ts

-- the tokens that were found, or the refusal of the first one
abbrev pub or_refused : Option (List Token) → List Token → Result (List Token) Stop
or_refused None ts = refuses_at ts
or_refused (Some rest) ts = Ok rest

-- this sign
unfoldable pub sign_at : Sign → List Token → Result (List Token) Stop
sign_at s ts = or_refused (after_sign s ts) ts

-- this reserved word
unfoldable pub keyword_at : Keyword → List Token → Result (List Token) Stop
keyword_at k ts = or_refused (after_keyword k ts) ts

-- this word, which is not reserved
unfoldable pub the_word_at : List ℕ → List Token → Result (List Token) Stop
the_word_at w ts = or_refused (after_word w ts) ts

-- the text of a word that is not reserved
abbrev pub word_of : Lexeme → Option (List ℕ)
word_of (word w) = Some w
word_of _ = None

-- the text of a word, reserved or not
abbrev pub any_of : Lexeme → Option (List ℕ)
any_of (word w) = Some w
any_of (keyword k) = Some (spelling k)
any_of _ = None

-- a value with the tokens after it, or the refusal of the first token
abbrev pub value_or_refused : {A : Type 0} → Option A → List Token → List Token → Read A
value_or_refused None rest ts = refuses_at ts
value_or_refused (Some a) rest ts = Ok (a, rest)

-- the value of the first token, where it has one
abbrev pub value_at : {A : Type 0} → (Lexeme → Option A) → Reader A
value_at value [] = refuses_at []
value_at value (t ∷ ts) = value_or_refused (value t.lexeme) ts (t ∷ ts)

-- a word that is not reserved
unfoldable pub word_at : Reader (List ℕ)
word_at ts = value_at word_of ts

-- a word, reserved or not
unfoldable pub any_word_at : Reader (List ℕ)
any_word_at ts = value_at any_of ts

-- a row of parts: `next` says which stands at the front, or that the row ends there
abbrev pub with_front : {X : Type 0} → List X → Read (List X) → Read (List X)
with_front front (Err s) = Err s
with_front front (Ok r) = Ok (front ++ r.0, r.1)

-- the part that was found and then the rest of the row, or its end
abbrev pub row_from : {X : Type 0} → List Token → Option (X × List Token) → Reader (List X) → Read (List X)
row_from ts None more = Ok ([], ts)
row_from ts (Some x) more = with_front (x.0 ∷ []) (more x.1)

-- at most so many
abbrev pub row : {X : Type 0} → (List Token → Next X) → ℕ → Reader (List X)
row next zero ts = Ok ([], ts)
row next (suc n) ts = next ts >>= λ found. row_from ts found (row next n)

-- as many as there are
unfoldable pub row_at : {X : Type 0} → (List Token → Next X) → Reader (List X)
row_at next ts = row next (suc (length ts)) ts

-- a part that is there
abbrev pub one_more : {X : Type 0} → Read X → Next X
one_more r = r >>= λ x. Ok (Some x)

-- a part behind a `,`, or none
abbrev pub after_comma : {X : Type 0} → Reader X → List Token → Next X
after_comma reader ts = if_there (after_sign Comma ts) (λ rest. one_more (reader rest)) (Ok None)

-- one part, and then a row
abbrev pub first_and : {X : Type 0} → Reader X → (List Token → Next X) → Reader (List X)
first_and reader next ts = reader ts >>= λ first. with_front (first.0 ∷ []) (row_at next first.1)

-- this sign and one more part, or none
abbrev pub next_by : Sign → Reader Expression → List Token → Next Expression
next_by s reader ts = if_there (after_sign s ts) (λ rest. one_more (reader rest)) (Ok None)

-- factor { "*" factor }, where the reading of a factor is given
abbrev pub term_with : Reader Expression → Reader Expression
term_with factor ts = first_and factor (next_by Times factor) ts >>= λ members. Ok (product_of_members members.0, members.1)

-- term { "+" term }, where the reading of a term is given
abbrev pub expr_with : Reader Expression → Reader Expression
expr_with term ts = first_and term (next_by Plus term) ts >>= λ members. Ok (sum_of_members members.0, members.1)

-- expr ")", behind the `-`, where the part before it and the reading of an expression are given
abbrev pub less_with : Reader Expression → Expression → Reader Expression
less_with expr first ts = do
  second ← expr ts
  rest ← sign_at CloseParenthesis second.1
  Ok (minus first second.0, rest)

-- expr [ "-" expr ] ")", where the reading of an expression is given
abbrev pub after_open_with : Reader Expression → Reader Expression
after_open_with expr ts = do
  first ← expr ts
  if_there (after_sign Minus first.1) (less_with expr first.0) (sign_at CloseParenthesis first.1 >>= λ rest. Ok (first.0, rest))

-- what follows a parenthesis, or the refusal of any other sign
abbrev pub at_sign : Bool → List Token → Read Expression → Read Expression
at_sign true ts inner = inner
at_sign false ts inner = refuses_at ts

-- the factor that begins with this lexeme
abbrev pub factor_of : Lexeme → List Token → List Token → Read Expression → Read Expression
factor_of (number n) rest ts inner = Ok (constant n, rest)
factor_of (word w) rest ts inner = Ok (variable w, rest)
factor_of (keyword k) rest ts inner = refuses_at ts
factor_of (sign s) rest ts inner = at_sign (is_sign OpenParenthesis (sign s)) ts inner

-- a factor, where the reading behind a parenthesis is given
abbrev pub factor_with : (List Token → List Token → Read Expression) → Reader Expression
factor_with inner [] = refuses_at []
factor_with inner (t ∷ ts) = factor_of t.lexeme ts (t ∷ ts) (inner (t ∷ ts) ts)

-- what follows a parenthesis, where so many may still be opened
abbrev pub nested_at : ℕ → List Token → List Token → Read Expression
nested_at zero ts rest = Err (deep (length ts))
nested_at (suc d) ts rest = after_open_with (expr_with (term_with (factor_with (nested_at d)))) rest

-- number | word | "(" .., where so many parentheses may still be opened
unfoldable pub factor_at : ℕ → Reader Expression
factor_at d ts = factor_with (nested_at d) ts

-- [ "*" factor ]
unfoldable pub next_factor_at : ℕ → List Token → Next Expression
next_factor_at d ts = next_by Times (factor_at d) ts

-- factor { "*" factor }, member by member
unfoldable pub factors_at : ℕ → Reader (List Expression)
factors_at d ts = first_and (factor_at d) (next_factor_at d) ts

-- factor { "*" factor }, as one expression
unfoldable pub term_at : ℕ → Reader Expression
term_at d ts = factors_at d ts >>= λ members. Ok (product_of_members members.0, members.1)

-- [ "+" term ]
unfoldable pub next_term_at : ℕ → List Token → Next Expression
next_term_at d ts = next_by Plus (term_at d) ts

-- term { "+" term }, member by member
unfoldable pub terms_at : ℕ → Reader (List Expression)
terms_at d ts = first_and (term_at d) (next_term_at d) ts

-- term { "+" term }, as one expression
unfoldable pub expr_at : ℕ → Reader Expression
expr_at d ts = terms_at d ts >>= λ members. Ok (sum_of_members members.0, members.1)

-- expr [ "-" expr ] ")"
unfoldable pub after_open_at : ℕ → Reader Expression
after_open_at d ts = after_open_with (expr_at d) ts

-- one part, and then at most so many more
abbrev pub first_and_most : {X : Type 0} → ℕ → Reader X → (List Token → Next X) → Reader (List X)
first_and_most n reader next ts = reader ts >>= λ first. with_front (first.0 ∷ []) (row next n first.1)

-- an expression that may be left out, behind what begins it
abbrev pub expr_after : Reader Expression → Option (List Token) → List Token → Read (Option Expression)
expr_after reader found ts = if_there found (λ rest. reader rest >>= λ e. Ok (Some e.0, e.1)) (Ok (None, ts))

-- "[" a part "]"
abbrev pub in_brackets : {X : Type 0} → Reader X → Reader X
in_brackets reader ts = do
  inner ← sign_at OpenBracket ts
  found ← reader inner
  rest ← sign_at CloseBracket found.1
  Ok (found.0, rest)

-- [ "[" expr "]" ]
unfoldable pub index_at : ℕ → Reader (Option Expression)
index_at d ts = if_there (after_sign OpenBracket ts) (λ inner. expr_at d inner >>= λ e. sign_at CloseBracket e.1 >>= λ rest. Ok (Some e.0, rest)) (Ok (None, ts))

-- word [ "[" expr "]" ]
unfoldable pub part_at : ℕ → Reader Part
part_at d ts = do
  title ← word_at ts
  index ← index_at d title.1
  Ok (record { title = title.0; index = index.0 }, index.1)

-- [ "." part ]
unfoldable pub next_part_at : ℕ → List Token → Next Part
next_part_at d ts = if_there (after_sign Dot ts) (λ rest. one_more (part_at d rest)) (Ok None)

-- part { "." part }
unfoldable pub name_at : ℕ → Reader (List Part)
name_at d ts = first_and (part_at d) (next_part_at d) ts

-- [ "-" expr ]
unfoldable pub upper_at : Reader (Option Expression)
upper_at ts = expr_after (expr_at 32) (after_sign Minus ts) ts

-- expr [ "-" expr ]
unfoldable pub block_at : Reader Block
block_at ts = do
  lo ← expr_at 32 ts
  hi ← upper_at lo.1
  Ok (record { lo = lo.0; hi = hi.0 }, hi.1)

-- [ "," block ]
unfoldable pub next_block_at : List Token → Next Block
next_block_at ts = after_comma block_at ts

-- block { "," block }
unfoldable pub blocks_at : Reader (List Block)
blocks_at ts = first_and block_at next_block_at ts

-- [ "at" expr ]
unfoldable pub addr_at : Reader (Option Expression)
addr_at ts = expr_after (expr_at 32) (after_keyword At ts) ts

-- name [ "at" expr ]
unfoldable pub dest_at : Reader Dest
dest_at ts = do
  name ← name_at 32 ts
  addr ← addr_at name.1
  Ok (record { name = name.0; addr = addr.0 }, addr.1)

-- [ "and" dest ]
unfoldable pub next_dest_at : List Token → Next Dest
next_dest_at ts = if_there (after_keyword And ts) (λ rest. one_more (dest_at rest)) (Ok None)

-- dest { "and" dest }, at most eight
unfoldable pub dests_at : Reader (List Dest)
dests_at ts = first_and_most 7 dest_at next_dest_at ts

-- block "to" dest { "and" dest }
unfoldable pub entry_at : Reader Entry
entry_at ts = do
  block ← block_at ts
  rest ← keyword_at To block.1
  dests ← dests_at rest
  Ok (record { block = block.0; dests = dests.0 }, dests.1)

-- [ "," entry ]
unfoldable pub next_entry_at : List Token → Next Entry
next_entry_at ts = after_comma entry_at ts

-- entry { "," entry }
unfoldable pub entries_at : Reader (List Entry)
entries_at ts = first_and entry_at next_entry_at ts

-- [ "accept" "[" block { "," block } "]" ]
unfoldable pub accept_at : Reader (List Block)
accept_at ts = if_there (after_keyword Accept ts) (in_brackets blocks_at) (Ok ([], ts))

-- [ "map" "[" entry { "," entry } "]" ]
unfoldable pub map_at : Reader (List Entry)
map_at ts = if_there (after_keyword Map ts) (in_brackets entries_at) (Ok ([], ts))

-- [ "over" name ]
unfoldable pub over_at : Reader (Option (List Part))
over_at ts = if_there (after_keyword Over ts) (λ rest. name_at 32 rest >>= λ name. Ok (Some name.0, name.1)) (Ok (None, ts))

-- the parts of a node, of which each may be left out
unfoldable pub spec_at : Reader Spec
spec_at ts = do
  accepts ← accept_at ts
  entries ← map_at accepts.1
  over ← over_at entries.1
  Ok (record { accepts = accepts.0; entries = entries.0; over = over.0 }, over.1)

-- "num" word, or "node" word
unfoldable pub param_at : Reader Param
param_at ts = if_there (after_keyword Num ts) (λ rest. word_at rest >>= λ w. Ok (number_param w.0, w.1)) (keyword_at Node ts >>= λ rest. word_at rest >>= λ w. Ok (node_param w.0, w.1))

-- [ "," param ]
unfoldable pub next_param_at : List Token → Next Param
next_param_at ts = after_comma param_at ts

-- param { "," param }
unfoldable pub params_at : Reader (List Param)
params_at ts = first_and param_at next_param_at ts

-- [ param { "," param } ] ")"
unfoldable pub closed_params_at : Reader (List Param)
closed_params_at ts = if_there (after_sign CloseParenthesis ts) (λ rest. Ok ([], rest)) (params_at ts >>= λ ps. sign_at CloseParenthesis ps.1 >>= λ rest. Ok (ps.0, rest))

-- expr, or "node" name; one parenthesis is open round them
unfoldable pub arg_at : Reader Arg
arg_at ts = if_there (after_keyword Node ts) (λ rest. name_at 31 rest >>= λ n. Ok (node_arg n.0, n.1)) (expr_at 31 ts >>= λ e. Ok (number_arg e.0, e.1))

-- [ "," arg ]
unfoldable pub next_arg_at : List Token → Next Arg
next_arg_at ts = after_comma arg_at ts

-- arg { "," arg }
unfoldable pub args_at : Reader (List Arg)
args_at ts = first_and arg_at next_arg_at ts

-- [ arg { "," arg } ] ")"
unfoldable pub closed_args_at : Reader (List Arg)
closed_args_at ts = if_there (after_sign CloseParenthesis ts) (λ rest. Ok ([], rest)) (args_at ts >>= λ xs. sign_at CloseParenthesis xs.1 >>= λ rest. Ok (xs.0, rest))

-- [ "," name ]
unfoldable pub next_port_at : List Token → Next (List Part)
next_port_at ts = after_comma (name_at 32) ts

-- name { "," name }, at most eight
unfoldable pub ports_at : Reader (List (List Part))
ports_at ts = first_and_most 7 (name_at 32) next_port_at ts

-- name "is" spec
unfoldable pub node_at : Role → Reader Declaration
node_at role ts = do
  name ← name_at 32 ts
  rest ← keyword_at Is name.1
  spec ← spec_at rest
  Ok (node role name.0 spec.0, spec.1)

-- this reserved word and an expr
unfoldable pub measure_at : Keyword → Reader Expression
measure_at k ts = keyword_at k ts >>= λ rest. expr_at 32 rest

-- name "kind" any "page" expr "slots" expr "reach" expr "to" name { "," name }
unfoldable pub unit_declaration_at : Reader Declaration
unit_declaration_at ts = do
  name ← name_at 32 ts
  rest ← keyword_at Kind name.1
  kind ← any_word_at rest
  page ← measure_at Page kind.1
  slots ← measure_at Slots page.1
  reach ← measure_at Reach slots.1
  rest ← keyword_at To reach.1
  ports ← ports_at rest
  Ok (unit name.0 kind.0 page.0 slots.0 reach.0 ports.0, ports.1)

-- word "(" [ param { "," param } ] ")"
unfoldable pub module_at : Reader Statement
module_at ts = do
  title ← word_at ts
  rest ← sign_at OpenParenthesis title.1
  params ← closed_params_at rest
  Ok (heads_module title.0 params.0, params.1)

-- word "(" [ arg { "," arg } ] ")" "as" name
unfoldable pub use_at : Reader Statement
use_at ts = do
  title ← word_at ts
  rest ← sign_at OpenParenthesis title.1
  args ← closed_args_at rest
  rest ← keyword_at As args.1
  prefix ← name_at 32 rest
  Ok (uses title.0 args.0 prefix.0, prefix.1)

-- word "in" expr ".." expr
unfoldable pub loop_at : Reader Statement
loop_at ts = do
  title ← word_at ts
  from ← measure_at In title.1
  rest ← sign_at Dots from.1
  upto ← expr_at 32 rest
  Ok (heads_loop title.0 from.0 upto.0, upto.1)

-- "read", or "write"
unfoldable pub mode_at : Reader Mode
mode_at ts = if_there (after_word (codes "read") ts) (λ rest. Ok (ForRead, rest)) (the_word_at (codes "write") ts >>= λ rest. Ok (ForWrite, rest))

-- [ "for" ( "read" | "write" ) ]
unfoldable pub access_at : Reader Mode
access_at ts = if_there (after_keyword For ts) (λ rest. mode_at rest) (Ok (Unsaid, ts))

-- name expr [ access ]
unfoldable pub resolve_at : Reader Order
resolve_at ts = do
  name ← name_at 32 ts
  addr ← expr_at 32 name.1
  access ← access_at addr.1
  Ok (resolve name.0 addr.0 access.0, access.1)

-- name expr [ access ]
unfoldable pub lookup_at : Reader Order
lookup_at ts = do
  name ← name_at 32 ts
  addr ← expr_at 32 name.1
  access ← access_at addr.1
  Ok (lookup name.0 addr.0 access.0, access.1)

-- name [ access ]
unfoldable pub view_at : Reader Order
view_at ts = do
  name ← name_at 32 ts
  access ← access_at name.1
  Ok (view name.0 access.0, access.1)

-- word name name expr expr [ access ]
unfoldable pub grant_at : Reader Order
grant_at ts = do
  id ← word_at ts
  agent ← name_at 32 id.1
  name ← name_at 32 agent.1
  base ← expr_at 32 name.1
  size ← expr_at 32 base.1
  access ← access_at size.1
  Ok (grant id.0 agent.0 name.0 base.0 size.0 access.0, access.1)

-- word name expr name
unfoldable pub route_at : Reader Order
route_at ts = do
  id ← word_at ts
  agent ← name_at 32 id.1
  line ← expr_at 32 agent.1
  name ← name_at 32 line.1
  Ok (route id.0 agent.0 line.0 name.0, name.1)

-- name expr
unfoldable pub radix_at : Reader Order
radix_at ts = do
  name ← name_at 32 ts
  pool ← expr_at 32 name.1
  Ok (radix name.0 pool.0, pool.1)

-- word name expr expr
unfoldable pub piece_at : Reader Piece
piece_at ts = do
  id ← word_at ts
  name ← name_at 32 id.1
  base ← expr_at 32 name.1
  size ← expr_at 32 base.1
  Ok (record { id = id.0; node = name.0; base = base.0; size = size.0 }, size.1)

-- [ "and" piece ]
unfoldable pub next_piece_at : List Token → Next Piece
next_piece_at ts = if_there (after_keyword And ts) (λ rest. one_more (piece_at rest)) (Ok None)

-- piece { "and" piece }, at most eight
unfoldable pub pieces_at : Reader (List Piece)
pieces_at ts = first_and_most 7 piece_at next_piece_at ts

-- name piece { "and" piece } [ access ]
unfoldable pub gather_at : Reader Order
gather_at ts = do
  agent ← name_at 32 ts
  pieces ← pieces_at agent.1
  access ← access_at pieces.1
  Ok (gather agent.0 pieces.0 access.0, access.1)

-- the command that this word begins, which is not reserved and is the word of one
unfoldable pub word_order_at : List ℕ → Reader Order
word_order_at w ts = if bytes_eq w (codes "radix") then radix_at ts else gather_at ts

-- the command that this reserved word begins
unfoldable pub order_at : Keyword → List Token → Reader Order
order_at Resolve ts rest = resolve_at rest
order_at Lookup ts rest = lookup_at rest
order_at View ts rest = view_at rest
order_at Grant ts rest = grant_at rest
order_at Route ts rest = route_at rest
order_at Revoke ts rest = word_at rest >>= λ w. Ok (revoke w.0, w.1)
order_at Dump ts rest = Ok (dump, rest)
order_at Split ts rest = Ok (split, rest)
order_at Absorb ts rest = name_at 32 rest >>= λ n. Ok (absorb n.0, n.1)
order_at _ ts rest = refuses_at ts

-- a declaration as a statement
abbrev pub as_declared : Read Declaration → Read Statement
as_declared r = r >>= λ d. Ok (declares d.0, d.1)

-- a command as a statement
abbrev pub as_ordered : Read Order → Read Statement
as_ordered r = r >>= λ o. Ok (orders o.0, o.1)

-- the statement that this reserved word begins
unfoldable pub keyword_statement_at : Keyword → List Token → Reader Statement
keyword_statement_at Agent ts rest = as_declared (node_at agent_role rest)
keyword_statement_at Vectors ts rest = as_declared (node_at vectors_role rest)
keyword_statement_at UnitWord ts rest = as_declared (unit_declaration_at rest)
keyword_statement_at Module ts rest = module_at rest
keyword_statement_at Use ts rest = use_at rest
keyword_statement_at For ts rest = loop_at rest
keyword_statement_at End ts rest = Ok (ends, rest)
keyword_statement_at Begin ts rest = Ok (begins, rest)
keyword_statement_at k ts rest = as_ordered (order_at k ts rest)

-- a word that is not reserved
abbrev pub is_free : Lexeme → Bool
is_free (word w) = true
is_free (keyword k) = false
is_free (number n) = false
is_free (sign s) = false

-- a word that is not reserved is the first token
abbrev pub begins_word : List Token → Bool
begins_word [] = false
begins_word (t ∷ ts) = is_free t.lexeme

-- this word, which is not reserved, begins a command: it is the word of one, and a word follows it
abbrev pub begins_order : List ℕ → List Token → Bool
begins_order w rest = is_command_word w && begins_word rest

-- the statement that this word begins, which is not reserved: a command, or the declaration of a node
unfoldable pub word_statement_at : List ℕ → List Token → Reader Statement
word_statement_at w ts rest = if begins_order w rest then as_ordered (word_order_at w rest) else as_declared (node_at plain_role ts)

-- the statement that begins with this lexeme
abbrev pub statement_by : Lexeme → List Token → Reader Statement
statement_by (word w) ts rest = word_statement_at w ts rest
statement_by (keyword k) ts rest = keyword_statement_at k ts rest
statement_by (number n) ts rest = refuses_at ts
statement_by (sign s) ts rest = refuses_at ts

-- a lexeme with which the declaration of a node begins, as its name does
abbrev pub is_node_start : Lexeme → List Token → Bool
is_node_start (word w) rest = not (begins_order w rest)
is_node_start (keyword k) rest = false
is_node_start (number n) rest = false
is_node_start (sign s) rest = false

-- the first tokens are those with which the declaration of a node begins, as its name does
abbrev pub begins_node : List Token → Bool
begins_node [] = false
begins_node (t ∷ ts) = is_node_start t.lexeme ts

-- a statement without its `;`
unfoldable pub statement_at : Reader Statement
statement_at [] = refuses_at []
statement_at (t ∷ ts) = statement_by t.lexeme (t ∷ ts) ts

-- a statement and its `;`
unfoldable pub whole_statement_at : Reader Statement
whole_statement_at ts = do
  statement ← statement_at ts
  rest ← sign_at Semicolon statement.1
  Ok (statement.0, rest)
