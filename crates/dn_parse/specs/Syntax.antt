-- The grammar of a text, line for line. Beside each form stands what it adds to the tree.
use Rattle.std.specs.Prelude.{◌≡◌, ℕ, zero, suc, List, [], ◌∷◌, ◌++◌, codes}
use Rattle.dn_token.specs.declared.token.Keyword.{Keyword}
use Rattle.dn_token.specs.declared.token.Keyword.TheVariants.{Agent, Vectors, Unit as UnitWord, Module, Use, For, In, End, Begin, Is, Accept, Map, To, And, At, Over, Kind, Page, Slots, Reach, As, Num, Node, Resolve, Lookup, View, Grant, Route, Revoke, Dump, Split, Absorb}
use Rattle.dn_token.specs.declared.token.Sign.{Sign}
use Rattle.dn_token.specs.declared.token.Sign.TheVariants.{Semicolon, Comma, OpenBracket, CloseBracket, OpenParenthesis, CloseParenthesis, Minus, Plus, Times, Dot, Dots}
use Rattle.dn_token.specs.Token.{Token, sign}
use Rattle.dn_parse.specs.Tree.{Statement, Placed, ends}
use Rattle.dn_parse.specs.Actions.{Value, statement, keep, make_variable, first_item, next_item, put_word, make_sum, make_product, make_difference, no_expression, some_expression, make_part, no_name, some_name, make_block, no_blocks, make_dest, make_entry, no_entries, make_spec, make_number_param, make_node_param, no_params, make_number_arg, make_node_arg, no_args, make_plain, make_agent, make_vectors, make_unit, make_module, make_use, make_loop, make_end, make_begin, no_access, for_read, for_write, make_resolve, make_lookup, make_view, make_grant, make_route, make_revoke, make_dump, make_split, make_absorb, make_radix, make_piece, make_gather}
use Rattle.dn_parse.specs.Forms.{Form, takes, does, many, parenthesised, either, and_then, a_word, a_node_word, any_word, a_number, the_word, the_keyword, the_sign, forms_in_order, one_of, Spells}

-- one reserved word
abbrev pub the : Keyword → Form
the k = takes (the_keyword k)

-- one word that is not reserved
abbrev pub this : List ℕ → Form
this w = takes (the_word w)

-- one sign
abbrev pub mark : Sign → Form
mark s = takes (the_sign s)

-- [ f ], where nothing is made if it is left out
abbrev pub optional_form : Form → Form
optional_form f = either f (does keep)

-- a form at most so many times
abbrev pub at_most : ℕ → Form → Form
at_most zero f = does keep
at_most (suc n) f = optional_form (and_then f (at_most n f))

-- factor = number | word | "(" expr [ "-" expr ] ")"
unfoldable pub factor : Form
factor = one_of (takes a_number) (and_then (takes a_word) (does make_variable) ∷ parenthesised ∷ [])

-- { "*" factor }
unfoldable pub more_factors : Form
more_factors = many (forms_in_order (mark Times) (factor ∷ does next_item ∷ []))

-- term = factor { "*" factor }
unfoldable pub term : Form
term = forms_in_order factor (does first_item ∷ more_factors ∷ does make_product ∷ [])

-- { "+" term }
unfoldable pub more_terms : Form
more_terms = many (forms_in_order (mark Plus) (term ∷ does next_item ∷ []))

-- expr = term { "+" term }
unfoldable pub expr : Form
expr = forms_in_order term (does first_item ∷ more_terms ∷ does make_sum ∷ [])

-- "-" expr
unfoldable pub minus_expr : Form
minus_expr = forms_in_order (mark Minus) (expr ∷ does make_difference ∷ [])

-- expr [ "-" expr ] ")"
unfoldable pub after_open : Form
after_open = forms_in_order expr (optional_form minus_expr ∷ mark CloseParenthesis ∷ [])

-- "(" expr [ "-" expr ] ")"
abbrev pub in_parentheses : Form
in_parentheses = and_then (mark OpenParenthesis) after_open

-- an expression that may be left out, behind what begins it
abbrev pub perhaps_expr : Form → List Form → Form
perhaps_expr f fs = either (forms_in_order f (expr ∷ fs)) (does no_expression)

-- [ "[" expr "]" ]
unfoldable pub index : Form
index = perhaps_expr (mark OpenBracket) (does some_expression ∷ mark CloseBracket ∷ [])

-- word [ "[" expr "]" ], where this form gives the word
abbrev pub part_with : Form → Form
part_with f = forms_in_order f (index ∷ does make_part ∷ [])

-- part = word [ "[" expr "]" ]
unfoldable pub part_form : Form
part_form = part_with (takes a_word)

-- { "." part }
unfoldable pub more_parts : Form
more_parts = many (forms_in_order (mark Dot) (part_form ∷ does next_item ∷ []))

-- name = part { "." part }
unfoldable pub name_form : Form
name_form = forms_in_order part_form (does first_item ∷ more_parts ∷ [])

-- part { "." part }, where this form gives the first word
abbrev pub name_by : Form → Form
name_by f = forms_in_order (part_with f) (does first_item ∷ more_parts ∷ [])

-- [ "-" expr ]
unfoldable pub upper_bound : Form
upper_bound = perhaps_expr (mark Minus) (does some_expression ∷ [])

-- block = expr [ "-" expr ]
unfoldable pub block_form : Form
block_form = forms_in_order expr (upper_bound ∷ does make_block ∷ [])

-- [ "at" expr ]
unfoldable pub at_addr : Form
at_addr = perhaps_expr (the At) (does some_expression ∷ [])

-- dest = name [ "at" expr ]
unfoldable pub dest_form : Form
dest_form = forms_in_order name_form (at_addr ∷ does make_dest ∷ [])

-- { "and" dest }, at most so many times
unfoldable pub more_dests : ℕ → Form
more_dests n = at_most n (forms_in_order (the And) (dest_form ∷ does next_item ∷ []))

-- entry = block "to" dest { "and" dest }          (1 to 8 dest)
unfoldable pub entry_form : Form
entry_form = forms_in_order block_form (the To ∷ dest_form ∷ does first_item ∷ more_dests 7 ∷ does make_entry ∷ [])

-- { "," block }
unfoldable pub more_blocks : Form
more_blocks = many (forms_in_order (mark Comma) (block_form ∷ does next_item ∷ []))

-- [ "accept" "[" block { "," block } "]" ]
unfoldable pub accept : Form
accept = either (forms_in_order (the Accept) (mark OpenBracket ∷ block_form ∷ does first_item ∷ more_blocks ∷ mark CloseBracket ∷ [])) (does no_blocks)

-- { "," entry }
unfoldable pub more_entries : Form
more_entries = many (forms_in_order (mark Comma) (entry_form ∷ does next_item ∷ []))

-- [ "map" "[" entry { "," entry } "]" ]
unfoldable pub map_form : Form
map_form = either (forms_in_order (the Map) (mark OpenBracket ∷ entry_form ∷ does first_item ∷ more_entries ∷ mark CloseBracket ∷ [])) (does no_entries)

-- [ "over" name ]
unfoldable pub over : Form
over = either (forms_in_order (the Over) (name_form ∷ does some_name ∷ [])) (does no_name)

-- spec = [ "accept" "[" block { "," block } "]" ] [ "map" "[" entry { "," entry } "]" ] [ "over" name ]
unfoldable pub spec_form : Form
spec_form = forms_in_order accept (map_form ∷ over ∷ does make_spec ∷ [])

-- name "is" spec, where this form gives the first word of the name
abbrev pub plain_by : Form → Form
plain_by f = forms_in_order (name_by f) (the Is ∷ spec_form ∷ does make_plain ∷ [])

-- plain = name "is" spec, where the first word of the name begins no command
unfoldable pub plain_form : Form
plain_form = plain_by (takes a_node_word)

-- agent = "agent" name "is" spec
unfoldable pub agent_form : Form
agent_form = forms_in_order (the Agent) (name_form ∷ the Is ∷ spec_form ∷ does make_agent ∷ [])

-- vectors = "vectors" name "is" spec
unfoldable pub vectors_form : Form
vectors_form = forms_in_order (the Vectors) (name_form ∷ the Is ∷ spec_form ∷ does make_vectors ∷ [])

-- { "," name }, at most so many times
unfoldable pub more_names : ℕ → Form
more_names n = at_most n (forms_in_order (mark Comma) (name_form ∷ does next_item ∷ []))

-- unit = "unit" name "kind" any "page" expr "slots" expr "reach" expr "to" name { "," name }    (1 to 8 names)
unfoldable pub unit_form : Form
unit_form = forms_in_order (the UnitWord) (name_form ∷ the Kind ∷ takes any_word ∷ the Page ∷ expr ∷ the Slots ∷ expr ∷ the Reach ∷ expr ∷ the To ∷ name_form ∷ does first_item ∷ more_names 7 ∷ does make_unit ∷ [])

-- param = ( "num" | "node" ) word
unfoldable pub param_form : Form
param_form = one_of (forms_in_order (the Num) (takes a_word ∷ does make_number_param ∷ [])) (forms_in_order (the Node) (takes a_word ∷ does make_node_param ∷ []) ∷ [])

-- { "," param }
unfoldable pub more_params : Form
more_params = many (forms_in_order (mark Comma) (param_form ∷ does next_item ∷ []))

-- [ param { "," param } ]
unfoldable pub params_form : Form
params_form = either (forms_in_order param_form (does first_item ∷ more_params ∷ [])) (does no_params)

-- module = "module" word "(" [ param { "," param } ] ")"
unfoldable pub module_form : Form
module_form = forms_in_order (the Module) (takes a_word ∷ mark OpenParenthesis ∷ params_form ∷ mark CloseParenthesis ∷ does make_module ∷ [])

-- arg = expr | "node" name
unfoldable pub arg_form : Form
arg_form = one_of (forms_in_order expr (does make_number_arg ∷ [])) (forms_in_order (the Node) (name_form ∷ does make_node_arg ∷ []) ∷ [])

-- { "," arg }
unfoldable pub more_args : Form
more_args = many (forms_in_order (mark Comma) (arg_form ∷ does next_item ∷ []))

-- [ arg { "," arg } ]
unfoldable pub args_form : Form
args_form = either (forms_in_order arg_form (does first_item ∷ more_args ∷ [])) (does no_args)

-- instance = "use" word "(" [ arg { "," arg } ] ")" "as" name
unfoldable pub use_form : Form
use_form = forms_in_order (the Use) (takes a_word ∷ mark OpenParenthesis ∷ args_form ∷ mark CloseParenthesis ∷ the As ∷ name_form ∷ does make_use ∷ [])

-- loop = "for" word "in" expr ".." expr
unfoldable pub loop_form : Form
loop_form = forms_in_order (the For) (takes a_word ∷ the In ∷ expr ∷ mark Dots ∷ expr ∷ does make_loop ∷ [])

-- access = "for" ( "read" | "write" )
unfoldable pub access_form : Form
access_form = forms_in_order (the For) (one_of (forms_in_order (this (codes "read")) (does for_read ∷ [])) (forms_in_order (this (codes "write")) (does for_write ∷ []) ∷ []) ∷ [])

-- [ access ]
unfoldable pub maybe_access : Form
maybe_access = either access_form (does no_access)

-- what follows this word, which is not reserved: a form that begins with a word; if no word is there, the rest of
-- plain = name "is" spec
abbrev pub after_command_word : List ℕ → Form → Form
after_command_word w f = forms_in_order (this w) (one_of f (plain_by (does (put_word w)) ∷ []) ∷ [])

-- "radix" name expr
unfoldable pub radix_form : Form
radix_form = after_command_word (codes "radix") (forms_in_order name_form (expr ∷ does make_radix ∷ []))

-- piece = word name expr expr
unfoldable pub piece_form : Form
piece_form = forms_in_order (takes a_word) (name_form ∷ expr ∷ expr ∷ does make_piece ∷ [])

-- { "and" piece }, at most so many times
unfoldable pub more_pieces : ℕ → Form
more_pieces n = at_most n (forms_in_order (the And) (piece_form ∷ does next_item ∷ []))

-- "gather" name piece { "and" piece } [ access ]          (1 to 8 pieces)
unfoldable pub gather_form : Form
gather_form = after_command_word (codes "gather") (forms_in_order name_form (piece_form ∷ does first_item ∷ more_pieces 7 ∷ maybe_access ∷ does make_gather ∷ []))

-- command = "resolve" name expr [ access ] | "lookup" name expr [ access ]
--         | "view" name [ access ]
--         | "grant" word name name expr expr [ access ]
--         | "route" word name expr name
--         | "revoke" word | "dump" | "split" | "absorb" name
unfoldable pub command_form : Form
command_form =
    one_of (forms_in_order (the Resolve) (name_form ∷ expr ∷ maybe_access ∷ does make_resolve ∷ []))
    (forms_in_order (the Lookup) (name_form ∷ expr ∷ maybe_access ∷ does make_lookup ∷ [])
    ∷ forms_in_order (the View) (name_form ∷ maybe_access ∷ does make_view ∷ [])
    ∷ forms_in_order (the Grant) (takes a_word ∷ name_form ∷ name_form ∷ expr ∷ expr ∷ maybe_access ∷ does make_grant ∷ [])
    ∷ forms_in_order (the Route) (takes a_word ∷ name_form ∷ expr ∷ name_form ∷ does make_route ∷ [])
    ∷ forms_in_order (the Revoke) (takes a_word ∷ does make_revoke ∷ [])
    ∷ forms_in_order (the Dump) (does make_dump ∷ [])
    ∷ forms_in_order (the Split) (does make_split ∷ [])
    ∷ forms_in_order (the Absorb) (name_form ∷ does make_absorb ∷ [])
    ∷ [])

-- statement = plain | agent | vectors | unit | module | instance | loop
--           | "end" | "begin" | command
-- radix_form and gather_form are the commands whose words are not reserved
unfoldable pub statement_form : Form
statement_form =
    one_of plain_form
    (agent_form ∷ vectors_form ∷ unit_form ∷ module_form ∷ use_form ∷ loop_form
    ∷ forms_in_order (the End) (does make_end ∷ [])
    ∷ forms_in_order (the Begin) (does make_begin ∷ [])
    ∷ command_form
    ∷ radix_form
    ∷ gather_form
    ∷ [])

-- an expression in parentheses, with fewer than so many open at once in it
abbrev pub Parenthesised : ℕ → List Token → List Value → List Value → Type 0
Parenthesised zero ts vs vs' = ⊥
Parenthesised (suc d) ts vs vs' = Spells (Parenthesised d) in_parentheses ts vs vs'

-- the statement that the values are, of which there is one
abbrev pub statement_of : List Value → Statement
statement_of (statement s ∷ vs) = s
statement_of vs = ends

-- these tokens spell this statement, with parentheses as deep as may be
abbrev pub SpellsStatement : List Token → Statement → Type 0
SpellsStatement ts s = (d : ℕ) × (vs : List Value) × Spells (Parenthesised d) statement_form ts [] vs × (s ≡ statement_of vs)

-- text = { statement ";" }
-- these tokens spell these statements, each with the line of its first token
abbrev pub SpellsText : List Token → List Placed → Type 0
SpellsText ts [] = ts ≡ []
SpellsText ts (s ∷ ss) = (first : Token) × (xs : List Token) × (stop : Token) × (ys : List Token) × (ts ≡ first ∷ xs ++ stop ∷ ys) × (s.line ≡ first.line) × SpellsStatement (first ∷ xs) s.statement × (stop.lexeme ≡ sign Semicolon) × SpellsText ys ss

-- a list of tokens that is the front of a spelling
abbrev pub Viable : List Token → Type 0
Viable ts = (more : List Token) × (ss : List Placed) × SpellsText (ts ++ more) ss
