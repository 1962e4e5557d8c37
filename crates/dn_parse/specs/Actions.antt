-- How the tree is made while a statement is read: the values so far, the last one first, and what each action makes of them.
use Rattle.std.specs.Prelude.{ℕ, List, [], ◌∷◌, ◌++◌, Option, Some, None}
use Rattle.dn_parse.specs.declared.syntax.Mode.{Mode}
use Rattle.dn_parse.specs.declared.syntax.Mode.TheVariants.{Unsaid, Read, Write}
use Rattle.dn_parse.specs.Tree.{Expression, variable, sum, product, minus, expressions, Part, Block, Dest, Entry, plain_role, agent_role, vectors_role, Spec, Param, number_param, node_param, Arg, number_arg, node_arg, node, unit, resolve, lookup, view, grant, route, revoke, dump, split, absorb, radix, gather, Piece, Statement, declares, heads_module, uses, heads_loop, ends, begins, orders}

-- a value: a part of the tree, or the list of such parts so far
pub data Value : Type 0 where
  text : List ℕ → Value
  expression : Expression → Value
  members : List Expression → Value
  perhaps : Option Expression → Value
  part : Part → Value
  name : List Part → Value
  perhaps_name : Option (List Part) → Value
  names : List (List Part) → Value
  block : Block → Value
  blocks : List Block → Value
  dest : Dest → Value
  dests : List Dest → Value
  entry : Entry → Value
  entries : List Entry → Value
  spec : Spec → Value
  param : Param → Value
  params : List Param → Value
  arg : Arg → Value
  args : List Arg → Value
  mode : Mode → Value
  piece : Piece → Value
  pieces : List Piece → Value
  statement : Statement → Value

-- a sum or a product of one member is that member
abbrev pub sum_of_members : List Expression → Expression
sum_of_members (e ∷ []) = e
sum_of_members es = sum (expressions es)

-- a product of one member is that member
abbrev pub product_of_members : List Expression → Expression
product_of_members (e ∷ []) = e
product_of_members es = product (expressions es)

-- what a form does to the values without taking a token
pub data Action : Type 0 where
  keep : Action
  first_item : Action
  next_item : Action
  put_word : List ℕ → Action
  make_variable : Action
  make_sum : Action
  make_product : Action
  make_difference : Action
  no_expression : Action
  some_expression : Action
  make_part : Action
  no_name : Action
  some_name : Action
  make_block : Action
  no_blocks : Action
  make_dest : Action
  make_entry : Action
  no_entries : Action
  make_spec : Action
  make_number_param : Action
  make_node_param : Action
  no_params : Action
  make_number_arg : Action
  make_node_arg : Action
  no_args : Action
  make_plain : Action
  make_agent : Action
  make_vectors : Action
  make_unit : Action
  make_module : Action
  make_use : Action
  make_loop : Action
  make_end : Action
  make_begin : Action
  no_access : Action
  for_read : Action
  for_write : Action
  make_resolve : Action
  make_lookup : Action
  make_view : Action
  make_grant : Action
  make_route : Action
  make_revoke : Action
  make_dump : Action
  make_split : Action
  make_absorb : Action
  make_radix : Action
  make_piece : Action
  make_gather : Action

-- the list of this part alone
abbrev pub list_of_one : Value → Value
list_of_one (expression e) = members (e ∷ [])
list_of_one (part p) = name (p ∷ [])
list_of_one (name n) = names (n ∷ [])
list_of_one (block b) = blocks (b ∷ [])
list_of_one (dest d) = dests (d ∷ [])
list_of_one (entry e) = entries (e ∷ [])
list_of_one (param p) = params (p ∷ [])
list_of_one (arg a) = args (a ∷ [])
list_of_one (piece p) = pieces (p ∷ [])
list_of_one v = v

-- a list with this part behind it
abbrev pub with_last : Value → Value → Value
with_last (members es) (expression e) = members (es ++ e ∷ [])
with_last (name ps) (part p) = name (ps ++ p ∷ [])
with_last (names ns) (name n) = names (ns ++ n ∷ [])
with_last (blocks bs) (block b) = blocks (bs ++ b ∷ [])
with_last (dests ds) (dest d) = dests (ds ++ d ∷ [])
with_last (entries es) (entry e) = entries (es ++ e ∷ [])
with_last (params ps) (param p) = params (ps ++ p ∷ [])
with_last (args xs) (arg a) = args (xs ++ a ∷ [])
with_last (pieces ps) (piece p) = pieces (ps ++ p ∷ [])
with_last list v = list

-- what an action makes of the values on top, which are as it wants them in every spelling
abbrev pub perform : Action → List Value → List Value
perform keep vs = vs
perform first_item (v ∷ vs) = list_of_one v ∷ vs
perform next_item (v ∷ list ∷ vs) = with_last list v ∷ vs
perform (put_word w) vs = text w ∷ vs
perform make_variable (text w ∷ vs) = expression (variable w) ∷ vs
perform make_sum (members es ∷ vs) = expression (sum_of_members es) ∷ vs
perform make_product (members es ∷ vs) = expression (product_of_members es) ∷ vs
perform make_difference (expression b ∷ expression a ∷ vs) = expression (minus a b) ∷ vs
perform no_expression vs = perhaps None ∷ vs
perform some_expression (expression e ∷ vs) = perhaps (Some e) ∷ vs
perform make_part (perhaps i ∷ text w ∷ vs) = part (record { title = w; index = i }) ∷ vs
perform no_name vs = perhaps_name None ∷ vs
perform some_name (name n ∷ vs) = perhaps_name (Some n) ∷ vs
perform make_block (perhaps hi ∷ expression lo ∷ vs) = block (record { lo = lo; hi = hi }) ∷ vs
perform no_blocks vs = blocks [] ∷ vs
perform make_dest (perhaps a ∷ name n ∷ vs) = dest (record { name = n; addr = a }) ∷ vs
perform make_entry (dests ds ∷ block b ∷ vs) = entry (record { block = b; dests = ds }) ∷ vs
perform no_entries vs = entries [] ∷ vs
perform make_spec (perhaps_name o ∷ entries es ∷ blocks bs ∷ vs) = spec (record { accepts = bs; entries = es; over = o }) ∷ vs
perform make_number_param (text w ∷ vs) = param (number_param w) ∷ vs
perform make_node_param (text w ∷ vs) = param (node_param w) ∷ vs
perform no_params vs = params [] ∷ vs
perform make_number_arg (expression e ∷ vs) = arg (number_arg e) ∷ vs
perform make_node_arg (name n ∷ vs) = arg (node_arg n) ∷ vs
perform no_args vs = args [] ∷ vs
perform make_plain (spec s ∷ name n ∷ vs) = statement (declares (node plain_role n s)) ∷ vs
perform make_agent (spec s ∷ name n ∷ vs) = statement (declares (node agent_role n s)) ∷ vs
perform make_vectors (spec s ∷ name n ∷ vs) = statement (declares (node vectors_role n s)) ∷ vs
perform make_unit (names ports ∷ expression reach ∷ expression slots ∷ expression page ∷ text kind ∷ name n ∷ vs) = statement (declares (unit n kind page slots reach ports)) ∷ vs
perform make_module (params ps ∷ text w ∷ vs) = statement (heads_module w ps) ∷ vs
perform make_use (name n ∷ args xs ∷ text w ∷ vs) = statement (uses w xs n) ∷ vs
perform make_loop (expression upto ∷ expression from ∷ text w ∷ vs) = statement (heads_loop w from upto) ∷ vs
perform make_end vs = statement ends ∷ vs
perform make_begin vs = statement begins ∷ vs
perform no_access vs = mode Unsaid ∷ vs
perform for_read vs = mode Read ∷ vs
perform for_write vs = mode Write ∷ vs
perform make_resolve (mode m ∷ expression e ∷ name n ∷ vs) = statement (orders (resolve n e m)) ∷ vs
perform make_lookup (mode m ∷ expression e ∷ name n ∷ vs) = statement (orders (lookup n e m)) ∷ vs
perform make_view (mode m ∷ name n ∷ vs) = statement (orders (view n m)) ∷ vs
perform make_grant (mode m ∷ expression size ∷ expression base ∷ name n ∷ name agent ∷ text w ∷ vs) = statement (orders (grant w agent n base size m)) ∷ vs
perform make_route (name n ∷ expression line ∷ name agent ∷ text w ∷ vs) = statement (orders (route w agent line n)) ∷ vs
perform make_revoke (text w ∷ vs) = statement (orders (revoke w)) ∷ vs
perform make_dump vs = statement (orders dump) ∷ vs
perform make_split vs = statement (orders split) ∷ vs
perform make_absorb (name n ∷ vs) = statement (orders (absorb n)) ∷ vs
perform make_radix (expression pool ∷ name n ∷ vs) = statement (orders (radix n pool)) ∷ vs
perform make_piece (expression size ∷ expression base ∷ name n ∷ text w ∷ vs) = piece (record { id = w; node = n; base = base; size = size }) ∷ vs
perform make_gather (mode m ∷ pieces ps ∷ name agent ∷ vs) = statement (orders (gather agent ps m)) ∷ vs
perform a vs = vs
