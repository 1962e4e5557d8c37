-- Replacing text in trees: numbers for variables, and full names for the names of a module.
use Rattle.std.specs.Prelude.{ℕ, if◌then◌else◌, not, List, [], ◌∷◌, map, filter, Option, Some, None, option_map}
use Rattle.std.specs.Str.{bytes_eq}
use Rattle.dn_parse.specs.Tree.{Expression, constant, variable, sum, product, minus, Expressions, no_expressions, and_expression, Part, Block, Dest, Entry, Spec, Arg, number_arg, node_arg, Declaration, node, unit, Item, declared, module_of, instance, loop, Items, no_items, and_item}

-- what stands for a word, in a list of words with what stands for each
abbrev pub value_for_word : {A : Type 0} → List ℕ → List (List ℕ × A) → Option A
value_for_word w [] = None
value_for_word w (b ∷ bs) = if bytes_eq w b.0 then Some b.1 else value_for_word w bs

-- the pairs without those of a word
abbrev pub without_word : {A : Type 0} → List ℕ → List (List ℕ × A) → List (List ℕ × A)
without_word w bs = filter (λ b. not (bytes_eq w b.0)) bs

-- how names are replaced: not at all, or as the names of a module used under a full name, with the full names that stand for its node parameters
pub data Naming : Type 0 where
  as_they_stand : Naming
  under : (prefix : List ℕ) (nodes : List (List ℕ × List ℕ)) → Naming

-- the full name of the use, where there is one
abbrev pub prefix_of : Naming → Option (List ℕ)
prefix_of as_they_stand = None
prefix_of (under prefix nodes) = Some prefix

-- the naming of a body with the full name of its use and its node parameters, or outside of modules
abbrev pub naming_by : Option (List ℕ × List (List ℕ × List ℕ)) → Naming
naming_by None = as_they_stand
naming_by (Some names) = under names.0 names.1

-- the numbers that stand for the parameters of the module in whose body a name stands, if it does
abbrev pub numbers_by : Option (List (List ℕ × ℕ)) → List (List ℕ × ℕ)
numbers_by None = []
numbers_by (Some numbers) = numbers

-- what is replaced: variables by numbers, and names
pub record Replacement : Type 0 where
  pub numbers : List (List ℕ × ℕ)
  pub naming : Naming

-- a number for one variable
abbrev pub one_number : List ℕ → ℕ → Replacement
one_number w n = record { numbers = (w, n) ∷ []; naming = as_they_stand }

-- an inner variable hides an outer one of the same name
abbrev pub replacement_hiding : List ℕ → Replacement → Replacement
replacement_hiding w r = record { numbers = without_word w r.numbers; naming = r.naming }

-- the number that stands for a variable, or the variable
abbrev pub number_or : List ℕ → Option ℕ → Expression
number_or w None = variable w
number_or w (Some n) = constant n

-- in an expression, and in several
abbrev mutual
  pub in_expression : List (List ℕ × ℕ) → Expression → Expression
  in_expression ns (constant n) = constant n
  in_expression ns (variable w) = number_or w (value_for_word w ns)
  in_expression ns (sum es) = sum (in_expressions ns es)
  in_expression ns (product es) = product (in_expressions ns es)
  in_expression ns (minus e f) = minus (in_expression ns e) (in_expression ns f)

  pub in_expressions : List (List ℕ × ℕ) → Expressions → Expressions
  in_expressions ns no_expressions = no_expressions
  in_expressions ns (and_expression e es) = and_expression (in_expression ns e) (in_expressions ns es)

-- in an expression that may be left out
abbrev pub in_option : List (List ℕ × ℕ) → Option Expression → Option Expression
in_option ns e = option_map (in_expression ns) e

-- in a part of a name
abbrev pub in_part : List (List ℕ × ℕ) → Part → Part
in_part ns p = record { title = p.title; index = in_option ns p.index }

-- a full name as a name of one part
abbrev pub whole_name : List ℕ → List Part
whole_name text = record { title = text; index = None } ∷ []

-- the full name of the use before a name
abbrev pub prefixed_name : Naming → List Part → List Part
prefixed_name as_they_stand ps = ps
prefixed_name (under prefix nodes) ps = record { title = prefix; index = None } ∷ ps

-- a declared name: the full name of the use is put before it
abbrev pub in_declared : Replacement → List Part → List Part
in_declared r ps = prefixed_name r.naming (map (in_part r.numbers) ps)

-- the word of a name of one part without an index
abbrev pub plain_word : List ℕ → Option Expression → Option (List ℕ)
plain_word w None = Some w
plain_word w (Some e) = None

-- the word of a name of one part without an index
abbrev pub word_of_name : List Part → Option (List ℕ)
word_of_name (p ∷ []) = plain_word p.title p.index
word_of_name _ = None

-- the full name that stands for a node parameter, where the word is one
abbrev pub node_by : Naming → Option (List ℕ) → Option (List ℕ)
node_by (under prefix nodes) (Some w) = value_for_word w nodes
node_by (under prefix nodes) None = None
node_by as_they_stand w = None

-- the full name that stands for a name, or the name
abbrev pub named_or : Option (List ℕ) → List Part → List Part
named_or None ps = ps
named_or (Some text) ps = whole_name text

-- a reference: one part without an index that spells a node parameter is the argument's full name, and any other is as a declared name
abbrev pub in_reference : Replacement → List Part → List Part
in_reference r ps = named_or (node_by r.naming (word_of_name ps)) (in_declared r ps)

-- in a block
abbrev pub in_block : List (List ℕ × ℕ) → Block → Block
in_block ns b = record { lo = in_expression ns b.lo; hi = in_option ns b.hi }

-- in a destination
abbrev pub in_dest : Replacement → Dest → Dest
in_dest r d = record { name = in_reference r d.name; addr = in_option r.numbers d.addr }

-- in an entry
abbrev pub in_entry : Replacement → Entry → Entry
in_entry r e = record { block = in_block r.numbers e.block; dests = map (in_dest r) e.dests }

-- in the parts of a node
abbrev pub in_spec : Replacement → Spec → Spec
in_spec r s = record { accepts = map (in_block r.numbers) s.accepts; entries = map (in_entry r) s.entries; over = option_map (in_reference r) s.over }

-- in an argument
abbrev pub in_arg : Replacement → Arg → Arg
in_arg r (number_arg e) = number_arg (in_expression r.numbers e)
in_arg r (node_arg ps) = node_arg (in_reference r ps)

-- in a declaration
abbrev pub in_declaration : Replacement → Declaration → Declaration
in_declaration r (node role name spec) = node role (in_declared r name) (in_spec r spec)
in_declaration r (unit name kind page slots reach ports) = unit (in_declared r name) kind (in_expression r.numbers page) (in_expression r.numbers slots) (in_expression r.numbers reach) (map (in_reference r) ports)

-- In a statement. The bounds of a loop are outside of it; its variable hides another of the same name in its body. A module sees nothing round it.
abbrev mutual
  pub in_item : Replacement → Item → Item
  in_item r (declared line d) = declared line (in_declaration r d)
  in_item r (module_of line title params body) = module_of line title params body
  in_item r (instance line title args prefix) = instance line title (map (in_arg r) args) (in_declared r prefix)
  in_item r (loop line w from upto body) = loop line w (in_expression r.numbers from) (in_expression r.numbers upto) (in_items (replacement_hiding w r) body)

  pub in_items : Replacement → Items → Items
  in_items r no_items = no_items
  in_items r (and_item i is) = and_item (in_item r i) (in_items r is)
