-- What a use of a module and a loop stand for: the statements that take their place.
use Rattle.std.specs.Prelude.{ℕ, suc, ◌+◌, Bool, true, false, if◌then◌else◌, ◌||◌, nat_lt, List, [], ◌∷◌, ◌++◌, map, length, take, Option, Some, None, Result, Ok, Err}
use Rattle.std.specs.List.{list_any}
use Rattle.std.specs.Str.{bytes_eq}
use Rattle.dn_parse.specs.Tree.{Part, Param, number_param, node_param, Arg, number_arg, node_arg, Item, declared, module_of, instance, loop, Items, no_items, and_item}
use Rattle.dn_scope.specs.Values.{◌>>=◌, Flaw, each, value, full_name}
use Rattle.dn_scope.specs.Replace.{Replacement, under, one_number, in_items}
use Rattle.dn_scope.specs.Faults.{at_line, ExpansionFault, is_duplicate, is_unknown, has_other_arguments, passes_limit}

-- a module that was declared
pub record Module : Type 0 where
  pub title : List ℕ
  pub params : List Param
  pub body : Items

-- which modules a statement may use: all that are known, or those declared before the module in whose body it stands
pub data Visibility : Type 0 where
  outside : Visibility
  within_module : (before : ℕ) → Visibility

-- what is still to be done: a statement, or the turns of a loop from one number to another
pub data Work : Type 0 where
  statement : Visibility → Item → Work
  turns : Visibility → (line : ℕ) → (variable : List ℕ) → (from upto : ℕ) → Items → Work

-- statements that are still to be done
abbrev pub statements : Visibility → Items → List Work
statements s no_items = []
statements s (and_item i is) = statement s i ∷ statements s is

-- the line of a statement; a turn has the line of its loop
abbrev pub line_of_item : Item → ℕ
line_of_item (declared line d) = line
line_of_item (module_of line title params body) = line
line_of_item (instance line title args prefix) = line
line_of_item (loop line w from upto body) = line

-- the line of a work; a turn has the line of its loop
abbrev pub line_of_work : Work → ℕ
line_of_work (statement s i) = line_of_item i
line_of_work (turns s line w from upto body) = line

-- a module: its name and its parameters were not there before
abbrev pub word_of_param : Param → List ℕ
word_of_param (number_param w) = w
word_of_param (node_param w) = w

-- two of these words are one
abbrev pub has_twice : List (List ℕ) → Bool
has_twice [] = false
has_twice (w ∷ ws) = list_any (bytes_eq w) ws || has_twice ws

-- a module has this name
abbrev pub is_module : List Module → List ℕ → Bool
is_module modules title = list_any (λ m. bytes_eq title m.title) modules

-- one module more: no limit is passed, and its name and its parameters were not there before
abbrev pub with_module : List Module → ℕ → Module → Result (List Module) ExpansionFault
with_module modules line m =
    if nat_lt 256 (length modules + 1) then Err (passes_limit line 256)
    else (if is_module modules m.title || has_twice (map word_of_param m.params) then Err (is_duplicate line)
    else Ok (modules ++ m ∷ []))

-- the modules that a statement may use
abbrev pub usable_modules : Visibility → List Module → List Module
usable_modules outside modules = modules
usable_modules (within_module before) modules = take before modules

-- the module of a name, with its number
abbrev pub module_from : ℕ → List ℕ → List Module → Option (ℕ × Module)
module_from n title [] = None
module_from n title (m ∷ ms) = if bytes_eq title m.title then Some (n, m) else module_from (suc n) title ms

-- the arguments are as many as the parameters, and of their sorts
abbrev pub fits_param : Param → Arg → Bool
fits_param (number_param w) (number_arg e) = true
fits_param (node_param w) (node_arg ps) = true
fits_param _ _ = false

-- the arguments are as many as the parameters, and of their sorts
abbrev pub arguments_fit : List Param → List Arg → Bool
arguments_fit [] [] = true
arguments_fit (p ∷ ps) (a ∷ as') = if fits_param p a then arguments_fit ps as' else false
arguments_fit _ _ = false

-- the value of an argument: a number or a full name
pub data Given : Type 0 where
  number : ℕ → Given
  named : List ℕ → Given

-- what an argument gives
abbrev pub given_by : Arg → Result Given Flaw
given_by (number_arg e) = value e >>= λ n. Ok (number n)
given_by (node_arg ps) = full_name ps >>= λ text. Ok (named text)

-- the numbers that stand for parameters, and the full names that do
abbrev pub number_pair : List ℕ → Given → List (List ℕ × ℕ)
number_pair w (number n) = (w, n) ∷ []
number_pair w (named text) = []

-- the full name that stands for a parameter
abbrev pub node_pair : List ℕ → Given → List (List ℕ × List ℕ)
node_pair w (number n) = []
node_pair w (named text) = (w, text) ∷ []

-- the numbers that stand for parameters
abbrev pub numbers_of : List (List ℕ) → List Given → List (List ℕ × ℕ)
numbers_of [] gs = []
numbers_of (w ∷ ws) [] = []
numbers_of (w ∷ ws) (g ∷ gs) = number_pair w g ++ numbers_of ws gs

-- the full names that stand for parameters
abbrev pub nodes_of : List (List ℕ) → List Given → List (List ℕ × List ℕ)
nodes_of [] gs = []
nodes_of (w ∷ ws) [] = []
nodes_of (w ∷ ws) (g ∷ gs) = node_pair w g ++ nodes_of ws gs

-- the body of a module, with its parameters replaced and the full name of the use before its names
abbrev pub used_body : Module → List Given → List ℕ → Items
used_body m givens prefix = in_items (record { numbers = numbers_of (map word_of_param m.params) givens; naming = under prefix (nodes_of (map word_of_param m.params) givens) }) m.body

-- a use becomes the body of its module
abbrev pub use_rewriting : ℕ → List Arg → List Part → Option (ℕ × Module) → Result (List Work) ExpansionFault
use_rewriting line args prefix None = Err (is_unknown line)
use_rewriting line args prefix (Some (place, m)) =
    if arguments_fit m.params args then (do
      givens ← at_line line (each given_by args)
      text ← at_line line (full_name prefix)
      Ok (statements (within_module place) (used_body m givens text)))
    else Err (has_other_arguments line)

-- the turns become the body with the variable replaced, and then the turns from the next number on
abbrev pub turn_of : Visibility → ℕ → List ℕ → ℕ → ℕ → Items → List Work
turn_of s line w a b body = statements s (in_items (one_number w a) body) ++ (if nat_lt a b then turns s line w (suc a) b body ∷ [] else [])

-- what stands for parameters: the numbers and the full names
abbrev pub bindings_of : List (List ℕ) → List Arg → Result (List (List ℕ × ℕ) × List (List ℕ × List ℕ)) Flaw
bindings_of words args = do
  givens ← each given_by args
  Ok (numbers_of words givens, nodes_of words givens)

-- what is replaced in the body of a module
abbrev pub replaced_by : List (List ℕ) → List Arg → List Part → Result Replacement Flaw
replaced_by words args prefix = do
  given ← bindings_of words args
  text ← full_name prefix
  Ok (record { numbers = given.0; naming = under text given.1 })
