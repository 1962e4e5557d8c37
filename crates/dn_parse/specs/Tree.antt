-- The tree that a text spells, without where its parts lie in memory.
use Rattle.std.specs.Prelude.{ℕ, List, [], ◌∷◌, Option}
use Rattle.dn_parse.specs.declared.syntax.Mode.{Mode}

-- an expression, and several: a sum or a product has two members or more
mutual
  pub data Expression : Type 0 where
    constant : ℕ → Expression
    variable : List ℕ → Expression
    sum : Expressions → Expression
    product : Expressions → Expression
    minus : Expression → Expression → Expression

  pub data Expressions : Type 0 where
    no_expressions : Expressions
    and_expression : Expression → Expressions → Expressions

-- a list of expressions
abbrev pub expressions : List Expression → Expressions
expressions [] = no_expressions
expressions (e ∷ es) = and_expression e (expressions es)

-- a part of a name; a name is the list of its parts
pub record Part : Type 0 where
  pub title : List ℕ
  pub index : Option Expression

-- a block: one expression is its first and its last address
pub record Block : Type 0 where
  pub lo : Expression
  pub hi : Option Expression

-- a destination; with no address it is that of the block
pub record Dest : Type 0 where
  pub name : List Part
  pub addr : Option Expression

-- a map entry
pub record Entry : Type 0 where
  pub block : Block
  pub dests : List Dest

-- what a node is declared as
pub data Role : Type 0 where
  plain_role : Role
  agent_role : Role
  vectors_role : Role

-- the parts of a node, of which each may be left out
pub record Spec : Type 0 where
  pub accepts : List Block
  pub entries : List Entry
  pub over : Option (List Part)

-- a parameter of a module: a number or a node
pub data Param : Type 0 where
  number_param : List ℕ → Param
  node_param : List ℕ → Param

-- an argument of a use
pub data Arg : Type 0 where
  number_arg : Expression → Arg
  node_arg : List Part → Arg

-- a piece of memory that a gather asks for: its id, and addresses of a node
pub record Piece : Type 0 where
  pub id : List ℕ
  pub node : List Part
  pub base : Expression
  pub size : Expression

-- what a command asks for, and the access that it says, where it may say one
pub data Order : Type 0 where
  resolve : List Part → Expression → Mode → Order
  lookup : List Part → Expression → Mode → Order
  view : List Part → Mode → Order
  grant : List ℕ → List Part → List Part → Expression → Expression → Mode → Order
  route : List ℕ → List Part → Expression → List Part → Order
  revoke : List ℕ → Order
  dump : Order
  split : Order
  absorb : List Part → Order
  radix : List Part → Expression → Order
  gather : List Part → List Piece → Mode → Order

-- the declaration of a node, or of a unit with its kind, page, slots, reach and ports
pub data Declaration : Type 0 where
  node : Role → List Part → Spec → Declaration
  unit : List Part → List ℕ → Expression → Expression → Expression → List (List Part) → Declaration

-- one statement, as it stands between two `;`
pub data Statement : Type 0 where
  declares : Declaration → Statement
  heads_module : List ℕ → List Param → Statement
  uses : List ℕ → List Arg → List Part → Statement
  heads_loop : List ℕ → Expression → Expression → Statement
  ends : Statement
  begins : Statement
  orders : Order → Statement

-- a statement with the line of its first token
pub record Placed : Type 0 where
  pub line : ℕ
  pub statement : Statement

-- a statement of the tree with its line, and several: a module and a loop have the statements up to their `end`
mutual
  pub data Item : Type 0 where
    declared : ℕ → Declaration → Item
    module_of : ℕ → List ℕ → List Param → Items → Item
    instance : ℕ → List ℕ → List Arg → List Part → Item
    loop : ℕ → List ℕ → Expression → Expression → Items → Item

  pub data Items : Type 0 where
    no_items : Items
    and_item : Item → Items → Items

-- a list of statements
abbrev pub items : List Item → Items
items [] = no_items
items (i ∷ is) = and_item i (items is)

-- a command with the line of its first token
pub record Command : Type 0 where
  pub line : ℕ
  pub order : Order

-- a text: its statements before `begin`, and its commands
pub record Tree : Type 0 where
  pub body : Items
  pub commands : List Command
