-- The commands of a tree, with the values of their expressions and the numbers of the nodes that they name.
use Rattle.std.specs.Prelude.{ℕ, Bool, true, false, ◌&&◌, nat_le, nat_lt, List, [], length, Option, Some, None, Result, Ok, Err}
use Rattle.std.specs.List.{list_all}
use Rattle.dn_parse.specs.Tree.{Expression, Part, Order, resolve, lookup, view, grant, route, revoke, dump, split, absorb, radix, gather, Piece, Command as CommandOf}
use Rattle.dn_module.specs.declared.command.Command.{Command}
use Rattle.dn_module.specs.declared.command.Command.TheVariants.{Resolve, Lookup, View, Grant, Route, Revoke, Dump, Split, Absorb, Radix, Gather}
use Rattle.dn_module.specs.declared.command.Target.{Target}
use Rattle.dn_module.specs.declared.command.PieceTarget.{PieceTarget}
use Rattle.dn_scope.specs.Values.{◌>>=◌, Flaw, each, value, full_name}
use Rattle.dn_scope.specs.Faults.{at_line, ExpansionFault}
use Rattle.dn_module.specs.Drafts.{number_in}

-- a node as a command names it, with its number where it is there
abbrev pub target_of : List (List ℕ) → List Part → Result Target Flaw
target_of known name = do
  text ← full_name name
  Ok (record { text = text; node = number_in known text })

-- what is asked at a node and an address of it
abbrev pub asked_of : List (List ℕ) → List Part → Expression → (Target → ℕ → Command) →
    Result Command Flaw
asked_of known name e asks = do
  target ← target_of known name
  addr ← value e
  Ok (asks target addr)

-- a piece as a gather names it
abbrev pub piece_target : List (List ℕ) → Piece → Result PieceTarget Flaw
piece_target known p = do
  target ← target_of known p.node
  base ← value p.base
  size ← value p.size
  Ok (record { id = p.id; node = target; base = base; size = size })

-- a command, its expressions taken from left to right
abbrev pub command_of : List (List ℕ) → Order → Result Command Flaw
command_of known (resolve name e m) =
    asked_of known name e (λ target addr. Resolve target addr m)
command_of known (lookup name e m) =
    asked_of known name e (λ target addr. Lookup target addr m)
command_of known (view name m) = do
  target ← target_of known name
  Ok (View target m)
command_of known (grant id agent name e f m) = do
  from ← target_of known agent
  target ← target_of known name
  base ← value e
  size ← value f
  Ok (Grant id from target base size m)
command_of known (route id agent e name) = do
  from ← target_of known agent
  line ← value e
  target ← target_of known name
  Ok (Route id from line target)
command_of known (revoke id) = Ok (Revoke id)
command_of known dump = Ok Dump
command_of known split = Ok Split
command_of known (absorb name) = do
  target ← target_of known name
  Ok (Absorb target)
command_of known (radix name e) = asked_of known name e Radix
command_of known (gather agent pieces m) = do
  from ← target_of known agent
  made ← each (piece_target known) pieces
  Ok (Gather from made m)

-- the commands of a tree, or the first fault
abbrev pub commands_of : List (List ℕ) → List CommandOf → Result (List Command) ExpansionFault
commands_of known commands = each (λ c. at_line c.line (command_of known c.order)) commands

-- the commands, where none has a fault
abbrev pub commands_or_none : Result (List Command) ExpansionFault → List Command
commands_or_none (Ok commands) = commands
commands_or_none (Err fault) = []

-- the node that a command names is one of so many, or it names none
abbrev pub node_within : ℕ → Option ℕ → Bool
node_within count None = true
node_within count (Some number) = nat_lt number count

-- each node that pieces name is one of so many
abbrev pub pieces_within : ℕ → List PieceTarget → Bool
pieces_within count pieces = list_all (λ p. node_within count p.node.node) pieces

-- each node that a command names is one of so many
abbrev pub nodes_within : ℕ → Command → Bool
nodes_within count (Resolve target a m) = node_within count target.node
nodes_within count (Lookup target a m) = node_within count target.node
nodes_within count (View target m) = node_within count target.node
nodes_within count (Grant id from target base size m) = node_within count from.node && node_within count target.node
nodes_within count (Route id from line target) = node_within count from.node && node_within count target.node
nodes_within count (Revoke id) = true
nodes_within count Dump = true
nodes_within count Split = true
nodes_within count (Absorb target) = node_within count target.node
nodes_within count (Radix target pool) = node_within count target.node
nodes_within count (Gather from pieces m) =
    node_within count from.node && pieces_within count pieces

-- a gather has one to eight pieces
abbrev pub has_few_pieces : Command → Bool
has_few_pieces (Gather from pieces m) = nat_le 1 (length pieces) && nat_le (length pieces) 8
has_few_pieces command = true

-- a gather has one to eight pieces, and each node that a command names is one of so many
abbrev pub names_within : ℕ → Command → Bool
names_within count command = has_few_pieces command && nodes_within count command

-- a command is made, and each node that it names is one of so many
abbrev pub makes_within : ℕ → Result Command ExpansionFault → Bool
makes_within count (Ok command) = nodes_within count command
makes_within count (Err fault) = false
