-- Commands whose parts have their values as they stand.
use Rattle.std.specs.Prelude.{Bool, true, false, ◌&&◌, List, Option, None, Some}
use Rattle.std.specs.List.{list_all}
use Rattle.dn_parse.specs.Tree.{Command, Expression, constant, variable, sum, product, minus, Part, Order, resolve, lookup, view, grant, route, revoke, dump, split, absorb, radix, gather, Piece}

-- an expression that is a number
abbrev pub is_constant : Expression → Bool
is_constant (constant n) = true
is_constant (variable w) = false
is_constant (sum es) = false
is_constant (product es) = false
is_constant (minus e f) = false

-- an index that is left out, or is a number
abbrev pub is_constant_index : Option Expression → Bool
is_constant_index None = true
is_constant_index (Some e) = is_constant e

-- a name of which each index is a number
abbrev pub is_constant_name : List Part → Bool
is_constant_name ps = list_all (λ p. is_constant_index p.index) ps

-- a piece of which each expression is a number, indices of its name among them
abbrev pub is_plain_piece : Piece → Bool
is_plain_piece p = is_constant_name p.node && (is_constant p.base && is_constant p.size)

-- a command of which each expression is a number, indices of names among them
abbrev pub is_plain_order : Order → Bool
is_plain_order (resolve name e m) = is_constant_name name && is_constant e
is_plain_order (lookup name e m) = is_constant_name name && is_constant e
is_plain_order (view name m) = is_constant_name name
is_plain_order (grant id agent name e f m) = is_constant_name agent && (is_constant_name name && (is_constant e && is_constant f))
is_plain_order (route id agent e name) = is_constant_name agent && (is_constant e && is_constant_name name)
is_plain_order (revoke id) = true
is_plain_order dump = true
is_plain_order split = true
is_plain_order (absorb name) = is_constant_name name
is_plain_order (radix name e) = is_constant_name name && is_constant e
is_plain_order (gather agent pieces m) = is_constant_name agent && list_all is_plain_piece pieces

-- commands that are all plain
abbrev pub are_plain : List Command → Bool
are_plain commands = list_all (λ c. is_plain_order c.order) commands
