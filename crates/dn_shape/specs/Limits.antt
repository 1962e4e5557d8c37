-- The limits that a net can pass when it is made of another.
use Rattle.std.specs.Prelude.{ℕ, ◌+◌, Bool, if◌then◌else◌, nat_lt, List, [], ◌∷◌, length, Option, Some, None, Result, Ok, Err}
use Rattle.std.specs.List.{list_any}
use Rattle.dn_net.specs.declared.node.NodeDecl.{NodeDecl}
use Rattle.dn_net.specs.Legal.{node_limit}
use Rattle.dn_net.specs.Parts.{parts_of_node}

-- the most parts of a net
abbrev pub part_limit : ℕ
part_limit = 16384

-- the most destinations of an entry
abbrev pub dest_limit : ℕ
dest_limit = 8

-- the parts of all nodes
abbrev pub parts_of_net : List NodeDecl → ℕ
parts_of_net [] = 0
parts_of_net (n ∷ ns) = parts_of_node n + parts_of_net ns

-- an entry of the node has too many destinations
abbrev pub has_long_entry : NodeDecl → Bool
has_long_entry n = list_any (λ e. nat_lt dest_limit (length e.dests)) n.entries

-- the first limit that a net passes: that on nodes, that on parts, and that on destinations
abbrev pub passed_limit : List NodeDecl → Option ℕ
passed_limit net =
    if nat_lt node_limit (length net) then Some node_limit
    else (if nat_lt part_limit (parts_of_net net) then Some part_limit
    else (if list_any has_long_entry net then Some dest_limit else None))

-- the net, where it has not too many parts
abbrev pub net_of_few_parts : List NodeDecl → Option (List NodeDecl)
net_of_few_parts net = if nat_lt part_limit (parts_of_net net) then None else Some net

-- the node, where it has no more parts than there is room for
abbrev pub node_of_few_parts : ℕ → NodeDecl → Option NodeDecl
node_of_few_parts room n = if nat_lt room (parts_of_node n) then None else Some n

-- a value, or the limit that is passed
abbrev pub value_by_limit : {X : Type 0} → X → Option ℕ → Result X ℕ
value_by_limit x None = Ok x
value_by_limit x (Some limit) = Err limit
