-- The declarations that a net shows of what it keeps.
use Rattle.std.specs.Prelude.{ℕ, Bool, true, nat_le, List, [], ◌∷◌, Option, None, Some, option_map, ◌+◌, if◌then◌else◌, length}
use Rattle.std.specs.Option.{is_some}
use Rattle.dn_net.specs.declared.node.Dest.{Dest}
use Rattle.dn_net.specs.declared.node.NodeDecl.{NodeDecl}
use Rattle.dn_net.specs.declared.net.Parts.{Parts}

-- the declaration of a node, from its name and its parts
abbrev pub declaration_by : {S : Type 0} → (S → List ℕ) → S × Parts → NodeDecl
declaration_by text e = record { text = text e.0; role = e.1.role; accepts = e.1.accepts; entries = e.1.entries; over = option_map (λ (d : Dest). d.node) e.1.over; unit = e.1.unit }

-- the node of an `over`, as a list of destinations
abbrev pub over_dests : Option ℕ → List Dest
over_dests None = []
over_dests (Some m) = record { node = m; addr = 0 } ∷ []

-- the destination kept for an `over` is at address 0
abbrev pub over_is_based : Option Dest → Bool
over_is_based None = true
over_is_based (Some d) = nat_le d.addr 0

-- the parts of a node: an accept block, a map entry and an `over` are one each
abbrev pub parts_of_node : NodeDecl → ℕ
parts_of_node n = length n.accepts + (length n.entries + (if is_some n.over then 1 else 0))
