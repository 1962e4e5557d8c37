-- The shapes that units may have, whatever their kinds.
use Rattle.std.specs.Prelude.{ℕ, Bool, true, ◌&&◌, nat_le, List, length, Option, Some, None}
use Rattle.std.specs.List.{list_all}
use Rattle.dn_net.specs.declared.node.NodeDecl.{NodeDecl}
use Rattle.dn_net.specs.declared.node.Unit.{Unit as UnitPart}

-- a page of at most 40, 1 to 262,144 slots, a reach from the page to 56, and 1 to 8 ports
abbrev pub is_plain_shape : (page slots reach ports : ℕ) → Bool
is_plain_shape page slots reach ports =
    nat_le page 40
    && nat_le 1 slots && nat_le slots 262144
    && nat_le page reach && nat_le reach 56
    && nat_le 1 ports && nat_le ports 8

-- the unit has a shape that a unit may have, whatever its kind
abbrev pub has_plain_shape : UnitPart → Bool
has_plain_shape u = is_plain_shape u.page u.slots u.reach (length u.ports)

-- a node is no unit, or one of a plain shape
abbrev pub has_plain_unit : Option UnitPart → Bool
has_plain_unit None = true
has_plain_unit (Some u) = has_plain_shape u

-- each unit of the net has a plain shape
abbrev pub has_plain_units : List NodeDecl → Bool
has_plain_units net = list_all (λ n. has_plain_unit n.unit) net
