-- Room for the events of the grants of pieces, wherever they are placed.
use Rattle.std.specs.Prelude.{ℕ, ◌+◌, ◌*◌, ◌/◌, ◌^◌, if◌then◌else◌, nat_lt, max, List, [], ◌∷◌, Option, Some, None}
use Rattle.std.specs.List.{sum_by}
use Rattle.dn_net.specs.declared.node.NodeDecl.{NodeDecl}
use Rattle.dn_net.specs.declared.node.Unit.{Unit as UnitPart}
use Rattle.dn_gather.specs.declared.piece.Piece.{Piece}

-- how many slots of a unit so many addresses take at most: none, where its outputs end before so
-- many
abbrev pub unit_most : ℕ → Option UnitPart → ℕ
unit_most size None = 0
unit_most size (Some u) =
    if nat_lt (2 ^ u.reach) size then 0
    else (if nat_lt (size / 2 ^ u.page) u.slots then size / 2 ^ u.page + 2 else u.slots)

-- how many slots they take at most in one unit of the net
abbrev pub most_slots : List NodeDecl → ℕ → ℕ
most_slots [] size = 0
most_slots (n ∷ ns) size = max (unit_most size n.unit) (most_slots ns size)

-- room for the events of a grant of each piece: a record has at most four words, and there is at
-- most one fence
abbrev pub pieces_room : List NodeDecl → List Piece → ℕ
pieces_room net ps = sum_by (λ p. 4 * most_slots net p.size + 1) ps
