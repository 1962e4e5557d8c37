-- How many events a change of a book has at most.
use Rattle.std.specs.Prelude.{ℕ, ◌+◌, ◌*◌, List, length}
use Rattle.std.specs.List.{sum_by}
use Rattle.dn_net.specs.declared.node.NodeDecl.{NodeDecl}
use Rattle.dn_kind.specs.Rights.{both_rights}
use Rattle.dn_tables.specs.declared.placement.Hop.{Hop}
use Rattle.dn_book.specs.Writes.{hop_slots}

-- how many slots a hop takes for so many addresses
abbrev pub slots_of_hop : List NodeDecl → ℕ → Hop → ℕ
slots_of_hop net size hop = length (hop_slots net size both_rights hop)

-- how many slots hops take for so many addresses
abbrev pub slots_taken : List NodeDecl → ℕ → List Hop → ℕ
slots_taken net size hops = sum_by (slots_of_hop net size) hops

-- room for the events of a grant or a revoke: a record has at most four words, and there is at most one fence
abbrev pub event_room : List NodeDecl → ℕ → List Hop → ℕ
event_room net size hops = 4 * slots_taken net size hops + 1
