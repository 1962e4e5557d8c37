-- The blocks of a node as one list, and what lies in them.
use Rattle.std.specs.Prelude.{ℕ, Bool, true, false, ◌&&◌, ◌||◌, not, nat_lt, List, ◌++◌, map, count_by}
use Rattle.dn_net.specs.declared.node.Block.{Block}
use Rattle.dn_net.specs.declared.entries.Place.{Place}
use Rattle.dn_net.specs.declared.spans.NodeBlock.{NodeBlock}
use Rattle.dn_net.specs.Decode.{within}

-- the map blocks and then the accept blocks
abbrev pub node_spans : List Place → List Block → List NodeBlock
node_spans places accepts = map (λ p. record { block = p.block; mapped = true }) places ++ map (λ b. record { block = b; mapped = false }) accepts

-- how many map blocks, and how many accept blocks, have the address
abbrev pub maps_in : List NodeBlock → ℕ → ℕ
maps_in spans a = count_by (λ s. s.mapped && within a s.block) spans

-- how many accept blocks have the address
abbrev pub accepts_in : List NodeBlock → ℕ → ℕ
accepts_in spans a = count_by (λ s. not s.mapped && within a s.block) spans

-- the address lies in two map blocks, or in a map block and an accept block
abbrev pub overlaps_in : List NodeBlock → ℕ → Bool
overlaps_in spans a = nat_lt 1 (maps_in spans a) || (nat_lt 0 (maps_in spans a) && nat_lt 0 (accepts_in spans a))

-- an accept block has the address
abbrev pub is_accepted_in : List NodeBlock → ℕ → Bool
is_accepted_in spans a = nat_lt 0 (accepts_in spans a)
