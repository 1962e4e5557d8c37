-- The map blocks of a node, each with the place of its entry.
use Rattle.std.specs.Prelude.{ℕ, ◌+◌, List, [], ◌∷◌}
use Rattle.dn_net.specs.declared.node.Entry.{Entry}
use Rattle.dn_net.specs.declared.entries.Place.{Place}

-- those of a list of entries, whose first entry has this place
abbrev pub places_from : ℕ → List Entry → List Place
places_from n [] = []
places_from n (e ∷ es) = record { block = e.block; entry = n } ∷ places_from (n + 1) es
