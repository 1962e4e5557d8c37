-- The kinds of units that the program knows.
use Rattle.std.specs.Prelude.{List, [], ◌∷◌}
use Rattle.dn_kind.specs.Kind.{Meaning}
use Rattle.dn_kinds.specs.Layouts.{pages, radix, remap, vectors}

-- the kinds `pages`, `remap`, `vectors` and `radix`, in this order
abbrev pub program_kinds : List Meaning
program_kinds = pages ∷ remap ∷ vectors ∷ radix ∷ []
