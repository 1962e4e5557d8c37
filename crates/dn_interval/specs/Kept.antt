-- The names of a row as they are kept: one, and where there are several, all of them.
use Rattle.std.specs.Prelude.{List, [], ◌∷◌}
use Rattle.dn_interval.specs.declared.row.End.{End}

-- the names of a row
abbrev pub kept_ends : End → List End → List End
kept_ends one [] = one ∷ []
kept_ends one (e ∷ more) = e ∷ more
