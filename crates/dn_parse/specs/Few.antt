-- The items of a list of one or more.
use Rattle.std.specs.Prelude.{List, [], ◌∷◌}
use Rattle.dn_parse.specs.declared.few.OneOrMany.{OneOrMany}
use Rattle.dn_parse.specs.declared.few.OneOrMany.TheVariants.{One, Many}

-- the items, in order
abbrev pub few_items : {T : Type 0} → OneOrMany T → List T
few_items (One x) = x ∷ []
few_items (Many v) = v.items
