-- Names that are followed level by level.
use Rattle.std.specs.Prelude.{ℕ, Bool, nat_lt, List, [], ◌∷◌, Option, Some, None}
use Rattle.std.specs.List.{list_all}
use Rattle.dn_net.specs.declared.node.Name.{Name}

-- each name is in one of so many nodes
abbrev pub are_there : ℕ → List Name → Bool
are_there count xs = list_all (λ x. nat_lt x.node count) xs

-- the name, as a list of at most one
abbrev pub name_list : Option Name → List Name
name_list None = []
name_list (Some x) = x ∷ []
