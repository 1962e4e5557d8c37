-- The names of a net as the ends of rows: where one stands, and that names which ascend do so as rows have them.
use Rattle.std.proofs.Common.{◌≡◌, ◌↔◌, inl, inr, List, [], ◌∷◌, map, refl, ap, true}
use Rattle.dn_base.proofs.Booleans.{and_parts}
use Rattle.dn_interval.specs.Rows.{AllAbove, Ascending}
use Rattle.dn_net.specs.declared.node.Name.{Name}
use Rattle.dn_net.specs.Chain.{Member}
use Rattle.dn_net.specs.Names.{name_lt, is_before_first, is_ascending}
use Rattle.dn_net.proofs.Ascending.{before_members}
use Rattle.dn_walk.specs.Ends.{end_of, name_of_end}

-- a name stands in a list exactly where its end stands in the list of their ends
pub end_in : (xs : List Name) (y : Name) → Member (end_of y) (map end_of xs) ↔ Member y xs
end_in [] y = ((λ m. m), (λ m. m))
end_in (x ∷ xs) y =
    let later = end_in xs y in (
      (λ m. elim m [ inl e ↦ inl (ap name_of_end e) | inr n ↦ inr (later.0 n) ]),
      (λ m. elim m [ inl e ↦ inl (ap end_of e) | inr n ↦ inr (later.1 n) ]),
    )

-- a name that comes before each other does so as rows have them
all_above : (x : Name) (xs : List Name) → ((z : Name) → Member z xs → name_lt x z ≡ true) → AllAbove (end_of x) (map end_of xs)
all_above x [] before = tt
all_above x (y ∷ ys) before = (before y (inl refl), all_above x ys (λ z m. before z (inr m)))

pub ends_ascend : (xs : List Name) → is_ascending xs ≡ true → Ascending (map end_of xs)
ends_ascend [] up = tt
ends_ascend (x ∷ xs) up = (all_above x xs (λ z m. before_members x z xs up m), ends_ascend xs (and_parts (is_before_first x xs) (is_ascending xs) up).1)
