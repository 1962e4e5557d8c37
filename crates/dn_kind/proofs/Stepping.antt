-- The names one step on from those of a list, name by name.
use Rattle.std.proofs.Common.{◌≡◌, ◌∙◌, ap, sym, subst, refl, ℕ, ◌+◌, ◌<◌, Bool, true, false, if◌then◌else◌, List, [], ◌∷◌, ◌++◌, length, drop, get_or, add-one, append_assoc, IsTrue, ltb-true, nat_lt}
use Rattle.std.proofs.Math.Seq.{drop-cons}
use Rattle.dn_base.proofs.Booleans.{and_parts}
use Rattle.dn_net.specs.declared.node.Name.{Name}
use Rattle.dn_net.specs.Names.{each_step, passing_names}
use Rattle.dn_kind.specs.Levels.{are_there}

-- the names of a list that pass are that of the first and those of the rest
passing_more : (p : Name → Bool) (x : Name) (xs : List Name) (b : Bool) → p x ≡ b → passing_names p (x ∷ []) ++ passing_names p xs ≡ passing_names p (x ∷ xs)
passing_more p x xs true e = ap (λ c. (if c then x ∷ [] else []) ++ passing_names p xs) e ∙ sym (ap (λ c. if c then x ∷ passing_names p xs else passing_names p xs) e)
passing_more p x xs false e = ap (λ c. (if c then x ∷ [] else []) ++ passing_names p xs) e ∙ sym (ap (λ c. if c then x ∷ passing_names p xs else passing_names p xs) e)

pub passing_next : (p : Name → Bool) (known more : List Name) (x : Name) (left rest total : List Name) → more ≡ known ++ passing_names p (x ∷ []) → left ≡ x ∷ rest → known ++ passing_names p left ≡ total → more ++ passing_names p rest ≡ total
passing_next p known more x left rest total em el is =
    ap (λ (l : List Name). l ++ passing_names p rest) em
    ∙ append_assoc known (passing_names p (x ∷ [])) (passing_names p rest)
    ∙ ap (λ (l : List Name). known ++ l) (passing_more p x rest (p x) refl)
    ∙ ap (λ (l : List Name). known ++ passing_names p l) (sym el)
    ∙ is

pub each_next : (f : Name → List Name) (known more : List Name) (x : Name) (left rest total : List Name) → more ≡ known ++ f x → left ≡ x ∷ rest → known ++ each_step f left ≡ total → more ++ each_step f rest ≡ total
each_next f known more x left rest total em el is =
    ap (λ (l : List Name). l ++ each_step f rest) em
    ∙ append_assoc known (f x) (each_step f rest)
    ∙ ap (λ (l : List Name). known ++ each_step f l) (sym el)
    ∙ is

-- the rest of a list from a place on
pub left_at : (xs : List Name) (i : ℕ) (x : Name) → i < length xs → drop i xs ≡ get_or xs i x ∷ drop (i + 1) xs
left_at xs i x l = drop-cons xs i x l ∙ ap (λ n. get_or xs i x ∷ drop n xs) (sym (add-one i))

pub there_next : (count : ℕ) (x : Name) (left rest : List Name) → left ≡ x ∷ rest → IsTrue (are_there count left) → (x.node < count) × IsTrue (are_there count rest)
there_next count x left rest e h =
    let b = and_parts (nat_lt x.node count) (are_there count rest) (subst (λ (l : List Name). IsTrue (are_there count l)) e h) in
    (ltb-true x.node count b.0, b.1)
