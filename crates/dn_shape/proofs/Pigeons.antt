-- A list of distinct values that all stand in another list is no longer than that.
use Rattle.std.proofs.Common.{◌≡◌, suc, ◌≤◌, ◌⊎◌, inl, inr, List, [], ◌∷◌, length, refl, sym, ap, ◌∙◌, subst, arith}
use Rattle.dn_base.specs.Members.{Member}

-- no value of the list stands in it twice
abbrev pub Distinct : {X : Type 0} → List X → Type 0
Distinct [] = Unit {0}
Distinct (x ∷ xs) = (Member x xs → ⊥) × Distinct xs

-- the list without one of its members
taken_out : {X : Type 0} (ys : List X) (x : X) → Member x ys → (zs : List X) × (length ys ≡ suc (length zs)) × ((z : X) → Member z ys → (z ≡ x) ⊎ Member z zs)
taken_out [] x m = absurd m
taken_out (y ∷ ys) x (inl e) = (ys, refl, (λ z m. elim m [ inl f ↦ inl (sym f ∙ e) | inr n ↦ inr n ]))
taken_out (y ∷ ys) x (inr m) =
    let r = taken_out ys x m in
    (y ∷ r.0, ap suc r.1, (λ z n. elim n [ inl f ↦ inr (inl f) | inr k ↦ elim (r.2 z k) [ inl g ↦ inl g | inr g ↦ inr (inr g) ] ]))

pub no_longer : {X : Type 0} (xs ys : List X) → Distinct xs → ((x : X) → Member x xs → Member x ys) → length xs ≤ length ys
no_longer [] ys d sub = omega arith
no_longer {X} (x ∷ xs) ys d sub =
    let r = taken_out ys x (sub x (inl refl)) in
    let ih = no_longer xs r.0 d.1 (λ z m. elim (r.2 z (sub z (inr m))) [ inl e ↦ absurd (d.0 (subst (λ w. Member w xs) e m)) | inr n ↦ n ]) in
    let e : length ys ≡ suc (length r.0) = r.1 in
    omega arith
