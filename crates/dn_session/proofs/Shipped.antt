-- A list to which the shipped kinds were added, one after another, has them.
use Rattle.std.proofs.Common.{◌≡◌, ◌∙◌, ap, List, [], ◌∷◌, ◌++◌, map, false, true≢false, subst, sym, Result, Ok, Err, is_err, OnOk}
use Rattle.dn_kind.specs.Kind.{Meaning}
use Rattle.dn_kinds.specs.Layouts.{pages, radix, remap, vectors}
use Rattle.dn_session.specs.Shipped.{shipped_kinds}

on_ok : {A E : Type 0} {P : Type 0} (result : Result A E) → is_err result ≡ false → OnOk result P → P
on_ok (Ok a) e p = p
on_ok (Err why) e p = absurd (true≢false e)

-- one more item was added, where the call did not fail
pub record IsItemAdded {X A E : Type 0} (before after : List X) (x : X) (result : Result A E) : Type 0 where
  pub none : is_err result ≡ false
  pub added : OnOk result (after ≡ before ++ x ∷ [])

pub shipped_are : {X A E : Type 0} (f : X → Meaning) (xs₀ xs₁ xs₂ xs₃ xs₄ : List X) (x₁ x₂ x₃ x₄ : X) (r₁ r₂ r₃ r₄ : Result A E)
    → xs₀ ≡ [] → IsItemAdded xs₀ xs₁ x₁ r₁ → IsItemAdded xs₁ xs₂ x₂ r₂ → IsItemAdded xs₂ xs₃ x₃ r₃ → IsItemAdded xs₃ xs₄ x₄ r₄
    → f x₁ ≡ pages → f x₂ ≡ remap → f x₃ ≡ vectors → f x₄ ≡ radix → map f xs₄ ≡ shipped_kinds
unfolding shipped_kinds
shipped_are f xs₀ xs₁ xs₂ xs₃ xs₄ x₁ x₂ x₃ x₄ r₁ r₂ r₃ r₄ e₀ a₁ a₂ a₃ a₄ m₁ m₂ m₃ m₄ =
    let e₁ = on_ok r₁ a₁.none a₁.added in let e₂ = on_ok r₂ a₂.none a₂.added in let e₃ = on_ok r₃ a₃.none a₃.added in let e₄ = on_ok r₄ a₄.none a₄.added in
    let is : xs₄ ≡ x₁ ∷ x₂ ∷ x₃ ∷ x₄ ∷ [] = e₄ ∙ ap (λ xs. xs ++ x₄ ∷ []) (e₃ ∙ ap (λ xs. xs ++ x₃ ∷ []) (e₂ ∙ ap (λ xs. xs ++ x₂ ∷ []) (e₁ ∙ ap (λ xs. xs ++ x₁ ∷ []) e₀))) in
    ap (map f) is ∙ (λ i. m₁ i ∷ m₂ i ∷ m₃ i ∷ m₄ i ∷ [])

-- what a box means is told by its table of methods alone
pub named_by : {I : Type 0} {V : I → Type 0} (means : (k : I) × V k → Meaning) (m : Meaning) (i : I) → ((v : V i) → means (i, v) ≡ m)
    → (j : I) → j ≡ i → (v : V j) → means (j, v) ≡ m
named_by {V = V} means m i told j e = subst (λ (k : _). (v : V k) → means (k, v) ≡ m) (sym e) told
