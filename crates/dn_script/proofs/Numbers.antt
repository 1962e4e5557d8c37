-- The numbers of ids.
use Rattle.std.proofs.Common.{◌≡◌, ◌∙◌, ap, sym, refl, arith, ℕ, Bool, true, false, not, if◌then◌else◌, List, [], ◌∷◌, ◌++◌, position, Some}
use Rattle.std.specs.List.{list_any}
use Rattle.std.specs.Str.{bytes_eq}
use Rattle.std.proofs.lemmas.Grind.{common_steps}
use Rattle.dn_base.proofs.Lists.{prefix_len-any}
use Rattle.dn_script.specs.Ids.{with_id}

position-some : {X : Type 0} (p : X → Bool) (xs : List X) (n : ℕ) → position p xs ≡ Some n → list_any p xs ≡ true
position-some p xs n e = let h = prefix_len-any p xs in grind (arith, common_steps, h)

-- an id that came before adds nothing
pub known_stays : (ids : List (List ℕ)) (id : List ℕ) (n : ℕ) → position (bytes_eq id) ids ≡ Some n → ids ≡ with_id ids id
known_stays ids id n e = ap (λ b. if b then ids else ids ++ id ∷ []) (sym (position-some (bytes_eq id) ids n e))

-- an id that is put among others, by the table that keeps them
module _ (ids now : List (List ℕ)) (id : List ℕ) (is_new : Bool) (is : now ≡ (if is_new then ids ++ id ∷ [] else ids)) where
  pub put_id : is_new ≡ not (list_any (bytes_eq id) ids) → now ≡ with_id ids id
  put_id e = is ∙ ap (λ b. if b then ids ++ id ∷ [] else ids) e ∙ by (list_any (bytes_eq id) ids)
    where
      by : (b : Bool) → (if not b then ids ++ id ∷ [] else ids) ≡ (if b then ids else ids ++ id ∷ [])
      by true = refl
      by false = refl
