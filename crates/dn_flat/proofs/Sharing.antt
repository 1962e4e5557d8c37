-- What nodes reach where some share it: the list grows by what is made, and by what is shared.
use Rattle.std.proofs.Common.{◌≡◌, ◌∙◌, ℕ, zero, suc, ◌<◌, List, [], ◌∷◌, ◌++◌, map, length, slice_get, Option, Some, nat_lt, refl, sym, ap, arith, IsTrue, ltb-true, lt-ltb, unwrap_or, option_map}
use Rattle.std.specs.List.{list_all}
use Rattle.std.proofs.lemmas.Option.{slice_get-map}
use Rattle.dn_base.proofs.Booleans.{and_parts}
use Rattle.dn_base.proofs.Lists.{list_all-implied, list_all-last, map-last, length-last}
use Rattle.dn_flat.specs.declared.levels.Levels.{Levels}
use Rattle.dn_flat.specs.Shared.{no_levels, levels_at}

-- each place is one of what was made
abbrev pub Within : List Levels → List ℕ → Type 0
Within made places = IsTrue (list_all (λ p. nat_lt p (length made)) places)

get_front : (xs : List Levels) (x : Levels) (p : ℕ) → p < length xs → slice_get (xs ++ x ∷ []) p ≡ slice_get xs p
get_front [] x p l = absurd (omega arith)
get_front (y ∷ xs) x zero l = refl
get_front (y ∷ xs) x (suc p) l = get_front xs x p (omega arith)

get_last : (xs : List Levels) (x : Levels) → slice_get (xs ++ x ∷ []) (length xs) ≡ Some x
get_last [] x = refl
get_last (y ∷ xs) x = get_last xs x

same_cons : {x y : Levels} {xs ys : List Levels} → x ≡ y → xs ≡ ys → x ∷ xs ≡ y ∷ ys
same_cons p q = cc

-- one more is made

pub wider : (made : List Levels) (levels : Levels) (places : List ℕ) → Within made places → Within (made ++ levels ∷ []) places
wider made levels places h =
    let more = length-last made levels in
    list_all-implied (λ p. nat_lt p (length made)) (λ p. nat_lt p (length (made ++ levels ∷ []))) (λ p t. let l = ltb-true p (length made) t in lt-ltb p (length (made ++ levels ∷ [])) (omega arith)) places h

grown : (made : List Levels) (levels : Levels) (places : List ℕ) → Within made places → map (levels_at (made ++ levels ∷ [])) places ≡ map (levels_at made) places
grown made levels [] h = refl
grown made levels (p ∷ ps) h =
    let parts = and_parts (nat_lt p (length made)) (list_all (λ p. nat_lt p (length made)) ps) h in
    same_cons (ap (λ (o : Option Levels). unwrap_or o no_levels) (get_front made levels p (ltb-true p (length made) parts.0))) (grown made levels ps parts.1)

pub made_more : (made : List Levels) (levels : Levels) (places : List ℕ) → Within made places → map (levels_at (made ++ levels ∷ [])) (places ++ length made ∷ []) ≡ map (levels_at made) places ++ levels ∷ []
made_more made levels places h =
    map-last (levels_at (made ++ levels ∷ [])) places (length made)
    ∙ ap (λ fs. fs ++ levels_at (made ++ levels ∷ []) (length made) ∷ []) (grown made levels places h)
    ∙ ap (λ (o : Option Levels). map (levels_at made) places ++ unwrap_or o no_levels ∷ []) (get_last made levels)

pub made_within : (made : List Levels) (levels : Levels) (places : List ℕ) → Within made places → Within (made ++ levels ∷ []) (places ++ length made ∷ [])
made_within made levels places h =
    let more = length-last made levels in
    list_all-last (λ p. nat_lt p (length (made ++ levels ∷ []))) places (length made) (wider made levels places h) (lt-ltb (length made) (length (made ++ levels ∷ [])) (omega arith))

-- one more shares what stands at a place

of_some : (x y : Levels) → ◌≡◌ {A = Option Levels} (Some x) (Some y) → x ≡ y
of_some x y e = cc

pub shared_more : (made : List Levels) (places : List ℕ) (other place : ℕ) (levels : Levels) → slice_get places other ≡ Some place → slice_get (map (levels_at made) places) other ≡ Some levels → map (levels_at made) (places ++ place ∷ []) ≡ map (levels_at made) places ++ levels ∷ []
shared_more made places other place levels at is =
    let same : levels_at made place ≡ levels = of_some (levels_at made place) levels (sym (slice_get-map (levels_at made) places other ∙ ap (option_map (levels_at made)) at) ∙ is) in
    map-last (levels_at made) places place ∙ ap (λ f. map (levels_at made) places ++ f ∷ []) same
