-- Names among others: the place of one, and whether any comes twice.
use Rattle.std.proofs.Common.{◌≡◌, ◌∙◌, ap, sym, refl, is_some, ℕ, List, [], ◌∷◌, ◌++◌, map, true, false, Bool, arith, position, Option, None, Some, ◌||◌}
use Rattle.std.proofs.lemmas.Grind.{common_steps}
use Rattle.std.proofs.lemmas.Bool.{false≢true}
use Rattle.std.proofs.lemmas.Cmp.{nat_list_eq_equiv}
use Rattle.std.proofs.lemmas.List.Folds.{list_any-append, list_any_at}
use Rattle.std.proofs.lemmas.List.Quantifiers.{position-Some}
use Rattle.std.specs.List.{list_any}
use Rattle.std.specs.Str.{bytes_eq}
use Rattle.dn_base.proofs.Lists.{position-map, prefix_len-any}
use Rattle.dn_scope.specs.Numbered.{is_known}
use Rattle.dn_scope.specs.Uses.{has_twice}

pub is_known-Some : (known : List (List ℕ)) (text : List ℕ) (number : ℕ) → position (bytes_eq text) known ≡ Some number → is_known known text ≡ true
is_known-Some known text number e =
    let at = position-Some (bytes_eq text) known number [] e in
    list_any_at (bytes_eq text) known number [] at.0 at.1

pub is_known-None : (known : List (List ℕ)) (text : List ℕ) → position (bytes_eq text) known ≡ None → is_known known text ≡ false
is_known-None known text e = let h = prefix_len-any (bytes_eq text) known in grind (arith, common_steps, h)

-- a place among names that are seen by their bytes
pub place_seen : {X : Type 0} (text : X → List ℕ) (w : List ℕ) (keys : List X) {view : List (List ℕ)} {o : Option ℕ} → map text keys ≡ view → o ≡ position (λ k. bytes_eq w (text k)) keys → o ≡ position (bytes_eq w) view
place_seen text w keys seen is = is ∙ sym (position-map text (bytes_eq w) keys) ∙ ap (position (bytes_eq w)) seen

twice_step : (a b d e : Bool) → (d ≡ true → e ≡ true) → (a || d) ≡ true → ((a || b) || e) ≡ true
twice_step true b d e k l = refl
twice_step false true d e k l = refl
twice_step false false d e k l = k l

-- a name that comes twice in a front comes twice in the whole
pub twice-append : (xs ys : List (List ℕ)) → has_twice xs ≡ true → has_twice (xs ++ ys) ≡ true
twice-append [] ys h = absurd (false≢true h)
twice-append (x ∷ xs) ys h =
    ap (λ w. w || has_twice (xs ++ ys)) (list_any-append (bytes_eq x) xs ys) ∙ twice_step (list_any (bytes_eq x) xs) (list_any (bytes_eq x) ys) (has_twice xs) (has_twice (xs ++ ys)) (twice-append xs ys) h

shuffle : (a b c d : Bool) → ((b || (a || false)) || (c || d)) ≡ ((a || c) || (b || d))
shuffle true true c d = refl
shuffle true false c d = refl
shuffle false true true d = refl
shuffle false true false d = refl
shuffle false false c d = refl

-- one more name comes twice where it was there before
pub twice-push : (xs : List (List ℕ)) (y : List ℕ) → has_twice (xs ++ y ∷ []) ≡ (is_known xs y || has_twice xs)
twice-push [] y = refl
twice-push (x ∷ xs) y =
    let b = list_any (bytes_eq x) xs in
    let rest = is_known xs y || has_twice xs in
    ap (λ w. w || has_twice (xs ++ y ∷ [])) (list_any-append (bytes_eq x) xs (y ∷ []))
    ∙ ap (λ e. (b || (bytes_eq x y || false)) || e) (twice-push xs y)
    ∙ ap (λ a. (b || (a || false)) || rest) (nat_list_eq_equiv.symm x y)
    ∙ shuffle (bytes_eq y x) b (is_known xs y) (has_twice xs)

-- a name that is new to different names leaves them different
pub new_stays : (known : List (List ℕ)) (text : List ℕ) → is_known known text ≡ false → has_twice known ≡ false → has_twice (known ++ text ∷ []) ≡ false
new_stays known text h k = twice-push known text ∙ ap (λ b. b || has_twice known) h ∙ k

-- whether a name is there, by its place
pub found_is : (known : List (List ℕ)) (text : List ℕ) (r : Option ℕ) → r ≡ position (bytes_eq text) known → is_known known text ≡ is_some r
found_is known text None e = is_known-None known text (sym e)
found_is known text (Some n) e = is_known-Some known text n (sym e)
