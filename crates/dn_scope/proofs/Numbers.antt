-- Texts with their numbers: one text more.
use Rattle.std.proofs.Common.{◌≡◌, ◌∙◌, ap, sym, refl, ℕ, suc, ◌+◌, nat_lt, Bool, true, false, cond, not, List, [], ◌∷◌, ◌++◌, length, map, position, Option, Some, None, arith}
use Rattle.std.proofs.lemmas.Bool.{false≢true}
use Rattle.std.proofs.lemmas.List.{length-map, map-append}
use Rattle.std.proofs.lemmas.Map.Text.{is_eq-slice_cmp}
use Rattle.std.proofs.lemmas.Slice.Eq.{bytes_eq-Decides}
use Rattle.std.specs.BTreeMap.{insert_entry, is_at}
use Rattle.std.specs.Cmp.Lexicographic.{slice_cmp}
use Rattle.std.specs.List.{list_any, prefix_len}
use Rattle.std.specs.Option.{is_some, option_map}
use Rattle.std.specs.Map.{lookup}
use Rattle.std.specs.Ordering.{is_eq, match_ordering, nat_cmp}
use Rattle.std.specs.Str.{bytes_eq}
use Rattle.std.specs.declared.cmp.Ordering.{Ordering}
use Rattle.std.specs.declared.cmp.Ordering.TheVariants.{Less, Equal, Greater}
use Rattle.dn_base.proofs.Booleans.{or_parts}
use Rattle.dn_base.proofs.Lists.{prefix_len-any}
use Rattle.dn_scope.specs.Numbered.{AreNumbered}
use Rattle.dn_scope.proofs.Places.{first_less, next_less}

-- PLACES

module _ {X : Type 0} (p : X → Bool) where
  -- a place is found exactly where an item passes
  pub found_any : (xs : List X) → is_some (position p xs) ≡ list_any p xs
  found_any xs = by (nat_lt (prefix_len (λ y. not (p y)) xs) (length xs)) ∙ prefix_len-any p xs
    where
      by : (t : Bool) → is_some (cond t (Some (prefix_len (λ y. not (p y)) xs)) None) ≡ t
      by true = refl
      by false = refl

  -- the place of a first item that passes, and of those behind it
  place_first : (x : X) (xs : List X) → position p (x ∷ xs) ≡ cond (p x) (Some 0) (option_map (λ n. 1 + n) (position p xs))
  place_first x xs = go (p x) refl
    where
      m : ℕ
      m = prefix_len (λ y. not (p y)) xs

      by : (t : Bool) → cond t (Some (1 + m)) None ≡ option_map (λ n. 1 + n) (cond t (Some m) None)
      by true = refl
      by false = refl

      go : (b : Bool) → p x ≡ b → position p (x ∷ xs) ≡ cond b (Some 0) (option_map (λ n. 1 + n) (position p xs))
      go true e =
          ap (λ b. cond (nat_lt (cond (not b) (1 + m) 0) (suc (length xs))) (Some (cond (not b) (1 + m) 0)) None) e
          ∙ ap (λ t. cond t (Some 0) None) (first_less (length xs))
      go false e =
          ap (λ b. cond (nat_lt (cond (not b) (1 + m) 0) (suc (length xs))) (Some (cond (not b) (1 + m) 0)) None) e
          ∙ ap (λ t. cond t (Some (1 + m)) None) (sym (next_less m (length xs)))
          ∙ by (nat_lt m (length xs))

  -- the place of the last item, where no other passes
  place_last : (xs : List X) (y : X) → list_any p xs ≡ false → position p (xs ++ y ∷ []) ≡ cond (p y) (Some (length xs)) None
  place_last [] y h = place_first y []
  place_last (x ∷ xs) y h =
      let n = or_parts (p x) (list_any p xs) h in
      place_first x (xs ++ y ∷ [])
      ∙ ap (λ b. cond b (Some 0) (option_map (λ n. 1 + n) (position p (xs ++ y ∷ [])))) n.0
      ∙ ap (option_map (λ n. 1 + n)) (place_last xs y n.1)
      ∙ by (p y)
    where
      by : (b : Bool) → option_map (λ n. 1 + n) (cond b (Some (length xs)) None) ≡ cond b (Some (suc (length xs))) None
      by true = let e : 1 + length xs ≡ suc (length xs) = omega arith in ap Some e
      by false = refl

  -- a last item that does not pass changes no place
  place_before : (xs : List X) (y : X) → p y ≡ false → position p (xs ++ y ∷ []) ≡ position p xs
  place_before [] y h = place_first y [] ∙ ap (λ b. cond b (Some 0) None) h
  place_before (x ∷ xs) y h =
      place_first x (xs ++ y ∷ [])
      ∙ ap (λ o. cond (p x) (Some 0) (option_map (λ n. 1 + n) o)) (place_before xs y h)
      ∙ sym (place_first x xs)

-- NUMBERS

module _ {K : Type 0} (bytes : K → List ℕ) where
  -- the order of keys
  abbrev order : K → K → Ordering
  order a b = slice_cmp nat_cmp (bytes a) (bytes b)

  -- the number that a text leads to
  abbrev number_of : List ℕ → List (K × ℕ) → Option ℕ
  number_of w numbers = lookup (is_at (λ k. slice_cmp nat_cmp w (bytes k))) numbers

  module _ (key : K) (n : ℕ) (w : List ℕ) where
    -- what is put leads to its number, and all else to what it led to
    put_among : (es : List (K × ℕ)) → number_of w (insert_entry order es key n) ≡ cond (bytes_eq w (bytes key)) (Some n) (number_of w es)
    put_among [] = ap (λ b. cond b (Some n) None) (is_eq-slice_cmp w (bytes key))
    put_among (e ∷ es) = go (order key e.0) refl (put_among es)
      where
        here : (b : Bool) → bytes_eq w (bytes key) ≡ b → bytes_eq w (bytes e.0) ≡ b → cond (is_eq (slice_cmp nat_cmp w (bytes e.0))) (Some n) (number_of w es) ≡ cond b (Some n) (cond (is_eq (slice_cmp nat_cmp w (bytes e.0))) (Some e.1) (number_of w es))
        here true at same = ap (λ b. cond b (Some n) (number_of w es)) (is_eq-slice_cmp w (bytes e.0) ∙ same)
        here false at same =
            ap (λ b. cond b (Some n) (number_of w es)) (is_eq-slice_cmp w (bytes e.0) ∙ same)
            ∙ sym (ap (λ b. cond b (Some e.1) (number_of w es)) (is_eq-slice_cmp w (bytes e.0) ∙ same))

        later : (b q : Bool) → (b ≡ true → q ≡ false) → cond q (Some e.1) (cond b (Some n) (number_of w es)) ≡ cond b (Some n) (cond q (Some e.1) (number_of w es))
        later true true h = absurd (false≢true (sym (h refl)))
        later true false h = refl
        later false q h = refl

        go : (o : Ordering) → order key e.0 ≡ o → number_of w (insert_entry order es key n) ≡ cond (bytes_eq w (bytes key)) (Some n) (number_of w es) → number_of w (match_ordering o ((key, n) ∷ e ∷ es) ((e.0, n) ∷ es) (e ∷ insert_entry order es key n)) ≡ cond (bytes_eq w (bytes key)) (Some n) (number_of w (e ∷ es))
        go Less is rest = ap (λ b. cond b (Some n) (number_of w (e ∷ es))) (is_eq-slice_cmp w (bytes key))
        go Equal is rest =
            let same : bytes key ≡ bytes e.0 = (bytes_eq-Decides (bytes key) (bytes e.0)).0 (sym (is_eq-slice_cmp (bytes key) (bytes e.0)) ∙ ap is_eq is) in
            here (bytes_eq w (bytes key)) refl (ap (bytes_eq w) (sym same))
        go Greater is rest =
            ap (λ o. cond (is_eq (slice_cmp nat_cmp w (bytes e.0))) (Some e.1) o) rest
            ∙ later (bytes_eq w (bytes key)) (is_eq (slice_cmp nat_cmp w (bytes e.0))) apart
          where
            apart : bytes_eq w (bytes key) ≡ true → is_eq (slice_cmp nat_cmp w (bytes e.0)) ≡ false
            apart h = ap (λ v. is_eq (slice_cmp nat_cmp v (bytes e.0))) ((bytes_eq-Decides w (bytes key)).0 h) ∙ ap is_eq is

  -- a text that is new gets the number of how many there were
  pub put_numbered : (es es' : List (K × ℕ)) (texts : List K) (text key : K) (n : ℕ) → AreNumbered bytes es texts → list_any (bytes_eq (bytes text)) (map bytes texts) ≡ false → bytes key ≡ bytes text → n ≡ length texts → es' ≡ insert_entry order es key n → AreNumbered bytes es' (texts ++ text ∷ [])
  put_numbered es es' texts text key n f new same count e = record { found = λ w. ap (number_of w) e ∙ put_among key n w es ∙ go w (bytes_eq w (bytes key)) refl ∙ ap (position (bytes_eq w)) (sym (map-append bytes texts (text ∷ []))) }
    where
      go : (w : List ℕ) (b : Bool) → bytes_eq w (bytes key) ≡ b → cond b (Some n) (number_of w es) ≡ position (bytes_eq w) (map bytes texts ++ bytes text ∷ [])
      go w true h =
          let is : w ≡ bytes text = (bytes_eq-Decides w (bytes key)).0 h ∙ same in
          let none : list_any (bytes_eq w) (map bytes texts) ≡ false = ap (λ v. list_any (bytes_eq v) (map bytes texts)) is ∙ new in
          let here : bytes_eq w (bytes text) ≡ true = ap (bytes_eq w) (sym same) ∙ h in
          let size : n ≡ length (map bytes texts) = count ∙ sym (length-map texts bytes) in
          ap Some size
          ∙ sym (place_last (bytes_eq w) (map bytes texts) (bytes text) none ∙ ap (λ b. cond b (Some (length (map bytes texts))) None) here)
      go w false h = f.found w ∙ sym (place_before (bytes_eq w) (map bytes texts) (bytes text) (ap (bytes_eq w) (sym same) ∙ h))
