-- What stands for the words of parameters, at their places.
use Rattle.std.proofs.Common.{◌≡◌, ◌∙◌, ap, sym, subst, refl, arith, ℕ, zero, suc, ◌+◌, ◌<◌, ◌≤◌, nat_lt, Bool, true, false, not, cond, List, [], ◌∷◌, ◌++◌, length, drop, map, get_or, slice_get, position, Option, None, Some, add-one}
use Rattle.std.proofs.lemmas.Bool.Decides.{nat_tests}
use Rattle.std.proofs.lemmas.Bool.{ltb-true, lt-ltb}
use Rattle.std.proofs.lemmas.List.{length-map}
use Rattle.std.proofs.lemmas.Option.{slice_get-map}
use Rattle.std.specs.Option.{option_map, is_some}
use Rattle.std.specs.Cmp.Lexicographic.{bytes_decides}
use Rattle.std.specs.List.{list_any, prefix_len}
use Rattle.std.specs.Str.{bytes_eq}
use Rattle.dn_scope.specs.Uses.{Given, number, named, numbers_of, nodes_of, has_twice}
use Rattle.dn_scope.specs.Replace.{value_for_word}
use Rattle.dn_scope.specs.declared.words.Given.{Given as CodeGiven}
use Rattle.dn_scope.specs.Words.{given_view, number_part, name_part, part_in, numbers_from}
use Rattle.dn_base.proofs.Lists.{position-none, slice_get-at}
use Rattle.dn_base.proofs.Booleans.{or_parts}
use Rattle.dn_base.proofs.Orders.{one-add, le-ltb}

no_less : (n : ℕ) → nat_lt n 0 ≡ false
no_less n = grind (arith, nat_tests)

pub first_less : (k : ℕ) → nat_lt 0 (suc k) ≡ true
first_less k = grind (arith, nat_tests)

pub next_less : (n k : ℕ) → nat_lt n k ≡ nat_lt (1 + n) (suc k)
next_less n k = go (nat_lt n k) (nat_lt (1 + n) (suc k)) refl refl where
  go : (a b : Bool) → nat_lt n k ≡ a → nat_lt (1 + n) (suc k) ≡ b → a ≡ b
  go true true e f = refl
  go true false e f = absurd (grind (arith, nat_tests))
  go false true e f = absurd (grind (arith, nat_tests))
  go false false e f = refl

-- a word with what stands for it, where something does
abbrev pair_by : {A : Type 0} → List ℕ → Option A → List (List ℕ × A)
pair_by w None = []
pair_by w (Some a) = (w, a) ∷ []

-- words with a part of the values that stand for them
abbrev pairs_of : {A : Type 0} → (Given → Option A) → List (List ℕ) → List Given → List (List ℕ × A)
pairs_of part [] gs = []
pairs_of part (w ∷ ws) [] = []
pairs_of part (w ∷ ws) (g ∷ gs) = pair_by w (part g) ++ pairs_of part ws gs

numbers_are : (ws : List (List ℕ)) (gs : List Given) → numbers_of ws gs ≡ pairs_of number_part ws gs
numbers_are [] gs = refl
numbers_are (w ∷ ws) [] = refl
numbers_are (w ∷ ws) (number n ∷ gs) = ap (λ l. (w, n) ∷ l) (numbers_are ws gs)
numbers_are (w ∷ ws) (named text ∷ gs) = numbers_are ws gs

names_are : (ws : List (List ℕ)) (gs : List Given) → nodes_of ws gs ≡ pairs_of name_part ws gs
names_are [] gs = refl
names_are (w ∷ ws) [] = refl
names_are (w ∷ ws) (number n ∷ gs) = names_are ws gs
names_are (w ∷ ws) (named text ∷ gs) = ap (λ l. (w, text) ∷ l) (names_are ws gs)

-- the place of a word among others, or past them all
place : List ℕ → List (List ℕ) → ℕ
place w ws = prefix_len (λ v. not (bytes_eq w v)) ws

module _ {A : Type 0} (part : Given → Option A) (w : List ℕ) where
  past_one : (v : List ℕ) (o : Option A) (rest : List (List ℕ × A)) → bytes_eq w v ≡ false → value_for_word w (pair_by v o ++ rest) ≡ value_for_word w rest
  past_one v None rest h = refl
  past_one v (Some a) rest h = ap (λ b. cond b (Some a) (value_for_word w rest)) h

  at_one : (v : List ℕ) (o : Option A) (rest : List (List ℕ × A)) → bytes_eq w v ≡ true → value_for_word w rest ≡ None → value_for_word w (pair_by v o ++ rest) ≡ o
  at_one v None rest h none = none
  at_one v (Some a) rest h none = ap (λ b. cond b (Some a) (value_for_word w rest)) h

  -- a word that is not there
  unmet : (ws : List (List ℕ)) (gs : List Given) → list_any (bytes_eq w) ws ≡ false → value_for_word w (pairs_of part ws gs) ≡ None
  unmet [] gs h = refl
  unmet (v ∷ vs) [] h = refl
  unmet (v ∷ vs) (g ∷ gs) h =
      let n = or_parts (bytes_eq w v) (list_any (bytes_eq w) vs) h in
      past_one v (part g) (pairs_of part vs gs) n.0 ∙ unmet vs gs n.1

  unmet_behind : (k : ℕ) (vs : List (List ℕ)) → list_any (bytes_eq w) vs ≡ false → list_any (bytes_eq w) (drop k vs) ≡ false
  unmet_behind zero vs h = h
  unmet_behind (suc k) [] h = refl
  unmet_behind (suc k) (v ∷ vs) h = unmet_behind k vs (or_parts (bytes_eq w v) (list_any (bytes_eq w) vs) h).1

  -- among different words the others are not the one that was met
  only_one : (v : List ℕ) (vs : List (List ℕ)) → bytes_eq w v ≡ true → list_any (bytes_eq v) vs ≡ false → list_any (bytes_eq w) vs ≡ false
  only_one v vs e h = subst (λ u. list_any (bytes_eq u) vs ≡ false) (sym ((bytes_decides w v).0 e)) h

  -- a word that is there
  at_place : (ws : List (List ℕ)) (gs : List Given) → has_twice ws ≡ false → place w ws < length ws → value_for_word w (pairs_of part ws gs) ≡ part_in part (slice_get gs (place w ws))
  unfolding place
  at_place [] gs once h = absurd (omega arith)
  at_place (v ∷ vs) [] once h = refl
  at_place (v ∷ vs) (g ∷ gs) once h = go (bytes_eq w v) refl (at_place vs gs n.1) h where
    n : (list_any (bytes_eq v) vs ≡ false) × (has_twice vs ≡ false)
    n = or_parts (list_any (bytes_eq v) vs) (has_twice vs) once

    go : (b : Bool) → bytes_eq w v ≡ b → (place w vs < length vs → value_for_word w (pairs_of part vs gs) ≡ part_in part (slice_get gs (place w vs))) → cond (not b) (1 + place w vs) 0 < suc (length vs) → value_for_word w (pair_by v (part g) ++ pairs_of part vs gs) ≡ part_in part (slice_get (g ∷ gs) (cond (not b) (1 + place w vs) 0))
    go true e ih h = at_one v (part g) (pairs_of part vs gs) e (unmet vs gs (only_one v vs e n.0))
    go false e ih h =
        past_one v (part g) (pairs_of part vs gs) e
        ∙ ih (omega arith)
        ∙ ap (λ i. part_in part (slice_get (g ∷ gs) i)) (sym (one-add (place w vs)))

  no_values : (ws : List (List ℕ)) → pairs_of part ws [] ≡ []
  no_values [] = refl
  no_values (v ∷ vs) = refl

  none_anyway : (b : Bool) → None ≡ cond b None (part_in part None)
  none_anyway true = refl
  none_anyway false = refl

  -- the same where what stands before a place is left out
  behind : (k : ℕ) (ws : List (List ℕ)) (gs : List Given) → has_twice ws ≡ false → place w ws < length ws → value_for_word w (pairs_of part (drop k ws) (drop k gs)) ≡ cond (nat_lt (place w ws) k) None (part_in part (slice_get gs (place w ws)))
  unfolding place
  behind zero ws gs once h = at_place ws gs once h ∙ ap (λ b. cond b None (part_in part (slice_get gs (place w ws)))) (sym (no_less (place w ws)))
  behind (suc k) [] gs once h = absurd (omega arith)
  behind (suc k) (v ∷ vs) [] once h = ap (value_for_word w) (no_values (drop k vs)) ∙ none_anyway (nat_lt (place w (v ∷ vs)) (suc k))
  behind (suc k) (v ∷ vs) (g ∷ gs) once h = go (bytes_eq w v) refl (behind k vs gs n.1) h where
    n : (list_any (bytes_eq v) vs ≡ false) × (has_twice vs ≡ false)
    n = or_parts (list_any (bytes_eq v) vs) (has_twice vs) once

    go : (b : Bool) → bytes_eq w v ≡ b → (place w vs < length vs → value_for_word w (pairs_of part (drop k vs) (drop k gs)) ≡ cond (nat_lt (place w vs) k) None (part_in part (slice_get gs (place w vs)))) → cond (not b) (1 + place w vs) 0 < suc (length vs) → value_for_word w (pairs_of part (drop k vs) (drop k gs)) ≡ cond (nat_lt (cond (not b) (1 + place w vs) 0) (suc k)) None (part_in part (slice_get (g ∷ gs) (cond (not b) (1 + place w vs) 0)))
    go true e ih h =
        unmet (drop k vs) (drop k gs) (unmet_behind k vs (only_one v vs e n.0))
        ∙ ap (λ b. cond b None (part_in part (slice_get (g ∷ gs) 0))) (sym (first_less k))
    go false e ih h =
        ih (omega arith)
        ∙ ap (λ b. cond b None (part_in part (slice_get gs (place w vs)))) (next_less (place w vs) k)
        ∙ ap (λ i. cond (nat_lt (1 + place w vs) (suc k)) None (part_in part (slice_get (g ∷ gs) i))) (sym (one-add (place w vs)))

  is_place : (ws : List (List ℕ)) (i : ℕ) → position (bytes_eq w) ws ≡ Some i → (place w ws ≡ i) × (place w ws < length ws)
  unfolding place
  is_place ws i e = go (nat_lt (place w ws) (length ws)) refl e where
    go : (b : Bool) → nat_lt (place w ws) (length ws) ≡ b → cond b (Some (place w ws)) None ≡ Some i → (place w ws ≡ i) × (place w ws < length ws)
    go true t e = (cc, ltb-true (place w ws) (length ws) t)
    go false t e = cc

module _ (w : List ℕ) (ws : List (List ℕ)) (gs : List Given) where
  pub no_number : (k : ℕ) → position (bytes_eq w) ws ≡ None → value_for_word w (numbers_from k ws gs) ≡ None
  no_number k e =
      ap (value_for_word w) (numbers_are (drop k ws) (drop k gs))
      ∙ unmet number_part w (drop k ws) (drop k gs) (unmet_behind number_part w k ws (position-none (bytes_eq w) ws e))

  number_there : (k i : ℕ) → has_twice ws ≡ false → position (bytes_eq w) ws ≡ Some i → value_for_word w (numbers_from k ws gs) ≡ cond (nat_lt i k) None (part_in number_part (slice_get gs i))
  number_there k i once e =
      let p = is_place number_part w ws i e in
      ap (value_for_word w) (numbers_are (drop k ws) (drop k gs))
      ∙ behind number_part w k ws gs once p.1
      ∙ ap (λ i. cond (nat_lt i k) None (part_in number_part (slice_get gs i))) p.0

  pub number_hidden : (k i : ℕ) → has_twice ws ≡ false → position (bytes_eq w) ws ≡ Some i → i < k → value_for_word w (numbers_from k ws gs) ≡ None
  number_hidden k i once e h = number_there k i once e ∙ ap (λ b. cond b None (part_in number_part (slice_get gs i))) (lt-ltb i k h)

  pub number_shown : (k i : ℕ) → has_twice ws ≡ false → position (bytes_eq w) ws ≡ Some i → k ≤ i → value_for_word w (numbers_from k ws gs) ≡ part_in number_part (slice_get gs i)
  number_shown k i once e h = number_there k i once e ∙ ap (λ b. cond b None (part_in number_part (slice_get gs i))) (le-ltb i k h)

  pub no_name : position (bytes_eq w) ws ≡ None → value_for_word w (nodes_of ws gs) ≡ None
  no_name e = ap (value_for_word w) (names_are ws gs) ∙ unmet name_part w ws gs (position-none (bytes_eq w) ws e)

  pub name_there : (i : ℕ) → has_twice ws ≡ false → position (bytes_eq w) ws ≡ Some i → value_for_word w (nodes_of ws gs) ≡ part_in name_part (slice_get gs i)
  name_there i once e =
      let p = is_place name_part w ws i e in
      ap (value_for_word w) (names_are ws gs)
      ∙ at_place name_part w ws gs once p.1
      ∙ ap (λ i. part_in name_part (slice_get gs i)) p.0

-- the numbers behind a value: it is the first where it is a number
abbrev first_left : Bool → List (List ℕ × ℕ) → List (List ℕ × ℕ)
first_left true ns = drop 1 ns
first_left false ns = ns

numbers_behind : (i : ℕ) (ws : List (List ℕ)) (gs : List Given) (g : Given) → slice_get gs i ≡ Some g → numbers_from (suc i) ws gs ≡ first_left (is_some (number_part g)) (numbers_from i ws gs)
numbers_behind i [] gs g h = none i (drop (suc i) gs) (drop i gs) (is_some (number_part g)) where
  none : (i : ℕ) (xs ys : List Given) (b : Bool) → numbers_of (drop (suc i) []) xs ≡ first_left b (numbers_of (drop i []) ys)
  none zero xs ys true = refl
  none zero xs ys false = refl
  none (suc i) xs ys true = refl
  none (suc i) xs ys false = refl
numbers_behind i (w ∷ ws) [] g h = cc
numbers_behind zero (w ∷ ws) (number n ∷ gs) g h = let e : number n ≡ g = cc in ap (λ g. first_left (is_some (number_part g)) ((w, n) ∷ numbers_of ws gs)) e
numbers_behind zero (w ∷ ws) (named text ∷ gs) g h = let e : named text ≡ g = cc in ap (λ g. first_left (is_some (number_part g)) (numbers_of ws gs)) e
numbers_behind (suc i) (w ∷ ws) (x ∷ gs) g h = numbers_behind i ws gs g h

numbers_end : (i : ℕ) (ws : List (List ℕ)) (gs : List Given) → length gs ≤ i → numbers_from i ws gs ≡ []
numbers_end i [] gs h = none i (drop i gs) where
  none : (i : ℕ) (xs : List Given) → numbers_of (drop i []) xs ≡ []
  none zero xs = refl
  none (suc i) xs = refl
numbers_end i (w ∷ ws) [] h = none i (w ∷ ws) where
  none : (i : ℕ) (ws : List (List ℕ)) → numbers_of (drop i ws) (drop i []) ≡ []
  none zero [] = refl
  none zero (w ∷ ws) = refl
  none (suc i) [] = refl
  none (suc i) (w ∷ ws) = drop_none i ws where
    drop_none : (i : ℕ) (ws : List (List ℕ)) → numbers_of (drop i ws) [] ≡ []
    drop_none zero [] = refl
    drop_none zero (w ∷ ws) = refl
    drop_none (suc i) [] = refl
    drop_none (suc i) (w ∷ ws) = drop_none i ws
numbers_end zero (w ∷ ws) (g ∷ gs) h = absurd (omega arith)
numbers_end (suc i) (w ∷ ws) (g ∷ gs) h = numbers_end i ws gs (omega arith)

-- a value and what follows it, or the end
module _ (vs : List CodeGiven) (i : ℕ) (ws : List (List ℕ)) where
  at : (v : CodeGiven) → i < length vs → v ≡ get_or vs i v → slice_get (map given_view vs) i ≡ Some (given_view v)
  at v h e = slice_get-map given_view vs i ∙ ap (option_map given_view) (sym (slice_get-at vs i v h e))

  next : (v : CodeGiven) (b : Bool) → i < length vs → v ≡ get_or vs i v → is_some (number_part (given_view v)) ≡ b → numbers_from (i + 1) ws (map given_view vs) ≡ first_left b (numbers_from i ws (map given_view vs))
  next v b h e is =
      ap (λ n. numbers_from n ws (map given_view vs)) (add-one i)
      ∙ numbers_behind i ws (map given_view vs) (given_view v) (at v h e)
      ∙ ap (λ b. first_left b (numbers_from i ws (map given_view vs))) is

  pub number_gone : (v : CodeGiven) → i < length vs → v ≡ get_or vs i v → is_some (number_part (given_view v)) ≡ true → numbers_from (i + 1) ws (map given_view vs) ≡ drop 1 (numbers_from i ws (map given_view vs))
  number_gone v h e is = next v true h e is

  pub name_passed : (v : CodeGiven) → i < length vs → v ≡ get_or vs i v → is_some (number_part (given_view v)) ≡ false → numbers_from (i + 1) ws (map given_view vs) ≡ numbers_from i ws (map given_view vs)
  name_passed v h e is = next v false h e is

  pub none_left : length vs ≤ i → numbers_from i ws (map given_view vs) ≡ []
  none_left h = numbers_end i ws (map given_view vs) (let same = length-map vs given_view in omega arith)
