-- The slots of a unit that are not free, in order, and what they tell of a run of slots.
use Rattle.std.proofs.Common.{◌≡◌, ℕ, suc, ◌+◌, ◌-◌, ◌<◌, ◌≤◌, ◌⊎◌, inl, inr, Bool, true, false, ◌||◌, nat_eq, nat_lt, List, [], ◌∷◌, ◌++◌, length, get_or, slice_get, Some, refl, sym, ap, ◌∙◌, subst, arith, ltb-true, ltb-false}
use Rattle.std.specs.List.{list_any}
use Rattle.std.specs.List.Sorted.{IsPartitionPoint}
use Rattle.std.proofs.lemmas.Bool.{cases_lt, cases_order, eq-eqb, eqb-true, false≢true, or_cases, or_left, or_right}
use Rattle.std.proofs.lemmas.List.Elements.{All-append, All-cons, All-nil}
use Rattle.std.proofs.lemmas.List.Folds.{list_any-append}
use Rattle.std.proofs.lemmas.List.Sorted.{IsNonDecreasingBy-push, IsNonDecreasingBy-short}
use Rattle.std.proofs.lemmas.Option.{get_or_from_slice_get, slice_get_within, slice_get-get_or}
use Rattle.dn_placement.specs.Slots.{is_free_in}
use Rattle.dn_tables.specs.declared.table.NodeTable.{NodeTable}
use Rattle.dn_gather.specs.Stands.{AreFreeIn, AreUsed}

-- no slot is listed before the first
pub used_begun : (set : List NodeTable) (unit : ℕ) → AreUsed set unit 0 []
used_begun set unit = record { order = IsNonDecreasingBy-short (λ slot. slot) [] (omega arith); each = All-nil (λ slot. is_free_in set unit slot ≡ false); below = All-nil (λ slot. slot < 0); all = λ slot l e. absurd (omega arith) }

-- a slot that is free
pub used_free : (set : List NodeTable) (unit slot : ℕ) (used : List ℕ) → is_free_in set unit slot ≡ true → AreUsed set unit slot used → AreUsed set unit (slot + 1) used
used_free set unit slot used free u = record { order = u.order; each = u.each; below = λ k d l. let b = u.below k d l in omega (arith, b); all = λ s l e. by s l e (cases_order s slot) }
  where
    by : (s : ℕ) → s < slot + 1 → is_free_in set unit s ≡ false → (s ≡ slot) ⊎ ((s < slot) ⊎ (slot < s)) → list_any (nat_eq s) used ≡ true
    by s l e (inl m) = absurd (false≢true (sym e ∙ ap (is_free_in set unit) m ∙ free))
    by s l e (inr (inl m)) = u.all s m e
    by s l e (inr (inr m)) = absurd (omega arith)

-- one that is not
pub used_taken : (set : List NodeTable) (unit slot : ℕ) (used : List ℕ) → is_free_in set unit slot ≡ false → AreUsed set unit slot used → AreUsed set unit (slot + 1) (used ++ slot ∷ [])
used_taken set unit slot used taken u = record {
  order = IsNonDecreasingBy-push (λ s. s) used slot u.order (λ d l. let b = u.below (length used - 1) d (omega arith) in omega (arith, b));
  each = All-append (λ s. is_free_in set unit s ≡ false) used (slot ∷ []) u.each (All-cons (λ s. is_free_in set unit s ≡ false) slot [] taken (All-nil (λ s. is_free_in set unit s ≡ false)));
  below = All-append (λ s. s < slot + 1) used (slot ∷ []) (λ k d l. let b = u.below k d l in omega (arith, b)) (All-cons (λ s. s < slot + 1) slot [] (omega arith) (All-nil (λ s. s < slot + 1)));
  all = λ s l e. list_any-append (nat_eq s) used (slot ∷ []) ∙ by s l e (cases_order s slot);
}
  where
    by : (s : ℕ) → s < slot + 1 → is_free_in set unit s ≡ false → (s ≡ slot) ⊎ ((s < slot) ⊎ (slot < s)) → (list_any (nat_eq s) used || list_any (nat_eq s) (slot ∷ [])) ≡ true
    by s l e (inl m) = or_right (list_any (nat_eq s) used) (list_any (nat_eq s) (slot ∷ [])) (or_left (nat_eq s slot) false (eq-eqb s slot m))
    by s l e (inr (inl m)) = or_left (list_any (nat_eq s) used) (list_any (nat_eq s) (slot ∷ [])) (u.all s m e)
    by s l e (inr (inr m)) = absurd (omega arith)

-- a number that is listed, at its place
number_at : (s : ℕ) (xs : List ℕ) → list_any (nat_eq s) xs ≡ true → (k : ℕ) × (k < length xs) × ((d : ℕ) → get_or xs k d ≡ s)
number_at s [] h = cc
number_at s (x ∷ xs) h = by (λ t. number_at s xs t) (or_cases (nat_eq s x) (list_any (nat_eq s) xs) h)
  where
    by : (list_any (nat_eq s) xs ≡ true → (k : ℕ) × (k < length xs) × ((d : ℕ) → get_or xs k d ≡ s)) → (nat_eq s x ≡ true) ⊎ (list_any (nat_eq s) xs ≡ true) → (k : ℕ) × (k < length (x ∷ xs)) × ((d : ℕ) → get_or (x ∷ xs) k d ≡ s)
    by rest (inl t) = (0, omega arith, λ d. sym (eqb-true s x t))
    by rest (inr t) = let r = rest t in let l = r.1 in (suc r.0, omega (arith, l), r.2)

-- those before the place of a slot are before it, and those from it on are not
abbrev pub Parts : ℕ → List ℕ → ℕ → Type 0
Parts first used place = IsPartitionPoint (λ (s : ℕ). nat_lt s first ≡ true) (λ (s : ℕ). nat_lt s first ≡ false) used place

-- a run of slots none of which is listed is free
pub run_free : (set : List NodeTable) (unit count first last place : ℕ) (used : List ℕ) → AreUsed set unit count used → last < count → Parts first used place → ((s : ℕ) → slice_get used place ≡ Some s → last < s) → AreFreeIn set unit first last
run_free set unit count first last place used u l parts past = λ slot a b. true_of (is_free_in set unit slot) (λ e. by slot a b (number_at slot used (u.all slot (omega arith) e)))
  where
    true_of : (b : Bool) → (b ≡ false → ⊥) → b ≡ true
    true_of true f = refl
    true_of false f = absurd (f refl)

    by : (slot : ℕ) → first ≤ slot → slot ≤ last → (k : ℕ) × (k < length used) × ((d : ℕ) → get_or used k d ≡ slot) → ⊥
    by slot a b r = at (cases_lt r.0 place)
      where
        at : (r.0 < place) ⊎ (place ≤ r.0) → ⊥
        at (inl m) = let e = r.2 0 in omega (arith, e, ltb-true (get_or used r.0 0) first (parts.0 r.0 0 (omega arith) m))
        at (inr m) =
            let n = r.1 in
            let there : place < length used = omega (arith, m, n) in
            let low : last < get_or used place 0 = past (get_or used place 0) (slice_get-get_or used place 0 there) in
            let up : get_or used place 0 ≤ get_or used r.0 0 = u.order place r.0 0 m n in
            let e = r.2 0 in
            omega (arith, low, up, e)

-- a run of slots with one that is listed is not
pub run_taken : (set : List NodeTable) (unit count first last place s : ℕ) (used : List ℕ) → AreUsed set unit count used → Parts first used place → slice_get used place ≡ Some s → s ≤ last → AreFreeIn set unit first last → ⊥
run_taken set unit count first last place s used u parts at l free =
    false≢true (sym (subst (λ (n : ℕ). is_free_in set unit n ≡ false) (item 0) (u.each place 0 there)) ∙ free s (subst (λ (n : ℕ). first ≤ n) (item 0) (ltb-false (get_or used place 0) first (parts.1 place 0 (omega arith) there))) l)
  where
    there : place < length used
    there = slice_get_within used place s at

    item : (d : ℕ) → get_or used place d ≡ s
    item d = get_or_from_slice_get used place s d at
