-- The least of the last addresses of some strands, and of the one before others begin.
use Rattle.std.proofs.Common.{◌≡◌, ℕ, ◌+◌, ◌<◌, ◌≤◌, ◌⊎◌, inl, inr, Bool, true, false, ◌||◌, nat_eq, min, List, [], ◌∷◌, take, length, get_or, refl, sym, ap, ◌∙◌, subst, arith}
use Rattle.std.specs.List.{list_any}
use Rattle.std.proofs.lemmas.Bool.{eq-eqb, cases_lt}
use Rattle.std.proofs.lemmas.List.{get_or_default}
use Rattle.std.proofs.lemmas.List.Folds.{list_any_more, list_any_kept}
use Rattle.dn_base.proofs.Booleans.{or_left, or_right}
use Rattle.dn_base.proofs.Lists.{take_past}
use Rattle.dn_interval.specs.declared.strand.Strand.{Strand}
use Rattle.dn_interval.specs.declared.span.TheConstants.{TOP}

abbrev pub ends_at : ℕ → List Strand → Bool
ends_at hi xs = list_any (λ (s : Strand). nat_eq s.span.hi hi) xs

pub record Least (xs : List Strand) (i start hi : ℕ) : Type 0 where
  pub least : (k : ℕ) (d : Strand) → k < i → hi ≤ (get_or xs k d).span.hi
  pub reached : (hi ≡ start) ⊎ (ends_at hi (take i xs) ≡ true)

pub least_begun : (xs : List Strand) (start : ℕ) → Least xs 0 start start
least_begun xs start = record { least = λ k d l. absurd (omega arith); reached = inl refl }

pub least_more : (xs : List Strand) (i start hi n : ℕ) (s : Strand) → i < length xs → s ≡ get_or xs i s → n ≡ min hi s.span.hi → Least xs i start hi → Least xs (i + 1) start n
least_more xs i start hi n s l e m v = record { least = low; reached = elim (cases_lt s.span.hi hi) [ inl k ↦ inr (now k) | inr k ↦ was k ] }
  where
    at : (d : Strand) → s.span.hi ≡ (get_or xs i d).span.hi
    at d = ap (λ t. t.span.hi) (e ∙ get_or_default xs i s d l)

    low : (k : ℕ) (d : Strand) → k < i + 1 → n ≤ (get_or xs k d).span.hi
    low k d h = elim (cases_lt k i) [
      | inl j ↦ omega (arith, v.least k d j)
      | inr j ↦ let f : k ≡ i = omega arith in let g : n ≤ (get_or xs i d).span.hi = omega (arith, at d) in subst (λ t. n ≤ (get_or xs t d).span.hi) (sym f) g
    ]

    now : s.span.hi < hi → ends_at n (take (i + 1) xs) ≡ true
    now k = list_any_more (λ (t : Strand). nat_eq t.span.hi n) xs i s l ∙ or_right (ends_at n (take i xs)) (nat_eq (get_or xs i s).span.hi n) (eq-eqb (get_or xs i s).span.hi n (omega (arith, at s)))

    was : hi ≤ s.span.hi → (n ≡ start) ⊎ (ends_at n (take (i + 1) xs) ≡ true)
    was k = elim v.reached [
      | inl f ↦ inl (omega arith)
      | inr f ↦ let same : hi ≡ n = omega arith in inr (list_any_kept (λ (t : Strand). nat_eq t.span.hi n) xs i (subst (λ t. ends_at t (take i xs) ≡ true) same f))
    ]

pub least_all : (xs rest : List Strand) (i start hi : ℕ) → Least xs i start hi → length xs ≤ i → 0 < length xs → ((d : Strand) → 0 < length rest → (get_or rest 0 d).span.lo ≡ start + 1) → (length rest ≡ 0 → start ≡ TOP) → (ends_at hi xs || list_any (λ (s : Strand). nat_eq s.span.lo (hi + 1)) rest) ≡ true
least_all [] rest i start hi v l some begins none = absurd (omega arith)
least_all (x ∷ xs) rest i start hi v l some begins none = elim v.reached [
  | inl e ↦ go rest begins none e
  | inr e ↦ or_left (ends_at hi (x ∷ xs)) (list_any (λ (s : Strand). nat_eq s.span.lo (hi + 1)) rest) (subst (λ t. ends_at hi t ≡ true) (take_past (x ∷ xs) i l) e)
]
  where
    go : (rest : List Strand) → ((d : Strand) → 0 < length rest → (get_or rest 0 d).span.lo ≡ start + 1) → (length rest ≡ 0 → start ≡ TOP) → hi ≡ start → (ends_at hi (x ∷ xs) || list_any (λ (s : Strand). nat_eq s.span.lo (hi + 1)) rest) ≡ true
    go [] b n e =
        let top : start ≡ TOP = n refl in
        let low : hi ≤ x.span.hi = v.least 0 x (omega arith) in
        or_left (ends_at hi (x ∷ xs)) false (or_left (nat_eq x.span.hi hi) (ends_at hi xs) (eq-eqb x.span.hi hi (omega (arith, x.span.within))))
    go (t ∷ ts) b n e =
        let lo : t.span.lo ≡ start + 1 = b t (omega arith) in
        or_right (ends_at hi (x ∷ xs)) (list_any (λ (s : Strand). nat_eq s.span.lo (hi + 1)) (t ∷ ts)) (or_left (nat_eq t.span.lo (hi + 1)) (list_any (λ (s : Strand). nat_eq s.span.lo (hi + 1)) ts) (eq-eqb t.span.lo (hi + 1) (omega arith)))
