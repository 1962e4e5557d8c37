-- Words of which one begins with `-` ask for nothing.
use Rattle.std.proofs.Common.{◌≡◌, ◌∙◌, ap, sym, refl, ℕ, ◌==◌, ◌&&◌, Bool, true, false, Option, None, List, [], ◌∷◌, eqb-true, inl, inr, cond, codes, option_map}
use Rattle.std.specs.List.{list_all}
use Rattle.std.specs.Fmt.{digits}
use Rattle.std.specs.Str.{bytes_eq}
use Rattle.dn_base.proofs.Booleans.{and_cases, not-false, true≢false}
use Rattle.dn_words.specs.declared.words.Task.{Task}
use Rattle.dn_words.specs.declared.words.Task.TheVariants.{Demo}
use Rattle.dn_words.specs.Words.{agents_of, is_plain_word, task_of, task_of_two, task_of_word}

-- what stands behind the `-`
dashed : (w : List ℕ) → is_plain_word w ≡ false → (xs : List ℕ) × (w ≡ 45 ∷ xs)
dashed [] e = cc
dashed (x ∷ xs) e =
    let dash : x ≡ 45 = eqb-true x 45 (not-false (x == 45) e) in
    (xs, ap (λ (y : ℕ). y ∷ xs) dash)

-- it spells no number
dash_spells_none : (xs : List ℕ) → agents_of (45 ∷ xs) ≡ None
unfolding agents_of digits
dash_spells_none xs = refl

-- a word alone, the first of two, and the second
one_asks_none : (w : List ℕ) → is_plain_word w ≡ false → task_of_word w ≡ None
one_asks_none w e = ap task_of_word (dashed w e).1

first_asks_none : (w n : List ℕ) → is_plain_word w ≡ false → task_of_two w n ≡ None
first_asks_none w n e = ap (λ (v : List ℕ). task_of_two v n) (dashed w e).1

second_asks_none : (w n : List ℕ) → is_plain_word n ≡ false → task_of_two w n ≡ None
second_asks_none w n e =
    let d = dashed n e in
    let none : agents_of n ≡ None = ap agents_of d.1 ∙ dash_spells_none d.0 in
    ap (λ (o : Option ℕ). cond (bytes_eq w (codes "demo")) (option_map (λ k. Demo k) o) None) none ∙ either (bytes_eq w (codes "demo"))
  where
    either : (b : Bool) → cond {A = Option Task} b None None ≡ None
    either true = refl
    either false = refl

pub dashed_asks_none : (ws : List (List ℕ)) → list_all is_plain_word ws ≡ false → None ≡ task_of ws
dashed_asks_none [] e = cc
dashed_asks_none (w ∷ []) e = elim (and_cases (is_plain_word w) true e) [
  | inl h ↦ sym (one_asks_none w h)
  | inr h ↦ absurd (true≢false h)
]
dashed_asks_none (w ∷ n ∷ []) e = elim (and_cases (is_plain_word w) (is_plain_word n && true) e) [
  | inl h ↦ sym (first_asks_none w n h)
  | inr h ↦ elim (and_cases (is_plain_word n) true h) [
    | inl k ↦ sym (second_asks_none w n k)
    | inr k ↦ absurd (true≢false k)
  ]
]
dashed_asks_none (w ∷ n ∷ x ∷ rest) e = refl
