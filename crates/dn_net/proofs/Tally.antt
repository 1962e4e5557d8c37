-- How many addresses lie in accept blocks, counted in one pass.
use Rattle.std.proofs.Common.{◌≡◌, ℕ, zero, suc, ◌+◌, ◌-◌, ◌<◌, ◌≤◌, ◌⊎◌, inl, inr, Bool, true, false, if◌then◌else◌, ◌&&◌, not, nat_le, nat_lt, List, [], ◌∷◌, refl, sym, ap, ◌∙◌, arith, leb-true, ltb-true, IsTrue, All}
use Rattle.std.proofs.lemmas.Bool.{cases_lt, le-leb, leb-false, ltb-false}
use Rattle.std.specs.List.Sorted.{IsNonDecreasingBy}
use Rattle.dn_base.proofs.Booleans.{and_parts, and-false}
use Rattle.dn_net.specs.declared.spans.NodeBlock.{NodeBlock}
use Rattle.dn_net.specs.Decode.{within, top}
use Rattle.dn_net.specs.Rules.{count_below, block_in_range}
use Rattle.dn_net.specs.Spans.{accepts_in, is_accepted_in}
use Rattle.dn_net.proofs.Least.{within_from}
use Rattle.dn_net.proofs.Sweep.{Rising, rising, early, one_if, accepts_in-cons, within_early, within_late}

-- how many accepted addresses there are from an address on
abbrev pub tally : ℕ → List NodeBlock → ℕ
tally past [] = 0
tally past (s ∷ ss) = if not s.mapped && nat_le past s.block.hi then (s.block.hi + 1 - (if nat_lt past s.block.lo then s.block.lo else past)) + tally (s.block.hi + 1) ss else tally past ss

pub count_below-suc : (p : ℕ → Bool) (k : ℕ) → count_below p (suc k) ≡ count_below p k + one_if (p k)
unfolding count_below
count_below-suc p k = refl

pub count_below-zero : (p : ℕ → Bool) → count_below p 0 ≡ 0
unfolding count_below
count_below-zero p = refl

pub count_below-same : (p q : ℕ → Bool) → ((c : ℕ) → p c ≡ q c) → (n : ℕ) → count_below p n ≡ count_below q n
count_below-same p q e zero = count_below-zero p ∙ sym (count_below-zero q)
count_below-same p q e (suc n) = rw (count_below-suc p n, count_below-suc q n, e n, count_below-same p q e n) refl

-- a count is the sum of those of two parts
pub count_below-parts : (p q r : ℕ → Bool) → ((c : ℕ) → one_if (p c) ≡ one_if (q c) + one_if (r c)) → (n : ℕ) → count_below p n ≡ count_below q n + count_below r n
count_below-parts p q r e zero = omega (arith, count_below-zero p, count_below-zero q, count_below-zero r)
count_below-parts p q r e (suc n) = omega (arith, count_below-suc p n, count_below-suc q n, count_below-suc r n, e n, count_below-parts p q r e n)

-- how many numbers there are from one to another
abbrev pub in_block : ℕ → ℕ → ℕ → Bool
in_block first last c = nat_le first c && nat_le c last

in_block_cases : (first last c : ℕ) → ((first ≤ c) × (c ≤ last) × (one_if (in_block first last c) ≡ 1)) ⊎ (((c < first) ⊎ (last < c)) × (one_if (in_block first last c) ≡ 0))
in_block_cases first last c = by (nat_le first c) (nat_le c last) refl refl
  where
    by : (p q : Bool) → nat_le first c ≡ p → nat_le c last ≡ q → ((first ≤ c) × (c ≤ last) × (one_if (p && q) ≡ 1)) ⊎ (((c < first) ⊎ (last < c)) × (one_if (p && q) ≡ 0))
    by true true e f = inl (leb-true _ _ e, leb-true _ _ f, refl)
    by true false e f = inr (inr (leb-false _ _ f), refl)
    by false q e f = inr (inl (leb-false _ _ e), refl)

pub count_block : (first last n : ℕ) → (n ≤ last + 1 → count_below (in_block first last) n ≡ n - first) × (last + 1 ≤ n → count_below (in_block first last) n ≡ last + 1 - first)
count_block first last zero = (λ h. count_below-zero (in_block first last) ∙ omega arith, λ h. count_below-zero (in_block first last) ∙ omega arith)
count_block first last (suc n) = by (count_block first last n) (in_block_cases first last n) (count_below-suc (in_block first last) n)
  where
    by : (n ≤ last + 1 → count_below (in_block first last) n ≡ n - first) × (last + 1 ≤ n → count_below (in_block first last) n ≡ last + 1 - first) → ((first ≤ n) × (n ≤ last) × (one_if (in_block first last n) ≡ 1)) ⊎ (((n < first) ⊎ (last < n)) × (one_if (in_block first last n) ≡ 0)) → count_below (in_block first last) (suc n) ≡ count_below (in_block first last) n + one_if (in_block first last n) → (suc n ≤ last + 1 → count_below (in_block first last) (suc n) ≡ suc n - first) × (last + 1 ≤ suc n → count_below (in_block first last) (suc n) ≡ last + 1 - first)
    by ih (inl w) s = (λ h. let k = ih.0 (omega arith) in omega (arith, s, k, w.0, w.2), λ h. let f = w.1 in let k = ih.0 (omega arith) in omega (arith, s, k, w.0, w.2, f))
    by ih (inr (inl w, z)) s = (λ h. let k = ih.0 (omega arith) in omega (arith, s, k, z), λ h. elim (cases_lt n (last + 1)) [ inl lt ↦ (let k = ih.0 (omega arith) in omega (arith, s, k, z)) | inr le ↦ (let k = ih.1 le in omega (arith, s, k, z)) ])
    by ih (inr (inr w, z)) s = (λ h. absurd (omega arith), λ h. let k = ih.1 (omega arith) in omega (arith, s, k, z))

-- the accepted addresses from an address on
abbrev pub accepted_from : ℕ → List NodeBlock → ℕ → Bool
accepted_from past ss c = nat_le past c && is_accepted_in ss c

accepted_cases : (past : ℕ) (ss : List NodeBlock) (c : ℕ) → ((past ≤ c) × (0 < accepts_in ss c) × (accepted_from past ss c ≡ true)) ⊎ (((c < past) ⊎ (accepts_in ss c ≤ 0)) × (accepted_from past ss c ≡ false))
accepted_cases past ss c = by (nat_le past c) (nat_lt 0 (accepts_in ss c)) refl refl
  where
    by : (p q : Bool) → nat_le past c ≡ p → nat_lt 0 (accepts_in ss c) ≡ q → ((past ≤ c) × (0 < accepts_in ss c) × ((p && q) ≡ true)) ⊎ (((c < past) ⊎ (accepts_in ss c ≤ 0)) × ((p && q) ≡ false))
    by true true e f = inl (leb-true _ _ e, ltb-true _ _ f, refl)
    by true false e f = inr (inr (ltb-false _ _ f), refl)
    by false q e f = inr (inl (leb-false _ _ e), refl)

-- where the two tests of acceptance say the same
same_accepted : (past past' : ℕ) (ss ss' : List NodeBlock) (c : ℕ) → (past ≤ c → 0 < accepts_in ss c → (past' ≤ c) × (0 < accepts_in ss' c)) → (past' ≤ c → 0 < accepts_in ss' c → (past ≤ c) × (0 < accepts_in ss c)) → accepted_from past ss c ≡ accepted_from past' ss' c
same_accepted past past' ss ss' c on back = by (accepted_cases past ss c) (accepted_cases past' ss' c)
  where
    by : ((past ≤ c) × (0 < accepts_in ss c) × (accepted_from past ss c ≡ true)) ⊎ (((c < past) ⊎ (accepts_in ss c ≤ 0)) × (accepted_from past ss c ≡ false)) → ((past' ≤ c) × (0 < accepts_in ss' c) × (accepted_from past' ss' c ≡ true)) ⊎ (((c < past') ⊎ (accepts_in ss' c ≤ 0)) × (accepted_from past' ss' c ≡ false)) → accepted_from past ss c ≡ accepted_from past' ss' c
    by (inl u) (inl v) = u.2 ∙ sym v.2
    by (inr u) (inr v) = u.1 ∙ sym v.1
    by (inl u) (inr (inl w, z)) = let k = on u.0 u.1 in let f = k.0 in absurd (omega arith)
    by (inl u) (inr (inr w, z)) = let k = on u.0 u.1 in let f = k.1 in absurd (omega arith)
    by (inr (inl w, z)) (inl v) = let k = back v.0 v.1 in let f = k.0 in absurd (omega arith)
    by (inr (inr w, z)) (inl v) = let k = back v.0 v.1 in let f = k.1 in absurd (omega arith)

pub count_below-none : (p : ℕ → Bool) → ((c : ℕ) → p c ≡ false) → (n : ℕ) → count_below p n ≡ 0
count_below-none p e zero = count_below-zero p
count_below-none p e (suc n) = let k = ap one_if (e n) in omega (arith, count_below-suc p n, count_below-none p e n, k)

none_accepted : (past : ℕ) (c : ℕ) → accepted_from past [] c ≡ false
none_accepted past c = and-false (nat_le past c)

-- where a span is the first of rising ones, the accepted addresses are those of the span and those past it
module _ (past : ℕ) (s : NodeBlock) (ss : List NodeBlock) (r : Rising s.block.lo ss) (valid : s.block.lo ≤ s.block.hi) where
  unmapped : (c : ℕ) → s.mapped ≡ false → accepts_in (s ∷ ss) c ≡ one_if (within c s.block) + accepts_in ss c
  unmapped c is = accepts_in-cons s ss c ∙ rw is refl

  skipped : (c : ℕ) → s.mapped ≡ true → accepted_from past (s ∷ ss) c ≡ accepted_from past ss c
  skipped c is =
      let e : accepts_in (s ∷ ss) c ≡ 0 + accepts_in ss c = accepts_in-cons s ss c ∙ rw is refl in
      same_accepted past past (s ∷ ss) ss c (λ p q. (p, omega (arith, q, e))) (λ p q. (p, omega (arith, q, e)))

  covered : (c : ℕ) → s.mapped ≡ false → s.block.hi < past → accepted_from past (s ∷ ss) c ≡ accepted_from past ss c
  covered c is lt = same_accepted past past (s ∷ ss) ss c
      (λ p q. let e = unmapped c is in let w = ap one_if (within_late s.block c (omega arith)) in (p, omega (arith, q, e, w)))
      (λ p q. let e = unmapped c is in let w = ap one_if (within_late s.block c (omega arith)) in (p, omega (arith, q, e, w)))

  inside : (first c : ℕ) → past ≤ first → s.block.lo ≤ first → (first ≡ past) ⊎ (first ≡ s.block.lo) → s.block.lo ≤ c → c ≤ s.block.hi → 0 < accepts_in (s ∷ ss) c → one_if (accepted_from past (s ∷ ss) c) ≡ one_if (in_block first s.block.hi c) + one_if (accepted_from (s.block.hi + 1) ss c)
  inside first c p l one from to some = by (accepted_cases past (s ∷ ss) c) (in_block_cases first s.block.hi c) (accepted_cases (s.block.hi + 1) ss c) one
    where
      by : ((past ≤ c) × (0 < accepts_in (s ∷ ss) c) × (accepted_from past (s ∷ ss) c ≡ true)) ⊎ (((c < past) ⊎ (accepts_in (s ∷ ss) c ≤ 0)) × (accepted_from past (s ∷ ss) c ≡ false)) → ((first ≤ c) × (c ≤ s.block.hi) × (one_if (in_block first s.block.hi c) ≡ 1)) ⊎ (((c < first) ⊎ (s.block.hi < c)) × (one_if (in_block first s.block.hi c) ≡ 0)) → ((s.block.hi + 1 ≤ c) × (0 < accepts_in ss c) × (accepted_from (s.block.hi + 1) ss c ≡ true)) ⊎ (((c < s.block.hi + 1) ⊎ (accepts_in ss c ≤ 0)) × (accepted_from (s.block.hi + 1) ss c ≡ false)) → (first ≡ past) ⊎ (first ≡ s.block.lo) → one_if (accepted_from past (s ∷ ss) c) ≡ one_if (in_block first s.block.hi c) + one_if (accepted_from (s.block.hi + 1) ss c)
      by a b (inl v) o = let f = v.0 in absurd (omega arith)
      by (inl u) (inl b) (inr v) o = let k = ap one_if u.2 in let m = ap one_if v.1 in omega (arith, k, b.2, m)
      by (inr u) (inr b) (inr v) o = let k = ap one_if u.1 in let m = ap one_if v.1 in omega (arith, k, b.1, m)
      by (inl u) (inr (inl b, z)) (inr v) (inl o) = let f = u.0 in absurd (omega arith)
      by (inl u) (inr (inl b, z)) (inr v) (inr o) = let f = u.0 in absurd (omega arith)
      by (inl u) (inr (inr b, z)) (inr v) o = absurd (omega arith)
      by (inr (inl u, z)) (inl b) (inr v) o = let f = b.0 in absurd (omega arith)
      by (inr (inr u, z)) (inl b) (inr v) o = absurd (omega arith)

  past_it : (first c : ℕ) → past ≤ s.block.hi → s.block.hi < c → accepts_in (s ∷ ss) c ≡ accepts_in ss c → one_if (accepted_from past (s ∷ ss) c) ≡ one_if (in_block first s.block.hi c) + one_if (accepted_from (s.block.hi + 1) ss c)
  past_it first c p to same = by (in_block_cases first s.block.hi c)
    where
      by : ((first ≤ c) × (c ≤ s.block.hi) × (one_if (in_block first s.block.hi c) ≡ 1)) ⊎ (((c < first) ⊎ (s.block.hi < c)) × (one_if (in_block first s.block.hi c) ≡ 0)) → one_if (accepted_from past (s ∷ ss) c) ≡ one_if (in_block first s.block.hi c) + one_if (accepted_from (s.block.hi + 1) ss c)
      by (inl b) = let f = b.1 in absurd (omega arith)
      by (inr b) =
          let e = ap one_if (same_accepted past (s.block.hi + 1) (s ∷ ss) ss c (λ u v. (omega arith, omega (arith, v, same))) (λ u v. (omega arith, omega (arith, v, same)))) in
          omega (arith, e, b.1)

  before_it : (first c : ℕ) → s.block.lo ≤ first → c < s.block.lo → accepts_in (s ∷ ss) c ≡ 0 → accepts_in ss c ≡ 0 → one_if (accepted_from past (s ∷ ss) c) ≡ one_if (in_block first s.block.hi c) + one_if (accepted_from (s.block.hi + 1) ss c)
  before_it first c l lt none none' = by (in_block_cases first s.block.hi c) (accepted_cases past (s ∷ ss) c) (accepted_cases (s.block.hi + 1) ss c)
    where
      by : ((first ≤ c) × (c ≤ s.block.hi) × (one_if (in_block first s.block.hi c) ≡ 1)) ⊎ (((c < first) ⊎ (s.block.hi < c)) × (one_if (in_block first s.block.hi c) ≡ 0)) → ((past ≤ c) × (0 < accepts_in (s ∷ ss) c) × (accepted_from past (s ∷ ss) c ≡ true)) ⊎ (((c < past) ⊎ (accepts_in (s ∷ ss) c ≤ 0)) × (accepted_from past (s ∷ ss) c ≡ false)) → ((s.block.hi + 1 ≤ c) × (0 < accepts_in ss c) × (accepted_from (s.block.hi + 1) ss c ≡ true)) ⊎ (((c < s.block.hi + 1) ⊎ (accepts_in ss c ≤ 0)) × (accepted_from (s.block.hi + 1) ss c ≡ false)) → one_if (accepted_from past (s ∷ ss) c) ≡ one_if (in_block first s.block.hi c) + one_if (accepted_from (s.block.hi + 1) ss c)
      by (inl b) u v = let f = b.0 in absurd (omega arith)
      by (inr b) (inl u) v = let f = u.1 in absurd (omega (arith, f, none))
      by (inr b) (inr u) (inl v) = let f = v.1 in absurd (omega (arith, f, none'))
      by (inr b) (inr u) (inr v) = let k = ap one_if u.1 in let m = ap one_if v.1 in omega (arith, k, b.1, m)

  parts : (first c : ℕ) → s.mapped ≡ false → past ≤ s.block.hi → past ≤ first → s.block.lo ≤ first → (first ≡ past) ⊎ (first ≡ s.block.lo) → one_if (accepted_from past (s ∷ ss) c) ≡ one_if (in_block first s.block.hi c) + one_if (accepted_from (s.block.hi + 1) ss c)
  parts first c is p q l one = elim (cases_lt c s.block.lo) [
    | inl lt ↦ (let e = unmapped c is in let w = ap one_if (within_early s.block c lt) in let none = (early s.block.lo ss c r lt).1 in before_it first c l lt (omega (arith, e, w, none)) none)
    | inr from ↦ elim (cases_lt s.block.hi c) [
      | inl lt ↦ (let e = unmapped c is in let w = ap one_if (within_late s.block c lt) in past_it first c p lt (omega (arith, e, w)))
      | inr to ↦ (let e = unmapped c is in let w = ap one_if (within_from c s.block from to) in inside first c q l one from to (omega (arith, e, w)))
    ]
  ]

later_of : (past lo : ℕ) (k : Bool) → nat_lt past lo ≡ k → (past ≤ (if k then lo else past)) × (lo ≤ (if k then lo else past)) × (((if k then lo else past) ≡ past) ⊎ ((if k then lo else past) ≡ lo))
later_of past lo true e = let h = ltb-true _ _ e in (omega arith, omega arith, inr refl)
later_of past lo false e = let h = ltb-false _ _ e in (omega arith, omega arith, inl refl)

-- the tally counts the accepted addresses from an address on
pub tallied : (past l : ℕ) (ss : List NodeBlock) → Rising l ss → All (λ s. IsTrue (block_in_range s.block)) ss → tally past ss ≡ count_below (accepted_from past ss) (top + 1)
tallied past l [] r valid = sym (count_below-none (accepted_from past []) (none_accepted past) (top + 1))
tallied past l (s ∷ ss) r valid =
    let rest : All (λ s. IsTrue (block_in_range s.block)) ss = λ k d h. valid (suc k) d (omega arith) in
    by s.mapped (nat_le past s.block.hi) refl refl (tallied past s.block.lo ss r.2 rest) (tallied (s.block.hi + 1) s.block.lo ss r.2 rest)
  where
    by : (k t : Bool) → s.mapped ≡ k → nat_le past s.block.hi ≡ t → tally past ss ≡ count_below (accepted_from past ss) (top + 1) → tally (s.block.hi + 1) ss ≡ count_below (accepted_from (s.block.hi + 1) ss) (top + 1) → (if not k && t then (s.block.hi + 1 - (if nat_lt past s.block.lo then s.block.lo else past)) + tally (s.block.hi + 1) ss else tally past ss) ≡ count_below (accepted_from past (s ∷ ss)) (top + 1)
    by true t is e same next = same ∙ sym (count_below-same (accepted_from past (s ∷ ss)) (accepted_from past ss) (λ c. skipped past s ss r.2 r.1 c is) (top + 1))
    by false false is e same next = same ∙ sym (count_below-same (accepted_from past (s ∷ ss)) (accepted_from past ss) (λ c. covered past s ss r.2 r.1 c is (leb-false _ _ e)) (top + 1))
    by false true is e same next =
        let first : ℕ = if nat_lt past s.block.lo then s.block.lo else past in
        let f = later_of past s.block.lo (nat_lt past s.block.lo) refl in
        let sum = count_below-parts (accepted_from past (s ∷ ss)) (in_block first s.block.hi) (accepted_from (s.block.hi + 1) ss) (λ c. parts past s ss r.2 r.1 first c is (leb-true _ _ e) f.0 f.1 f.2) (top + 1) in
        let hi : s.block.hi ≤ top = leb-true _ _ (and_parts (nat_le s.block.lo s.block.hi) (nat_le s.block.hi top) (valid 0 s (omega arith))).1 in
        let block = (count_block first s.block.hi (top + 1)).1 (omega arith) in
        omega (arith, sum, block, next)

pub accepted_tally : (ss : List NodeBlock) → All (λ s. IsTrue (block_in_range s.block)) ss → IsNonDecreasingBy (λ s. s.block.lo) ss → tally 0 ss ≡ count_below (is_accepted_in ss) (top + 1)
accepted_tally ss valid up = tallied 0 0 ss (rising 0 ss valid up (λ d h. omega arith)) valid ∙ count_below-same (accepted_from 0 ss) (is_accepted_in ss) (λ c. rw (le-leb 0 c (omega arith)) refl) (top + 1)
