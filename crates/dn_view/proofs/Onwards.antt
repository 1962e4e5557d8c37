-- Segments of which some are left out: what the others give.
use Rattle.std.proofs.Common.{◌≡◌, ℕ, ◌⊎◌, inl, inr, Bool, true, false, ◌&&◌, ◌||◌, nat_eq, ◌+◌, ◌-◌, List, [], ◌∷◌, refl, sym, ap, ◌∙◌, eqb-true}
use Rattle.std.proofs.lemmas.Bool.{and_parts, or_cases, false≢true}
use Rattle.dn_base.proofs.Booleans.{or_left, or_right}
use Rattle.dn_interval.specs.declared.row.End.{End}
use Rattle.dn_interval.specs.declared.row.Seg.{Seg}
use Rattle.dn_interval.specs.Spans.{in_span}
use Rattle.dn_interval.specs.Strands.{seg_gives, segs_give}

-- of what segments give, what is kept and those that are left give no more, and at least the names in nodes that pass a test
pub record AreKept (p : ℕ → Bool) (segs kept left : List Seg) : Type 0 where
  pub given : (a : ℕ) (s : End) → (segs_give kept a s || segs_give left a s) ≡ true → segs_give segs a s ≡ true
  pub met : (a : ℕ) (s : End) → segs_give segs a s ≡ true → p s.node ≡ true → (segs_give kept a s || segs_give left a s) ≡ true

pub none_kept : (p : ℕ → Bool) (segs : List Seg) → AreKept p segs [] segs
none_kept p segs = record { given = λ a s e. e; met = λ a s e f. e }

node_of : (seg : Seg) (a : ℕ) (s : End) → seg_gives seg a s ≡ true → seg.node ≡ s.node
node_of seg a s e =
    let b = and_parts (in_span seg.span a) (nat_eq seg.node s.node && nat_eq (seg.base + (a - seg.span.lo)) s.base) e in
    eqb-true seg.node s.node (and_parts (nat_eq seg.node s.node) (nat_eq (seg.base + (a - seg.span.lo)) s.base) b.1).0

pub one_kept : (p : ℕ → Bool) (segs kept kept' left : List Seg) (seg : Seg) (is_kept : Bool) → ((a : ℕ) (s : End) → segs_give kept' a s ≡ (segs_give kept a s || (is_kept && seg_gives seg a s))) → (is_kept ≡ false → p seg.node ≡ false) → AreKept p segs kept (seg ∷ left) → AreKept p segs kept' left
one_kept p segs kept kept' left seg is_kept new out k = record { given = given; met = met }
  where
    given : (a : ℕ) (s : End) → (segs_give kept' a s || segs_give left a s) ≡ true → segs_give segs a s ≡ true
    given a s e = k.given a s (by (or_cases (segs_give kept' a s) (segs_give left a s) e))
      where
        it : (b : Bool) → (b && seg_gives seg a s) ≡ true → seg_gives seg a s ≡ true
        it b f = (and_parts b (seg_gives seg a s) f).1

        old : (segs_give kept a s ≡ true) ⊎ ((is_kept && seg_gives seg a s) ≡ true) → (segs_give kept a s || (seg_gives seg a s || segs_give left a s)) ≡ true
        old (inl f) = or_left (segs_give kept a s) (seg_gives seg a s || segs_give left a s) f
        old (inr f) = or_right (segs_give kept a s) (seg_gives seg a s || segs_give left a s) (or_left (seg_gives seg a s) (segs_give left a s) (it is_kept f))

        by : (segs_give kept' a s ≡ true) ⊎ (segs_give left a s ≡ true) → (segs_give kept a s || (seg_gives seg a s || segs_give left a s)) ≡ true
        by (inl f) = old (or_cases (segs_give kept a s) (is_kept && seg_gives seg a s) (sym (new a s) ∙ f))
        by (inr f) = or_right (segs_give kept a s) (seg_gives seg a s || segs_give left a s) (or_right (seg_gives seg a s) (segs_give left a s) f)

    met : (a : ℕ) (s : End) → segs_give segs a s ≡ true → p s.node ≡ true → (segs_give kept' a s || segs_give left a s) ≡ true
    met a s e f = by (or_cases (segs_give kept a s) (seg_gives seg a s || segs_give left a s) (k.met a s e f))
      where
        is_new : (segs_give kept a s || (is_kept && seg_gives seg a s)) ≡ true → (segs_give kept' a s || segs_give left a s) ≡ true
        is_new g = or_left (segs_give kept' a s) (segs_give left a s) (new a s ∙ g)

        own : (b : Bool) → is_kept ≡ b → seg_gives seg a s ≡ true → (is_kept && seg_gives seg a s) ≡ true
        own true g h = ap (λ b. b && seg_gives seg a s) g ∙ h
        own false g h = absurd (false≢true (sym (out g) ∙ ap p (node_of seg a s h) ∙ f))

        later : (seg_gives seg a s ≡ true) ⊎ (segs_give left a s ≡ true) → (segs_give kept' a s || segs_give left a s) ≡ true
        later (inl g) = is_new (or_right (segs_give kept a s) (is_kept && seg_gives seg a s) (own is_kept refl g))
        later (inr g) = or_right (segs_give kept' a s) (segs_give left a s) g

        by : (segs_give kept a s ≡ true) ⊎ ((seg_gives seg a s || segs_give left a s) ≡ true) → (segs_give kept' a s || segs_give left a s) ≡ true
        by (inl g) = is_new (or_left (segs_give kept a s) (is_kept && seg_gives seg a s) g)
        by (inr g) = later (or_cases (seg_gives seg a s) (segs_give left a s) g)

or_none : (b : Bool) → (b || false) ≡ true → b ≡ true
or_none true e = refl
or_none false e = e

pub all_given : (p : ℕ → Bool) (segs kept left : List Seg) → left ≡ [] → AreKept p segs kept left → (a : ℕ) (s : End) → segs_give kept a s ≡ true → segs_give segs a s ≡ true
all_given p segs kept left none k a s e = k.given a s (or_left (segs_give kept a s) (segs_give left a s) e)

pub all_met : (p : ℕ → Bool) (segs kept left : List Seg) → left ≡ [] → AreKept p segs kept left → (a : ℕ) (s : End) → segs_give segs a s ≡ true → p s.node ≡ true → segs_give kept a s ≡ true
all_met p segs kept left none k a s e f = or_none (segs_give kept a s) (ap (λ (l : List Seg). segs_give kept a s || segs_give l a s) (sym none) ∙ k.met a s e f)
