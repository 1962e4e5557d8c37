-- The nodes of the names that segments give.
use Rattle.std.proofs.Common.{◌≡◌, ℕ, suc, ◌+◌, ◌-◌, ◌<◌, ◌⊎◌, inl, inr, true, false, ◌&&◌, ◌||◌, nat_eq, List, [], ◌∷◌, ◌++◌, slice_get, Some, refl, ◌∙◌, subst, eqb-true, eq-eqb}
use Rattle.std.specs.List.{list_any}
use Rattle.std.proofs.lemmas.Bool.{and_parts, or_cases, or_left, or_right, false≢true}
use Rattle.std.proofs.lemmas.List.Folds.{list_any-append}
use Rattle.dn_interval.specs.declared.row.End.{End}
use Rattle.dn_interval.specs.declared.row.Seg.{Seg}
use Rattle.dn_interval.specs.Spans.{in_span}
use Rattle.dn_interval.specs.Strands.{seg_gives, segs_give}
use Rattle.dn_flat.specs.Levels.{is_among}

-- the node of each of so many segments is listed
abbrev pub AreAmong : List ℕ → ℕ → List Seg → Type 0
AreAmong nodes count segs = (k : ℕ) (s : Seg) → k < count → slice_get segs k ≡ Some s → is_among s.node nodes ≡ true

-- so the node of each name that they give is
pub given_among : (nodes : List ℕ) (segs : List Seg) (a : ℕ) (y : End) → ((k : ℕ) (s : Seg) → slice_get segs k ≡ Some s → is_among s.node nodes ≡ true) → segs_give segs a y ≡ true → is_among y.node nodes ≡ true
given_among nodes [] a y f e = absurd (false≢true e)
given_among nodes (s ∷ segs) a y f e = by (or_cases (seg_gives s a y) (segs_give segs a y) e) (λ g. given_among nodes segs a y (λ k t q. f (suc k) t q) g)
  where
    by : (seg_gives s a y ≡ true) ⊎ (segs_give segs a y ≡ true) → (segs_give segs a y ≡ true → is_among y.node nodes ≡ true) → is_among y.node nodes ≡ true
    by (inl g) later =
        let w = and_parts (in_span s.span a) (nat_eq s.node y.node && nat_eq (s.base + (a - s.span.lo)) y.base) g in
        let v = and_parts (nat_eq s.node y.node) (nat_eq (s.base + (a - s.span.lo)) y.base) w.1 in
        subst (λ n. is_among n nodes ≡ true) (eqb-true s.node y.node v.0) (f 0 s refl)
    by (inr g) later = later g

-- a node that is put last is listed, and so are those before it
pub last_among : (nodes : List ℕ) (node : ℕ) → is_among node (nodes ++ node ∷ []) ≡ true
last_among nodes node = list_any-append (λ m. nat_eq m node) nodes (node ∷ []) ∙ or_right (list_any (λ m. nat_eq m node) nodes) (nat_eq node node || false) (or_left (nat_eq node node) false (eq-eqb node node refl))

pub still_among : (nodes : List ℕ) (node n : ℕ) → is_among n nodes ≡ true → is_among n (nodes ++ node ∷ []) ≡ true
still_among nodes node n e = list_any-append (λ m. nat_eq m n) nodes (node ∷ []) ∙ or_left (list_any (λ m. nat_eq m n) nodes) (nat_eq node n || false) e
