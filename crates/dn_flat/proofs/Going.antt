-- Segments and levels whose names go on: the names that they give, each followed by what its node gives.
use Rattle.std.proofs.Common.{◌≡◌, ℕ, ◌+◌, ◌-◌, inl, inr, Bool, true, false, ◌&&◌, ◌||◌, nat_eq, List, [], ◌∷◌, slice_get, Some, None, Result, Ok, Err, OnOk, sym, ap, ◌∙◌, eqb-true, eq-eqb, refl}
use Rattle.std.proofs.lemmas.Bool.{or_cases, and_parts, and_from, false≢true}
use Rattle.dn_base.proofs.Booleans.{same_tests, or_left, or_right, and-false}
use Rattle.dn_interval.specs.declared.row.End.{End}
use Rattle.dn_interval.specs.declared.row.Row.{Row}
use Rattle.dn_interval.specs.declared.row.Seg.{Seg}
use Rattle.dn_interval.specs.Spans.{in_span}
use Rattle.dn_interval.specs.Strands.{seg_gives, segs_give, rows_give}
use Rattle.dn_interval.specs.Onward.{rows_go, rows_of}
use Rattle.dn_interval.proofs.Goes.{rows_go_on}
use Rattle.dn_interval.proofs.Names.{rows_from, rows_to}
use Rattle.dn_flat.specs.declared.found.Continuation.{Continuation}
use Rattle.dn_flat.specs.declared.found.Continuation.TheVariants.{Accepts, Stops, Goes, Stays, Toward}
use Rattle.dn_flat.specs.declared.reach.Reach.{Reach}
use Rattle.dn_flat.specs.Firsts.{is_same}
use Rattle.dn_flat.specs.Levels.{levels_give}
use Rattle.dn_flat.specs.Onward.{has_rows, leads_by, levels_lead, reach_leads, seg_leads, segs_lead}

-- names go on by what is known of their node

pub leads_there : (part : Continuation) (nodes : List Reach) (node : ℕ) (reach : Reach) → slice_get nodes node ≡ Some reach → (a : ℕ) (z : End) → leads_by part nodes node a z ≡ reach_leads part reach node a z
leads_there Accepts nodes node reach at a z = ap (λ o. rows_give (rows_of (λ (r : Reach). r.done.accepts) o) a z) at
leads_there Stops nodes node reach at a z = ap (λ o. rows_give (rows_of (λ (r : Reach). r.done.stops) o) a z) at
leads_there Goes nodes node reach at a z = ap (λ o. rows_give (rows_of (λ (r : Reach). r.go) o) a z) at
leads_there Stays nodes node reach at a z = ap (λ o. has_rows (rows_of (λ (r : Reach). r.done.accepts) o) && is_same node a z) at
leads_there (Toward other rows) nodes node reach at a z = ap (λ o. nat_eq node other && rows_give (rows_of (λ (r : Reach). rows.now) o) a z) at

pub leads_none : (part : Continuation) (nodes : List Reach) (node : ℕ) → slice_get nodes node ≡ None → (a : ℕ) (z : End) → leads_by part nodes node a z ≡ false
leads_none Accepts nodes node at a z = ap (λ o. rows_give (rows_of (λ (r : Reach). r.done.accepts) o) a z) at
leads_none Stops nodes node at a z = ap (λ o. rows_give (rows_of (λ (r : Reach). r.done.stops) o) a z) at
leads_none Goes nodes node at a z = ap (λ o. rows_give (rows_of (λ (r : Reach). r.go) o) a z) at
leads_none Stays nodes node at a z = ap (λ o. has_rows (rows_of (λ (r : Reach). r.done.accepts) o) && is_same node a z) at
leads_none (Toward other rows) nodes node at a z = ap (λ o. nat_eq node other && rows_give (rows_of (λ (r : Reach). rows.now) o) a z) at ∙ and-false (nat_eq node other)

-- what was found, and what the names of a segment come to

pub push_there : (part : Continuation) (nodes : List Reach) (s : Seg) (reach : Reach) (old new : Bool) (a : ℕ) (z : End) → slice_get nodes s.node ≡ Some reach → new ≡ (old || seg_leads (reach_leads part reach) s a z) → new ≡ (old || seg_leads (leads_by part nodes) s a z)
push_there part nodes s reach old new a z at e = e ∙ ap (λ t. old || (in_span s.span a && t)) (sym (leads_there part nodes s.node reach at (s.base + (a - s.span.lo)) z))

or_and_false : (p q : Bool) → p ≡ (p || (q && false))
or_and_false true q = refl
or_and_false false q = sym (and-false q)

pub push_none : (part : Continuation) (nodes : List Reach) (s : Seg) (old : Bool) (a : ℕ) (z : End) → slice_get nodes s.node ≡ None → old ≡ (old || seg_leads (leads_by part nodes) s a z)
push_none part nodes s old a z at = or_and_false old (in_span s.span a) ∙ ap (λ t. old || (in_span s.span a && t)) (sym (leads_none part nodes s.node at (s.base + (a - s.span.lo)) z))

-- what was added behind the addresses of a segment, told in other words
pub adds_same : {A E : Type 0} (r : Result A E) (old new : List Seg) (s : Seg) (f g : ℕ → End → Bool) → ((b : ℕ) (z : End) → f b z ≡ g b z) → OnOk r ((a : ℕ) (z : End) → segs_give new a z ≡ (segs_give old a z || (in_span s.span a && f (s.base + (a - s.span.lo)) z))) → OnOk r ((a : ℕ) (z : End) → segs_give new a z ≡ (segs_give old a z || (in_span s.span a && g (s.base + (a - s.span.lo)) z)))
adds_same (Ok x) old new s f g e h = λ a z. h a z ∙ ap (λ t. segs_give old a z || (in_span s.span a && t)) (e (s.base + (a - s.span.lo)) z)
adds_same (Err x) old new s f g e h = tt

-- segments

named_on : (next : ℕ → ℕ → End → Bool) (m n b c : ℕ) (z : End) → m ≡ n → b ≡ c → next m b z ≡ next n c z
named_on next m n b c z e f = λ i. next (e i) (f i) z

module _ (next : ℕ → ℕ → End → Bool) (a : ℕ) (z : End) where
  named : (s : Seg) (y : End) → seg_gives s a y ≡ true → next s.node (s.base + (a - s.span.lo)) z ≡ next y.node y.base z
  named s y e =
      let p = and_parts (in_span s.span a) (nat_eq s.node y.node && nat_eq (s.base + (a - s.span.lo)) y.base) e in
      let q = and_parts (nat_eq s.node y.node) (nat_eq (s.base + (a - s.span.lo)) y.base) p.1 in
      named_on next s.node y.node (s.base + (a - s.span.lo)) y.base z (eqb-true s.node y.node q.0) (eqb-true (s.base + (a - s.span.lo)) y.base q.1)

  itself : (s : Seg) → in_span s.span a ≡ true → seg_gives s a (record { node = s.node; base = s.base + (a - s.span.lo) }) ≡ true
  itself s e =
      and_from (in_span s.span a) (nat_eq s.node s.node && nat_eq (s.base + (a - s.span.lo)) (s.base + (a - s.span.lo))) e
      (and_from (nat_eq s.node s.node) (nat_eq (s.base + (a - s.span.lo)) (s.base + (a - s.span.lo))) (eq-eqb s.node s.node refl) (eq-eqb (s.base + (a - s.span.lo)) (s.base + (a - s.span.lo)) refl))

  pub segs_to : (segs : List Seg) → segs_lead next segs a z ≡ true → (y : End) × (segs_give segs a y ≡ true) × (next y.node y.base z ≡ true)
  segs_to [] e = absurd (false≢true e)
  segs_to (s ∷ rest) e = elim (or_cases (seg_leads next s a z) (segs_lead next rest a z) e) [
    | inl g ↦ (
        let p = and_parts (in_span s.span a) (next s.node (s.base + (a - s.span.lo)) z) g in
        (record { node = s.node; base = s.base + (a - s.span.lo) }, or_left (seg_gives s a (record { node = s.node; base = s.base + (a - s.span.lo) })) (segs_give rest a (record { node = s.node; base = s.base + (a - s.span.lo) })) (itself s p.0), p.1)
        )
    | inr g ↦ (let r = segs_to rest g in (r.0, or_right (seg_gives s a r.0) (segs_give rest a r.0) r.1, r.2))
  ]

  pub segs_from : (segs : List Seg) (y : End) → segs_give segs a y ≡ true → next y.node y.base z ≡ true → segs_lead next segs a z ≡ true
  segs_from [] y e f = absurd (false≢true e)
  segs_from (s ∷ rest) y e f = elim (or_cases (seg_gives s a y) (segs_give rest a y) e) [
    | inl g ↦ or_left (seg_leads next s a z) (segs_lead next rest a z) (and_from (in_span s.span a) (next s.node (s.base + (a - s.span.lo)) z) (and_parts (in_span s.span a) (nat_eq s.node y.node && nat_eq (s.base + (a - s.span.lo)) y.base) g).0 (named s y g ∙ f))
    | inr g ↦ or_right (seg_leads next s a z) (segs_lead next rest a z) (segs_from rest y g f)
  ]

  -- segments of what rows give to an address go on to what the rows go on to
  pub onward_same : (segs : List Seg) (rows : List Row) (q : Bool) (b : ℕ) → ((y : End) → segs_give segs a y ≡ (q && rows_give rows b y)) → segs_lead next segs a z ≡ (q && rows_go next rows b z)
  onward_same segs rows q b same = same_tests (segs_lead next segs a z) (q && rows_go next rows b z)
      (λ e.
      let r = segs_to segs e in
      let p = and_parts q (rows_give rows b r.0) (sym (same r.0) ∙ r.1) in
      and_from q (rows_go next rows b z) p.0 ((rows_go_on next rows b z).1 (r.0, rows_to rows b r.0 p.1, r.2)))
      (λ e.
      let p = and_parts q (rows_go next rows b z) e in
      let r = (rows_go_on next rows b z).0 p.1 in
      segs_from segs r.0 (same r.0 ∙ and_from q (rows_give rows b r.0) p.0 (rows_from rows b r.0 r.1)) r.2)

  -- levels

  pub levels_to : (levels : List (List Row)) → levels_lead next levels a z ≡ true → (y : End) × (levels_give levels a y ≡ true) × (next y.node y.base z ≡ true)
  levels_to [] e = absurd (false≢true e)
  levels_to (rows ∷ rest) e = elim (or_cases (rows_go next rows a z) (levels_lead next rest a z) e) [
    | inl g ↦ (let r = (rows_go_on next rows a z).0 g in (r.0, or_left (rows_give rows a r.0) (levels_give rest a r.0) (rows_from rows a r.0 r.1), r.2))
    | inr g ↦ (let r = levels_to rest g in (r.0, or_right (rows_give rows a r.0) (levels_give rest a r.0) r.1, r.2))
  ]

  pub levels_from : (levels : List (List Row)) (y : End) → levels_give levels a y ≡ true → next y.node y.base z ≡ true → levels_lead next levels a z ≡ true
  levels_from [] y e f = absurd (false≢true e)
  levels_from (rows ∷ rest) y e f = elim (or_cases (rows_give rows a y) (levels_give rest a y) e) [
    | inl g ↦ or_left (rows_go next rows a z) (levels_lead next rest a z) ((rows_go_on next rows a z).1 (y, rows_to rows a y g, f))
    | inr g ↦ or_right (rows_go next rows a z) (levels_lead next rest a z) (levels_from rest y g f)
  ]
