-- Stretches of addresses that come to a row of names, and that come to no others.
use Rattle.std.proofs.Common.{◌≡◌, ℕ, zero, suc, ◌+◌, ◌-◌, ◌<◌, ◌≤◌, ◌⊎◌, ◌↔◌, inl, inr, Bool, true, false, ◌&&◌, ◌||◌, nat_eq, nat_le, List, [], ◌∷◌, ◌++◌, take, drop, length, get_or, refl, sym, ap, ◌∙◌, subst, arith, eqb-true, eq-eqb, leb-true, le-leb}
use Rattle.std.specs.List.{All, list_all, list_any}
use Rattle.std.proofs.lemmas.Bool.{or_cases, and_parts, and_from, false≢true}
use Rattle.std.proofs.lemmas.List.{take-append-drop, take_more}
use Rattle.std.proofs.lemmas.List.Folds.{list_any-append}
use Rattle.dn_base.proofs.Lists.{take_past}
use Rattle.dn_base.proofs.Members.{any_member, member_any, member_cases, member_left, member_right, member_of_all}
use Rattle.dn_base.proofs.Booleans.{false_from_ne_true, or_left, or_right, same_tests, or-false}
use Rattle.dn_interval.specs.declared.row.End.{End}
use Rattle.dn_interval.specs.declared.row.Row.{Row}
use Rattle.dn_interval.specs.declared.row.Seg.{Seg}
use Rattle.dn_interval.specs.declared.span.Span.{Span}
use Rattle.dn_interval.specs.declared.span.TheConstants.{TOP}
use Rattle.dn_interval.specs.declared.strand.Strand.{Strand}
use Rattle.dn_interval.specs.Rows.{Member, further_end}
use Rattle.dn_interval.specs.Spans.{in_span}
use Rattle.dn_interval.specs.Strands.{IsMaximal, is_slid, seg_gives, segs_give, strand_gives, strands_give}
use Rattle.dn_interval.proofs.Membership.{hi_of, in_from, lo_of}
use Rattle.dn_net.specs.declared.node.NodeDecl.{NodeDecl}
use Rattle.dn_flat.specs.declared.reach.Reach.{Reach}
use Rattle.dn_flat.specs.Levels.{NearFrom, ResolvesWhole, levels_show}
use Rattle.dn_flat.specs.Stretches.{GivesAll, IsAlone, IsStretch, are_led, begins, is_led, is_part}
use Rattle.dn_flat.specs.Views.{ResolvesFrom}
use Rattle.dn_flat.proofs.Lists.{any_more}

-- what a segment gives, as facts on numbers

record Given (s : Seg) (a : ℕ) (z : End) : Type 0 where
  pub lo : s.span.lo ≤ a
  pub hi : a ≤ s.span.hi
  pub node : s.node ≡ z.node
  pub base : s.base + (a - s.span.lo) ≡ z.base

given : (s : Seg) (a : ℕ) (z : End) → seg_gives s a z ≡ true → Given s a z
given s a z e =
    let p = and_parts (in_span s.span a) (nat_eq s.node z.node && nat_eq (s.base + (a - s.span.lo)) z.base) e in
    let q = and_parts (nat_eq s.node z.node) (nat_eq (s.base + (a - s.span.lo)) z.base) p.1 in
    record { lo = lo_of s.span a p.0; hi = hi_of s.span a p.0; node = eqb-true s.node z.node q.0; base = eqb-true (s.base + (a - s.span.lo)) z.base q.1 }

gives : (s : Seg) (a : ℕ) (z : End) → Given s a z → seg_gives s a z ≡ true
gives s a z g = and_from (in_span s.span a) (nat_eq s.node z.node && nat_eq (s.base + (a - s.span.lo)) z.base) (in_from s.span a g.lo g.hi) (and_from (nat_eq s.node z.node) (nat_eq (s.base + (a - s.span.lo)) z.base) (eq-eqb s.node z.node g.node) (eq-eqb (s.base + (a - s.span.lo)) z.base g.base))

-- one that is a part of another gives no other names

record PartFacts (s t : Seg) : Type 0 where
  pub lo : t.span.lo ≤ s.span.lo
  pub hi : s.span.hi ≤ t.span.hi
  pub node : s.node ≡ t.node
  pub base : t.base ≤ s.base
  pub same : s.base - t.base ≡ s.span.lo - t.span.lo

part_is : (s t : Seg) → is_part s t ≡ true → PartFacts s t
part_is s t e =
    let p = and_parts (nat_le t.span.lo s.span.lo) (nat_le s.span.hi t.span.hi && (nat_eq s.node t.node && (nat_le t.base s.base && nat_eq (s.base - t.base) (s.span.lo - t.span.lo)))) e in
    let q = and_parts (nat_le s.span.hi t.span.hi) (nat_eq s.node t.node && (nat_le t.base s.base && nat_eq (s.base - t.base) (s.span.lo - t.span.lo))) p.1 in
    let r = and_parts (nat_eq s.node t.node) (nat_le t.base s.base && nat_eq (s.base - t.base) (s.span.lo - t.span.lo)) q.1 in
    let l = and_parts (nat_le t.base s.base) (nat_eq (s.base - t.base) (s.span.lo - t.span.lo)) r.1 in
    record { lo = leb-true t.span.lo s.span.lo p.0; hi = leb-true s.span.hi t.span.hi q.0; node = eqb-true s.node t.node r.0; base = leb-true t.base s.base l.0; same = eqb-true (s.base - t.base) (s.span.lo - t.span.lo) l.1 }

is_of : (s t : Seg) → PartFacts s t → is_part s t ≡ true
is_of s t p =
    and_from (nat_le t.span.lo s.span.lo) (nat_le s.span.hi t.span.hi && (nat_eq s.node t.node && (nat_le t.base s.base && nat_eq (s.base - t.base) (s.span.lo - t.span.lo)))) (le-leb t.span.lo s.span.lo p.lo)
    (and_from (nat_le s.span.hi t.span.hi) (nat_eq s.node t.node && (nat_le t.base s.base && nat_eq (s.base - t.base) (s.span.lo - t.span.lo))) (le-leb s.span.hi t.span.hi p.hi)
    (and_from (nat_eq s.node t.node) (nat_le t.base s.base && nat_eq (s.base - t.base) (s.span.lo - t.span.lo)) (eq-eqb s.node t.node p.node)
    (and_from (nat_le t.base s.base) (nat_eq (s.base - t.base) (s.span.lo - t.span.lo)) (le-leb t.base s.base p.base) (eq-eqb (s.base - t.base) (s.span.lo - t.span.lo) p.same))))

part_gives : (s t : Seg) → is_part s t ≡ true → GivesAll (λ a z. seg_gives s a z) t
part_gives s t e a z f =
    let p = part_is s t e in
    let g = given s a z f in
    let tl : t.span.lo ≤ s.span.lo = p.lo in
    let th : s.span.hi ≤ t.span.hi = p.hi in
    let tb : t.base ≤ s.base = p.base in
    let ts : s.base - t.base ≡ s.span.lo - t.span.lo = p.same in
    let l : s.span.lo ≤ a = g.lo in
    let h : a ≤ s.span.hi = g.hi in
    let b : s.base + (a - s.span.lo) ≡ z.base = g.base in
    gives t a z (record { lo = omega arith; hi = omega arith; node = sym p.node ∙ g.node; base = omega arith })

gives_part : (s t : Seg) → GivesAll (λ a z. seg_gives s a z) t → is_part s t ≡ true
gives_part s t k =
    let order : s.span.lo ≤ s.span.hi = s.span.ordered in
    let first : End = record { node = s.node; base = s.base + (s.span.lo - s.span.lo) } in
    let last : End = record { node = s.node; base = s.base + (s.span.hi - s.span.lo) } in
    let f = given t s.span.lo first (k s.span.lo first (gives s s.span.lo first (record { lo = omega arith; hi = order; node = refl; base = refl }))) in
    let l = given t s.span.hi last (k s.span.hi last (gives s s.span.hi last (record { lo = order; hi = omega arith; node = refl; base = refl }))) in
    let lo : t.span.lo ≤ s.span.lo = f.lo in
    let hi : s.span.hi ≤ t.span.hi = l.hi in
    let base : t.base + (s.span.lo - t.span.lo) ≡ s.base + (s.span.lo - s.span.lo) = f.base in
    is_of s t (record { lo = lo; hi = hi; node = sym f.node; base = omega arith; same = omega arith })

-- so it is of segments
pub parts_mean : (segs : List Seg) (t : Seg) → (list_all (λ s. is_part s t) segs ≡ true) ↔ GivesAll (λ a z. segs_give segs a z) t
parts_mean [] t = ((λ e a z f. absurd (false≢true f)), (λ k. refl))
parts_mean (s ∷ rest) t =
    let later = parts_mean rest t in (
      (λ e a z f.
          let p = and_parts (is_part s t) (list_all (λ r. is_part r t) rest) e in
          elim (or_cases (seg_gives s a z) (segs_give rest a z) f) [ inl g ↦ part_gives s t p.0 a z g | inr g ↦ later.0 p.1 a z g ]),
      (λ k. and_from (is_part s t) (list_all (λ r. is_part r t) rest)
          (gives_part s t (λ a z g. k a z (or_left (seg_gives s a z) (segs_give rest a z) g)))
          (later.1 (λ a z g. k a z (or_right (seg_gives s a z) (segs_give rest a z) g)))),
    )

-- a segment gives all that the items of a list give, item by item

any_taken : {X : Type 0} (p : X → Bool) (xs : List X) (i : ℕ) → list_any p (take i xs) ≡ true → list_any p xs ≡ true
any_taken p xs i e = ap (list_any p) (sym (take-append-drop i xs)) ∙ (list_any-append p (take i xs) (drop i xs) ∙ or_left (list_any p (take i xs)) (list_any p (drop i xs)) e)

module _ {X : Type 0} (q : ℕ → Bool) (f : X → ℕ → End → Bool) (xs : List X) (s : Seg) where
  pub none_given : GivesAll (λ a z. q a && list_any (λ x. f x a z) []) s
  none_given a z e = absurd (false≢true (and_parts (q a) false e).1)

  pub more_given : (i : ℕ) (x : X) → i < length xs → x ≡ get_or xs i x → GivesAll (λ a z. q a && list_any (λ y. f y a z) (take i xs)) s → GivesAll (λ a z. q a && f x a z) s → GivesAll (λ a z. q a && list_any (λ y. f y a z) (take (i + 1) xs)) s
  more_given i x l is was now a z e =
      let p = and_parts (q a) (list_any (λ y. f y a z) (take (i + 1) xs)) e in
      elim (or_cases (list_any (λ y. f y a z) (take i xs)) (f x a z) (sym (any_more (λ y. f y a z) xs i x l is) ∙ p.1)) [
        | inl g ↦ was a z (and_from (q a) (list_any (λ y. f y a z) (take i xs)) p.0 g)
        | inr g ↦ now a z (and_from (q a) (f x a z) p.0 g)
      ]

  pub not_given : (i : ℕ) (x : X) → i < length xs → x ≡ get_or xs i x → (b : Bool) → b ≡ false → ((b ≡ true) ↔ GivesAll (λ a z. q a && f x a z) s) → (false ≡ true) ↔ GivesAll (λ a z. q a && list_any (λ y. f y a z) xs) s
  not_given i x l is b e now = (
    (λ g. absurd (false≢true g)),
    (λ k. absurd (false≢true (sym e ∙ now.1 (λ a z g.
        let p = and_parts (q a) (f x a z) g in
        let some : list_any (λ y. f y a z) (take (i + 1) xs) ≡ true = any_more (λ y. f y a z) xs i x l is ∙ or_right (list_any (λ y. f y a z) (take i xs)) (f x a z) p.1 in
        k a z (and_from (q a) (list_any (λ y. f y a z) xs) p.0 (any_taken (λ y. f y a z) xs (i + 1) some)))))),
  )

  pub all_given : (i : ℕ) → length xs ≤ i → GivesAll (λ a z. q a && list_any (λ y. f y a z) (take i xs)) s → (true ≡ true) ↔ GivesAll (λ a z. q a && list_any (λ y. f y a z) xs) s
  all_given i l so_far = ((λ e. subst (λ ys. GivesAll (λ a z. q a && list_any (λ y. f y a z) ys) s) (take_past xs i l) so_far), (λ k. refl))

pub gives_same : (f g : ℕ → End → Bool) (s : Seg) → ((a : ℕ) (z : End) → f a z ≡ g a z) → GivesAll f s ↔ GivesAll g s
gives_same f g s same = ((λ k a z e. k a z (same a z ∙ e)), (λ k a z e. k a z (sym (same a z) ∙ e)))

-- what is given to the addresses of a span, each as itself
pub still_gives : (next : ℕ → End → Bool) (s : Seg) (span : Span) (a : ℕ) (z : End) → s.span ≡ span → s.base ≡ span.lo → (in_span s.span a && next (s.base + (a - s.span.lo)) z) ≡ (in_span span a && next a z)
still_gives next s span a z same base = ap (λ (t : Span). in_span t a && next (s.base + (a - t.lo)) z) same ∙ by (in_span span a) refl
  where
    by : (b : Bool) → in_span span a ≡ b → (b && next (s.base + (a - span.lo)) z) ≡ (b && next a z)
    by false e = refl
    by true e =
        let l : span.lo ≤ a = lo_of span a e in
        let f : s.base ≡ span.lo = base in
        let n : s.base + (a - span.lo) ≡ a = omega arith in
        ap (λ m. next m z) n

-- segments that are kept where a test says so

pub kept : (xs : List Seg) (x : Seg) (t : Bool) → t ≡ true → (s : Seg) → Member s (xs ++ x ∷ []) ↔ (Member s xs ⊎ ((x ≡ s) × (t ≡ true)))
kept xs x t is s = (
  (λ m. elim (member_cases xs (x ∷ []) s m) [ inl h ↦ inl h | inr h ↦ elim h [ inl e ↦ inr (e, is) | inr e ↦ absurd e ] ]),
  (λ h. elim h [ inl m ↦ member_left xs (x ∷ []) s m | inr e ↦ member_right xs (x ∷ []) s (inl e.0) ]),
)

pub not_kept : (xs : List Seg) (x : Seg) (t : Bool) → t ≡ false → (s : Seg) → Member s xs ↔ (Member s xs ⊎ ((x ≡ s) × (t ≡ true)))
not_kept xs x t is s = ((λ m. inl m), (λ h. elim h [ inl m ↦ m | inr e ↦ absurd (false≢true (sym is ∙ e.1)) ]))

pub none_kept : (P : Seg → Type 0) (xs : List Seg) → xs ≡ [] → (s : Seg) → Member s xs ↔ (Member s [] × P s)
none_kept P xs none s = ((λ m. absurd (subst (Member s) none m)), (λ h. absurd h.0))

pub more_kept : (P : Seg → Type 0) (segs : List Seg) (i : ℕ) (x : Seg) → i < length segs → x ≡ get_or segs i x → (old new : List Seg) (t : Bool) → ((t ≡ true) ↔ P x) → ((s : Seg) → Member s old ↔ (Member s (take i segs) × P s)) → ((s : Seg) → Member s new ↔ (Member s old ⊎ ((x ≡ s) × (t ≡ true)))) → (s : Seg) → Member s new ↔ (Member s (take (i + 1) segs) × P s)
more_kept P segs i x l is old new t means was now s =
    subst (λ (ys : List Seg). Member s new ↔ (Member s ys × P s)) (sym (take_more segs i x l ∙ ap (λ y. take i segs ++ y ∷ []) (sym is))) (
      (λ m. elim ((now s).0 m) [
        | inl o ↦ (let h = (was s).0 o in (member_left (take i segs) (x ∷ []) s h.0, h.1))
        | inr e ↦ (member_right (take i segs) (x ∷ []) s (inl e.0), subst P e.0 (means.0 e.1))
      ]),
      (λ h. (now s).1 (elim (member_cases (take i segs) (x ∷ []) s h.0) [
        | inl m ↦ inl ((was s).1 (m, h.1))
        | inr m ↦ elim m [ inl e ↦ inr (e, means.1 (subst P (sym e) h.1)) | inr e ↦ absurd e ]
      ])),
    )

-- strands that lead to a row of names

record Leads (first : End) (size v : ℕ) (s : Strand) : Type 0 where
  pub node : s.node ≡ first.node
  pub slide : s.slide + v ≡ first.base + TOP
  pub lo : s.span.lo ≤ v
  pub hi : v + size ≤ s.span.hi + 1

module _ (first : End) (size : ℕ) where
  led_is : (s : Strand) (v : ℕ) → is_led first size s v ≡ true → Leads first size v s
  led_is s v e =
      let p = and_parts (nat_eq s.node first.node) (nat_eq (s.slide + v) (first.base + TOP) && (nat_le s.span.lo v && nat_le (v + size) (s.span.hi + 1))) e in
      let q = and_parts (nat_eq (s.slide + v) (first.base + TOP)) (nat_le s.span.lo v && nat_le (v + size) (s.span.hi + 1)) p.1 in
      let r = and_parts (nat_le s.span.lo v) (nat_le (v + size) (s.span.hi + 1)) q.1 in
      record { node = eqb-true s.node first.node p.0; slide = eqb-true (s.slide + v) (first.base + TOP) q.0; lo = leb-true s.span.lo v r.0; hi = leb-true (v + size) (s.span.hi + 1) r.1 }

  pub is_led_by : (s : Strand) (v : ℕ) → s.node ≡ first.node → s.slide + v ≡ first.base + TOP → s.span.lo ≤ v → v + size ≤ s.span.hi + 1 → is_led first size s v ≡ true
  is_led_by s v node slide lo hi =
      and_from (nat_eq s.node first.node) (nat_eq (s.slide + v) (first.base + TOP) && (nat_le s.span.lo v && nat_le (v + size) (s.span.hi + 1))) (eq-eqb s.node first.node node)
      (and_from (nat_eq (s.slide + v) (first.base + TOP)) (nat_le s.span.lo v && nat_le (v + size) (s.span.hi + 1)) (eq-eqb (s.slide + v) (first.base + TOP) slide)
      (and_from (nat_le s.span.lo v) (nat_le (v + size) (s.span.hi + 1)) (le-leb s.span.lo v lo) (le-leb (v + size) (s.span.hi + 1) hi)))

  slid_at : (s : Strand) (v j : ℕ) → s.node ≡ first.node → s.slide + v ≡ first.base + TOP → is_slid s.node s.slide (v + j) (further_end j first) ≡ true
  slid_at s v j node slide =
      let same : s.slide + (v + j) ≡ (first.base + j) + TOP = omega arith in
      and_from (nat_eq s.node first.node) (nat_eq (s.slide + (v + j)) ((first.base + j) + TOP)) (eq-eqb s.node first.node node) (eq-eqb (s.slide + (v + j)) ((first.base + j) + TOP) same)

  -- one that leads to none, and one more that does

  pub off_node : (s : Strand) (v : ℕ) → (s.node ≡ first.node → ⊥) → is_led first size s v ≡ false
  off_node s v other = false_from_ne_true (is_led first size s v) (λ e. other (led_is s v e).node)

  pub off_low : (s : Strand) (v : ℕ) → first.base + TOP < s.slide + s.span.lo → is_led first size s v ≡ false
  off_low s v low = false_from_ne_true (is_led first size s v) (λ e. let f = led_is s v e in let at : s.slide + v ≡ first.base + TOP = f.slide in let lo : s.span.lo ≤ v = f.lo in absurd (omega arith))

  pub off_high : (s : Strand) (v lo : ℕ) → 1 ≤ size → s.slide + lo ≡ first.base + TOP → s.span.hi < lo + (size - 1) → is_led first size s v ≡ false
  off_high s v lo some at high = false_from_ne_true (is_led first size s v) (λ e. let f = led_is s v e in let slide : s.slide + v ≡ first.base + TOP = f.slide in let hi : v + size ≤ s.span.hi + 1 = f.hi in absurd (omega arith))

  pub not_more : (old led : Bool) → led ≡ false → old ≡ (old || led)
  not_more old led e = sym (ap (λ t. old || t) e ∙ or-false old)

  pub one_led : (s : Strand) (lo : ℕ) → s.node ≡ first.node → s.slide + lo ≡ first.base + TOP → s.span.lo ≤ lo → lo + size ≤ s.span.hi + 1 → (old : List Seg) (c : Seg) → c.span.lo ≡ lo → (v : ℕ) → begins (old ++ c ∷ []) v ≡ (begins old v || is_led first size s v)
  one_led s lo node slide from to old c at v =
      list_any-append (λ t. nat_eq t.span.lo v) old (c ∷ [])
      ∙ ap (λ t. begins old v || t) (or-false (nat_eq c.span.lo v) ∙ same_tests (nat_eq c.span.lo v) (is_led first size s v)
      (λ e. subst (λ n. is_led first size s n ≡ true) (sym at ∙ eqb-true c.span.lo v e) (is_led_by s lo node slide from to))
      (λ e.
      let f = led_is s v e in
      let there : s.slide + v ≡ first.base + TOP = f.slide in
      let place : c.span.lo ≡ lo = at in
      eq-eqb c.span.lo v (omega arith)))

  module _ (strands : List Strand) (v : ℕ) where
    led_by : are_led first size strands v ≡ true → (s : Strand) × Member s strands × Leads first size v s
    led_by e = let r = any_member (λ s. is_led first size s v) strands e in (r.0, r.1, led_is r.0 v r.2)

    led_within : are_led first size strands v ≡ true → v + size ≤ TOP + 1
    led_within e =
        let r = led_by e in
        let hi : v + size ≤ r.0.span.hi + 1 = r.2.hi in
        let top : r.0.span.hi ≤ TOP = r.0.span.within in
        omega arith

    led_gives : are_led first size strands v ≡ true → (j : ℕ) → j < size → strands_give strands (v + j) (further_end j first) ≡ true
    led_gives e j l =
        let r = led_by e in
        let lo : r.0.span.lo ≤ v = r.2.lo in
        let hi : v + size ≤ r.0.span.hi + 1 = r.2.hi in
        member_any (λ s. strand_gives s (v + j) (further_end j first)) strands r.0 r.1 (and_from (in_span r.0.span (v + j)) (is_slid r.0.node r.0.slide (v + j) (further_end j first)) (in_from r.0.span (v + j) (omega arith) (omega arith)) (slid_at r.0 v j r.2.node r.2.slide))

    module _ (maximal : All (IsMaximal (λ a y. strands_give strands a y)) strands) (all : (j : ℕ) → j < size → strands_give strands (v + j) (further_end j first) ≡ true) where
      cases_lt : (m n : ℕ) → m ≤ n → (m < n) ⊎ (m ≡ n)
      cases_lt m n l = grind arith

      runs_on : (s : Strand) → Member s strands → s.node ≡ first.node → s.slide + v ≡ first.base + TOP → v ≤ s.span.hi → (j : ℕ) → j < size → v + j ≤ s.span.hi
      runs_on s m node slide begun zero l = omega arith
      runs_on s m node slide begun (suc j) l =
          let before : v + j ≤ s.span.hi = runs_on s m node slide begun j (omega arith) in
          elim (cases_lt (v + j) s.span.hi before) [
            | inl k ↦ omega arith
            | inr k ↦ (
                let at : v + suc j ≡ s.span.hi + 1 = omega arith in
                let none : strands_give strands (v + suc j) (further_end (suc j) first) ≡ false = member_of_all (IsMaximal (λ a y. strands_give strands a y)) strands s maximal m (v + suc j) (further_end (suc j) first) (slid_at s v (suc j) node slide) (inl at) in
                absurd (false≢true (sym none ∙ all (suc j) l))
                )
          ]

      led_found : 1 ≤ size → are_led first size strands v ≡ true
      led_found some =
          let r = any_member (λ s. strand_gives s (v + 0) (further_end 0 first)) strands (all 0 (omega arith)) in
          let s : Strand = r.0 in
          let p = and_parts (in_span s.span (v + 0)) (is_slid s.node s.slide (v + 0) (further_end 0 first)) r.2 in
          let q = and_parts (nat_eq s.node first.node) (nat_eq (s.slide + (v + 0)) ((first.base + 0) + TOP)) p.1 in
          let node : s.node ≡ first.node = eqb-true s.node first.node q.0 in
          let at : s.slide + (v + 0) ≡ (first.base + 0) + TOP = eqb-true (s.slide + (v + 0)) ((first.base + 0) + TOP) q.1 in
          let slide : s.slide + v ≡ first.base + TOP = omega arith in
          let from : s.span.lo ≤ v + 0 = lo_of s.span (v + 0) p.0 in
          let to : v + 0 ≤ s.span.hi = hi_of s.span (v + 0) p.0 in
          let last : v + (size - 1) ≤ s.span.hi = runs_on s r.1 node slide (omega arith) (size - 1) (omega arith) in
          member_any (λ t. is_led first size t v) strands s r.1 (is_led_by s v node slide (omega arith) (omega arith))

-- the stretches that strands lead to the names, and that show no others, are those that resolve to them alone
module _ (net : List NodeDecl) (nodes : List Reach) (node : ℕ) (levels : List (List Row)) (first : End) (size : ℕ) (some : 1 ≤ size) (shown : (a : ℕ) (z : End) → a ≤ TOP → (levels_show nodes levels a z ≡ true) ↔ ResolvesFrom net node a z) (near : List Seg) (near_is : (a : ℕ) (z : End) → a ≤ TOP → (segs_give near a z ≡ true) ↔ NearFrom net node first size a z) (strands : List Strand) (same : (a : ℕ) (z : End) → strands_give strands a z ≡ segs_give near a z) (maximal : All (IsMaximal (λ a y. strands_give strands a y)) strands) (led : List Seg) (each : All (IsStretch first size) led) (begun : (v : ℕ) → begins led v ≡ are_led first size strands v) (alone : List Seg) (are_alone : (s : Seg) → Member s alone ↔ (Member s led × IsAlone nodes levels s)) (a : ℕ) (z : End) where
  module _ (s : Seg) (m : Member s alone) where
    whole : IsStretch first size s
    whole = member_of_all (IsStretch first size) led s each ((are_alone s).0 m).0

    at_lo : are_led first size strands s.span.lo ≡ true
    at_lo = sym (begun s.span.lo) ∙ member_any (λ t. nat_eq t.span.lo s.span.lo) led s ((are_alone s).0 m).0 (eq-eqb s.span.lo s.span.lo refl)

    place_to : (j : ℕ) (w : End) → j < size → ResolvesFrom net node (s.span.lo + j) w → further_end j first ≡ w
    place_to j w l r =
        let in_all : s.span.lo + size ≤ TOP + 1 = led_within first size strands s.span.lo at_lo in
        let long : s.span.hi + 1 ≡ s.span.lo + size = whole.long in
        let here : in_span s.span (s.span.lo + j) ≡ true = in_from s.span (s.span.lo + j) (omega arith) (omega arith) in
        let g = given s (s.span.lo + j) w (((are_alone s).0 m).1 (s.span.lo + j) w (and_from (in_span s.span (s.span.lo + j)) (levels_show nodes levels (s.span.lo + j) w) here ((shown (s.span.lo + j) w (omega arith)).1 r))) in
        let base : s.base ≡ first.base = whole.base in
        let at : s.base + ((s.span.lo + j) - s.span.lo) ≡ w.base = g.base in
        let to : first.base + j ≡ w.base = omega arith in
        λ i. record { node = (sym whole.node ∙ g.node) i; base = to i }

    place_from : (j : ℕ) (w : End) → j < size → further_end j first ≡ w → ResolvesFrom net node (s.span.lo + j) w
    place_from j w l e =
        let in_all : s.span.lo + size ≤ TOP + 1 = led_within first size strands s.span.lo at_lo in
        let given_near : segs_give near (s.span.lo + j) (further_end j first) ≡ true = sym (same (s.span.lo + j) (further_end j first)) ∙ led_gives first size strands s.span.lo at_lo j l in
        subst (λ (y : End). ResolvesFrom net node (s.span.lo + j) y) e ((near_is (s.span.lo + j) (further_end j first) (omega arith)).0 given_near).0

    whole_of : seg_gives s a z ≡ true → ResolvesWhole net node first size a z
    whole_of e =
        let g = given s a z e in
        let long : s.span.hi + 1 ≡ s.span.lo + size = whole.long in
        let lo : s.span.lo ≤ a = g.lo in
        let hi : a ≤ s.span.hi = g.hi in
        let base : s.base ≡ first.base = whole.base in
        let at : s.base + (a - s.span.lo) ≡ z.base = g.base in
        let to : z.base ≡ first.base + (a - s.span.lo) = omega arith in
        record {
          v = s.span.lo;
          i = a - s.span.lo;
          below = omega arith;
          within = led_within first size strands s.span.lo at_lo;
          from = omega arith;
          to = λ i. record { node = (sym g.node ∙ whole.node) i; base = to i };
          each = λ j w l. (place_to j w l, place_from j w l);
        }

  module _ (r : ResolvesWhole net node first size a z) where
    given_each : (j : ℕ) → j < size → strands_give strands (r.v + j) (further_end j first) ≡ true
    given_each j l =
        let in_all : r.v + size ≤ TOP + 1 = r.within in
        same (r.v + j) (further_end j first) ∙ (near_is (r.v + j) (further_end j first) (omega arith)).1 ((r.each j (further_end j first) l).1 refl, (j, l, refl))

    alone_at : (s : Seg) → IsStretch first size s → s.span.lo ≡ r.v → IsAlone nodes levels s
    alone_at s st lo b w e =
        let p = and_parts (in_span s.span b) (levels_show nodes levels b w) e in
        let from : s.span.lo ≤ b = lo_of s.span b p.0 in
        let to : b ≤ s.span.hi = hi_of s.span b p.0 in
        let top : s.span.hi ≤ TOP = s.span.within in
        let long : s.span.hi + 1 ≡ s.span.lo + size = st.long in
        let at : s.span.lo ≡ r.v = lo in
        let place : b ≡ r.v + (b - r.v) = omega arith in
        let named : further_end (b - r.v) first ≡ w = (r.each (b - r.v) w (omega arith)).0 (subst (λ n. ResolvesFrom net node n w) place ((shown b w (omega arith)).0 p.1)) in
        let base : s.base ≡ first.base = st.base in
        let same_base : first.base + (b - r.v) ≡ w.base = ap (λ (y : End). y.base) named in
        gives s b w (record { lo = from; hi = to; node = st.node ∙ ap (λ (y : End). y.node) named; base = omega arith })

    given_by : segs_give alone a z ≡ true
    given_by =
        let led_here : are_led first size strands r.v ≡ true = led_found first size strands r.v maximal given_each some in
        let found = any_member (λ t. nat_eq t.span.lo r.v) led (begun r.v ∙ led_here) in
        let s : Seg = found.0 in
        let lo : s.span.lo ≡ r.v = eqb-true s.span.lo r.v found.2 in
        let st : IsStretch first size s = member_of_all (IsStretch first size) led s each found.1 in
        let long : s.span.hi + 1 ≡ s.span.lo + size = st.long in
        let below : r.i < size = r.below in
        let at : a ≡ r.v + r.i = r.from in
        let base : s.base ≡ first.base = st.base in
        let to : z.base ≡ first.base + r.i = ap (λ (y : End). y.base) r.to in
        member_any (λ t. seg_gives t a z) alone s ((are_alone s).1 (found.1, alone_at s st lo)) (gives s a z (record { lo = omega arith; hi = omega arith; node = st.node ∙ sym (ap (λ (y : End). y.node) r.to); base = omega arith }))

  pub stretches_are : (segs_give alone a z ≡ true) ↔ ResolvesWhole net node first size a z
  stretches_are = ((λ e. let r = any_member (λ s. seg_gives s a z) alone e in whole_of r.0 r.1 r.2), given_by)
