-- What the part of a segment gives tells which addresses it has, and where the first of them goes.
use Rattle.std.proofs.Common.{◌≡◌, ℕ, ◌+◌, ◌-◌, ◌≤◌, Bool, ◌&&◌, nat_eq, max, min, refl, sym, ap, ◌∙◌, subst, arith, eqb-true, eq-eqb}
use Rattle.std.proofs.lemmas.Bool.{and_parts, and_from}
use Rattle.dn_interval.specs.declared.row.End.{End}
use Rattle.dn_interval.specs.declared.row.Seg.{Seg}
use Rattle.dn_interval.specs.declared.span.Span.{Span}
use Rattle.dn_interval.specs.Spans.{in_span}
use Rattle.dn_interval.specs.Strands.{seg_gives}
use Rattle.dn_interval.proofs.Membership.{in_from, lo_of, hi_of}
use Rattle.dn_net.specs.Walks.{greater_of, lesser_of}
use Rattle.dn_walk.specs.Legs.{leg_view}
use Rattle.dn_walk.specs.Levels.{bare_onto}
use Rattle.dn_walk.specs.Rows.{BareWalk}
use Rattle.dn_walk.proofs.Meets.{max_is, min_is}

-- where an address of a segment comes
abbrev pub comes : Seg → ℕ → ℕ
comes s a = s.base + (a - s.span.lo)

-- an address of a segment whose name lies in a span goes on to the name, by that of the first address of the span
abbrev pub gives_on : Seg → Span → End → ℕ → End → Bool
gives_on s p e a z = in_span s.span a && (in_span p (comes s a) && (nat_eq e.node z.node && nat_eq (e.base + (comes s a - p.lo)) z.base))

-- the segment is that of these addresses, and the first of them goes to this address of a node
pub record IsFrom (t : Seg) (lo hi node base : ℕ) : Type 0 where
  pub lo_is : t.span.lo ≡ lo
  pub hi_is : t.span.hi ≡ hi
  pub node_is : t.node ≡ node
  pub base_is : t.base ≡ base

-- of a run from lo to hi that comes to `base`, cut where a span begins and ends: the first address and the last one
first_within : (lo hi base from : ℕ) → lo ≤ hi → from ≤ base + (hi - lo) → lo + (max base from - base) ≤ hi
first_within lo hi base from o l = omega arith

first_comes : (lo base from : ℕ) → base + ((lo + (max base from - base)) - lo) ≡ max base from
first_comes lo base from = omega arith

last_within : (lo hi base to : ℕ) → lo ≤ hi → lo + (min (base + (hi - lo)) to - base) ≤ hi
last_within lo hi base to o = omega arith

last_comes : (lo hi base to : ℕ) → base ≤ to → base + ((lo + (min (base + (hi - lo)) to - base)) - lo) ≡ min (base + (hi - lo)) to
last_comes lo hi base to l = omega arith

no_lower : (lo base from a : ℕ) → lo ≤ a → from ≤ base + (a - lo) → lo + (max base from - base) ≤ a
no_lower lo base from a l m = omega arith

no_higher : (lo hi base to a : ℕ) → lo ≤ a → a ≤ hi → base + (a - lo) ≤ to → a ≤ lo + (min (base + (hi - lo)) to - base)
no_higher lo hi base to a l h m = omega arith

module _ (s t : Seg) (p : Span) (e : End) (begins : p.lo ≤ s.base + (s.span.hi - s.span.lo)) (ends : s.base ≤ p.hi) (gives : (a : ℕ) (z : End) → seg_gives t a z ≡ gives_on s p e a z) where
  -- an address that goes on is one of the part
  there : (a : ℕ) → s.span.lo ≤ a → a ≤ s.span.hi → p.lo ≤ comes s a → comes s a ≤ p.hi → (t.span.lo ≤ a) × (a ≤ t.span.hi) × (t.node ≡ e.node) × (t.base + (a - t.span.lo) ≡ e.base + (comes s a - p.lo))
  there a l h m n =
      let z : End = record { node = e.node; base = e.base + (comes s a - p.lo) } in
      let named = and_from (nat_eq e.node z.node) (nat_eq (e.base + (comes s a - p.lo)) z.base) (eq-eqb e.node z.node refl) (eq-eqb (e.base + (comes s a - p.lo)) z.base refl) in
      let on = and_from (in_span p (comes s a)) (nat_eq e.node z.node && nat_eq (e.base + (comes s a - p.lo)) z.base) (in_from p (comes s a) m n) named in
      let whole = and_from (in_span s.span a) (in_span p (comes s a) && (nat_eq e.node z.node && nat_eq (e.base + (comes s a - p.lo)) z.base)) (in_from s.span a l h) on in
      let g = and_parts (in_span t.span a) (nat_eq t.node z.node && nat_eq (t.base + (a - t.span.lo)) z.base) (gives a z ∙ whole) in
      let k = and_parts (nat_eq t.node z.node) (nat_eq (t.base + (a - t.span.lo)) z.base) g.1 in
      (lo_of t.span a g.0, hi_of t.span a g.0, eqb-true t.node z.node k.0, eqb-true (t.base + (a - t.span.lo)) z.base k.1)

  -- an address of the part goes on
  back : (a : ℕ) → t.span.lo ≤ a → a ≤ t.span.hi → (s.span.lo ≤ a) × (a ≤ s.span.hi) × (p.lo ≤ comes s a) × (comes s a ≤ p.hi)
  back a l h =
      let z : End = record { node = t.node; base = t.base + (a - t.span.lo) } in
      let named = and_from (nat_eq t.node z.node) (nat_eq (t.base + (a - t.span.lo)) z.base) (eq-eqb t.node z.node refl) (eq-eqb (t.base + (a - t.span.lo)) z.base refl) in
      let whole = and_from (in_span t.span a) (nat_eq t.node z.node && nat_eq (t.base + (a - t.span.lo)) z.base) (in_from t.span a l h) named in
      let g = and_parts (in_span s.span a) (in_span p (comes s a) && (nat_eq e.node z.node && nat_eq (e.base + (comes s a - p.lo)) z.base)) (sym (gives a z) ∙ whole) in
      let k = and_parts (in_span p (comes s a)) (nat_eq e.node z.node && nat_eq (e.base + (comes s a - p.lo)) z.base) g.1 in
      (lo_of s.span a g.0, hi_of s.span a g.0, lo_of p (comes s a) k.0, hi_of p (comes s a) k.0)

  pub part_is : IsFrom t (s.span.lo + (max s.base p.lo - s.base)) (s.span.lo + (min (s.base + (s.span.hi - s.span.lo)) p.hi - s.base)) e.node (e.base + (max s.base p.lo - p.lo))
  part_is = record { lo_is = lo; hi_is = hi; node_is = f.2; base_is = base }
    where
      comes_lo : comes s (s.span.lo + (max s.base p.lo - s.base)) ≡ max s.base p.lo
      comes_lo = first_comes s.span.lo s.base p.lo

      comes_hi : comes s (s.span.lo + (min (s.base + (s.span.hi - s.span.lo)) p.hi - s.base)) ≡ min (s.base + (s.span.hi - s.span.lo)) p.hi
      comes_hi = last_comes s.span.lo s.span.hi s.base p.hi ends

      behind : (from to base : ℕ) → from ≤ to → base ≤ to → (from ≤ max base from) × (max base from ≤ to)
      behind from to base l m = (omega arith, omega arith)

      before : (from to last : ℕ) → from ≤ to → from ≤ last → (from ≤ min last to) × (min last to ≤ to)
      before from to last l m = (omega arith, omega arith)

      f : (t.span.lo ≤ s.span.lo + (max s.base p.lo - s.base)) × (s.span.lo + (max s.base p.lo - s.base) ≤ t.span.hi) × (t.node ≡ e.node) × (t.base + ((s.span.lo + (max s.base p.lo - s.base)) - t.span.lo) ≡ e.base + (comes s (s.span.lo + (max s.base p.lo - s.base)) - p.lo))
      f =
          let m = behind p.lo p.hi s.base p.ordered ends in
          there (s.span.lo + (max s.base p.lo - s.base)) (omega arith) (first_within s.span.lo s.span.hi s.base p.lo s.span.ordered begins) (subst (λ n. p.lo ≤ n) (sym comes_lo) m.0) (subst (λ n. n ≤ p.hi) (sym comes_lo) m.1)

      g : (t.span.lo ≤ s.span.lo + (min (s.base + (s.span.hi - s.span.lo)) p.hi - s.base)) × (s.span.lo + (min (s.base + (s.span.hi - s.span.lo)) p.hi - s.base) ≤ t.span.hi) × (t.node ≡ e.node) × (t.base + ((s.span.lo + (min (s.base + (s.span.hi - s.span.lo)) p.hi - s.base)) - t.span.lo) ≡ e.base + (comes s (s.span.lo + (min (s.base + (s.span.hi - s.span.lo)) p.hi - s.base)) - p.lo))
      g =
          let m = before p.lo p.hi (s.base + (s.span.hi - s.span.lo)) p.ordered begins in
          there (s.span.lo + (min (s.base + (s.span.hi - s.span.lo)) p.hi - s.base)) (omega arith) (last_within s.span.lo s.span.hi s.base p.hi s.span.ordered) (subst (λ n. p.lo ≤ n) (sym comes_hi) m.0) (subst (λ n. n ≤ p.hi) (sym comes_hi) m.1)

      same : (m n : ℕ) → m ≤ n → n ≤ m → m ≡ n
      same m n l h = omega arith

      no_less : (n : ℕ) → n ≤ n
      no_less n = omega arith

      lo : t.span.lo ≡ s.span.lo + (max s.base p.lo - s.base)
      lo =
          let b = back t.span.lo (no_less t.span.lo) t.span.ordered in
          same t.span.lo (s.span.lo + (max s.base p.lo - s.base)) f.0 (no_lower s.span.lo s.base p.lo t.span.lo b.0 b.2)

      hi : t.span.hi ≡ s.span.lo + (min (s.base + (s.span.hi - s.span.lo)) p.hi - s.base)
      hi =
          let c = back t.span.hi t.span.ordered (no_less t.span.hi) in
          same t.span.hi (s.span.lo + (min (s.base + (s.span.hi - s.span.lo)) p.hi - s.base)) (no_higher s.span.lo s.span.hi s.base p.hi t.span.hi c.0 c.1 c.3) g.1

      nothing_off : (b n m : ℕ) → n ≡ m → b + (m - n) ≡ b
      nothing_off b n m e = omega arith

      base : t.base ≡ e.base + (max s.base p.lo - p.lo)
      base = sym (nothing_off t.base t.span.lo (s.span.lo + (max s.base p.lo - s.base)) lo) ∙ f.3 ∙ ap (λ n. e.base + (n - p.lo)) comes_lo

-- so the part of a walk that goes on by a leg is the walk with one more leg
pub onto_is : (t : BareWalk) (s part leg : Seg) → s.span.lo ≡ t.lo → s.span.hi ≡ t.hi → s.base ≡ t.base → IsFrom part (s.span.lo + (max s.base leg.span.lo - s.base)) (s.span.lo + (min (s.base + (s.span.hi - s.span.lo)) leg.span.hi - s.base)) leg.node (leg.base + (max s.base leg.span.lo - leg.span.lo)) → ◌≡◌ {A = BareWalk} (record { start = t.start; lo = part.span.lo; hi = part.span.hi; end = part.node; base = part.base; len = t.len + 1 }) (bare_onto t (leg_view leg))
onto_is t s part leg l h b is = λ i. record { start = t.start; lo = lo i; hi = hi i; end = is.node_is i; base = base i; len = t.len + 1 }
  where
    lo : part.span.lo ≡ t.lo + (greater_of t.base leg.span.lo - t.base)
    lo = is.lo_is ∙ ap (λ n. n + (max s.base leg.span.lo - s.base)) l ∙ ap (λ n. t.lo + (max n leg.span.lo - n)) b ∙ ap (λ n. t.lo + (n - t.base)) (max_is t.base leg.span.lo)

    hi : part.span.hi ≡ t.lo + (lesser_of (t.base + (t.hi - t.lo)) leg.span.hi - t.base)
    hi =
        is.hi_is
        ∙ ap (λ n. n + (min (s.base + (s.span.hi - n)) leg.span.hi - s.base)) l
        ∙ ap (λ n. t.lo + (min (s.base + (n - t.lo)) leg.span.hi - s.base)) h
        ∙ ap (λ n. t.lo + (min (n + (t.hi - t.lo)) leg.span.hi - n)) b
        ∙ ap (λ n. t.lo + (n - t.base)) (min_is (t.base + (t.hi - t.lo)) leg.span.hi)

    base : part.base ≡ leg.base + (greater_of t.base leg.span.lo - leg.span.lo)
    base = is.base_is ∙ ap (λ n. leg.base + (max n leg.span.lo - leg.span.lo)) b ∙ ap (λ n. leg.base + (n - leg.span.lo)) (max_is t.base leg.span.lo)
