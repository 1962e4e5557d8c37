-- Segments of which the second goes on with the first, as one.
use Rattle.std.proofs.Common.{◌≡◌, ℕ, ◌+◌, ◌-◌, ◌<◌, ◌≤◌, ◌⊎◌, inl, inr, Bool, true, false, ◌&&◌, ◌||◌, nat_le, refl, sym, ap, ◌∙◌, arith}
use Rattle.std.proofs.Math.Bool.{or-false}
use Rattle.std.proofs.lemmas.Bool.{cases_lt}
use Rattle.dn_interval.specs.declared.row.End.{End}
use Rattle.dn_interval.specs.declared.row.Seg.{Seg}
use Rattle.dn_interval.specs.Spans.{in_span}
use Rattle.dn_flat.specs.Onward.{seg_leads}

span_low : (lo hi h a : ℕ) → a ≤ hi → hi ≤ h → (nat_le lo a && nat_le a h) ≡ (nat_le lo a && nat_le a hi)
span_low lo hi h a l m = grind arith

out_low : (lo hi a : ℕ) → a < lo → (nat_le lo a && nat_le a hi) ≡ false
out_low lo hi a l = grind arith

span_high : (lo l h a : ℕ) → lo ≤ l → l ≤ a → (nat_le lo a && nat_le a h) ≡ (nat_le l a && nat_le a h)
span_high lo l h a m n = grind arith

out_high : (lo hi a : ℕ) → hi < a → (nat_le lo a && nat_le a hi) ≡ false
out_high lo hi a l = grind arith

-- the one segment, from this address to that, leads where the two lead
pub run_on : (one seg : Seg) (lo hi node base : ℕ) (next : ℕ → ℕ → End → Bool) → lo ≡ one.span.lo → hi ≡ seg.span.hi → node ≡ seg.node → base ≡ one.base → one.node ≡ seg.node → one.span.hi + 1 ≡ seg.span.lo → one.base + (one.span.hi - one.span.lo) + 1 ≡ seg.base → (a : ℕ) (z : End) → ((nat_le lo a && nat_le a hi) && next node (base + (a - lo)) z) ≡ (seg_leads next one a z || seg_leads next seg a z)
run_on one seg lo hi node base next lo_is hi_is node_is base_is same meet on a z = by (cases_lt a seg.span.lo)
  where
    from : one.span.lo ≤ one.span.hi
    from = one.span.ordered

    to : seg.span.lo ≤ seg.span.hi
    to = seg.span.ordered

    first : Bool
    first = next one.node (one.base + (a - one.span.lo)) z

    second : Bool
    second = next seg.node (seg.base + (a - seg.span.lo)) z

    leads_first : next node (base + (a - lo)) z ≡ first
    leads_first = ap (λ n. next n (base + (a - lo)) z) (node_is ∙ sym same) ∙ ap (λ n. next one.node n z) (let e : base + (a - lo) ≡ one.base + (a - one.span.lo) = omega (arith, lo_is, base_is) in e)

    leads_second : seg.span.lo ≤ a → next node (base + (a - lo)) z ≡ second
    leads_second l = ap (λ n. next n (base + (a - lo)) z) node_is ∙ ap (λ n. next seg.node n z) (let e : base + (a - lo) ≡ seg.base + (a - seg.span.lo) = omega (arith, lo_is, base_is, meet, on, from, l) in e)

    in_first : a < seg.span.lo → (nat_le lo a && nat_le a hi) ≡ in_span one.span a
    in_first l =
        ap (λ n. nat_le n a && nat_le a hi) lo_is
        ∙ ap (λ n. nat_le one.span.lo a && nat_le a n) hi_is
        ∙ span_low one.span.lo one.span.hi seg.span.hi a (omega (arith, l, meet)) (omega (arith, meet, to))

    in_second : seg.span.lo ≤ a → (nat_le lo a && nat_le a hi) ≡ in_span seg.span a
    in_second l =
        ap (λ n. nat_le n a && nat_le a hi) lo_is
        ∙ ap (λ n. nat_le one.span.lo a && nat_le a n) hi_is
        ∙ span_high one.span.lo seg.span.lo seg.span.hi a (omega (arith, meet, from)) l

    by : (a < seg.span.lo) ⊎ (seg.span.lo ≤ a) → ((nat_le lo a && nat_le a hi) && next node (base + (a - lo)) z) ≡ (seg_leads next one a z || seg_leads next seg a z)
    by (inl l) =
        ap (λ b. b && next node (base + (a - lo)) z) (in_first l)
        ∙ ap (λ b. in_span one.span a && b) leads_first
        ∙ sym (or-false (in_span one.span a && first))
        ∙ ap (λ b. (in_span one.span a && first) || (b && second)) (sym (out_low seg.span.lo seg.span.hi a l))
    by (inr l) =
        ap (λ b. b && next node (base + (a - lo)) z) (in_second l)
        ∙ ap (λ b. in_span seg.span a && b) (leads_second l)
        ∙ ap (λ b. (b && first) || (in_span seg.span a && second)) (sym (out_high one.span.lo one.span.hi a (omega (arith, meet, l))))

pub or_join : (b c d : Bool) → (b || (c || d)) ≡ ((b || c) || d)
or_join true c d = refl
or_join false c d = refl
