-- Names that two addresses of agents reach.
use Rattle.std.proofs.Common.{◌≡◌, ℕ, zero, suc, ◌+◌, ◌-◌, ◌<◌, ◌≤◌, ◌⊎◌, inl, inr, Bool, true, false, ◌&&◌, ◌||◌, nat_eq, nat_le, List, [], ◌∷◌, length, get_or, slice_get, IfSome, Option, Some, None, IsTrue, refl, sym, ap, ◌∙◌, subst, arith, eq-eqb, le-leb}
use Rattle.std.specs.List.{Contains, list_any}
use Rattle.std.specs.Option.{option_map}
use Rattle.std.proofs.lemmas.Bool.{and_from, cases_lt, false≢true}
use Rattle.std.proofs.lemmas.List.Elements.{All-contains}
use Rattle.dn_interval.specs.declared.row.End.{End}
use Rattle.dn_interval.specs.declared.row.Row.{Row}
use Rattle.dn_interval.specs.declared.row.Seg.{Seg}
use Rattle.dn_interval.specs.declared.span.Span.{Span}
use Rattle.dn_interval.specs.declared.span.TheConstants.{TOP}
use Rattle.dn_interval.specs.Spans.{in_span}
use Rattle.dn_interval.specs.Strands.{seg_gives, segs_give}
use Rattle.dn_interval.proofs.Membership.{in_from, lo_of, hi_of}
use Rattle.dn_net.specs.declared.node.Name.{Name}
use Rattle.dn_net.specs.declared.node.NodeDecl.{NodeDecl}
use Rattle.dn_net.specs.declared.node.Role.{Role}
use Rattle.dn_net.specs.Decode.{is_agent, is_agent_at, StopsAt}
use Rattle.dn_flat.specs.declared.crowds.UnitSpan.{UnitSpan}
use Rattle.dn_flat.specs.declared.crowds.Way.{Way}
use Rattle.dn_flat.specs.declared.levels.Levels.{Levels}
use Rattle.dn_flat.specs.Crowds.{AreAgentStops, AreCrowded, HoldAlong, HoldAlongAll, IsWay}
use Rattle.dn_flat.specs.Levels.{IsLevels, levels_give}
use Rattle.dn_flat.specs.Views.{StopsFrom}

-- a node whose role is that of agents is an agent
pub role_agent : (o : Option NodeDecl) (r : Role) → option_map (λ (d : NodeDecl). d.role) o ≡ Some r → is_agent r ≡ is_agent_at o
role_agent None r e = absurd (never e)
  where
    never : None ≡ Some r → ⊥
    never p = cc
role_agent (Some d) r e = ap is_agent (same r d.role e)
  where
    same : (a b : Role) → Some b ≡ Some a → a ≡ b
    same a b p = cc

-- a segment of the segments gives its names to its addresses
pub way_of : (net : List NodeDecl) (agent : ℕ) (segs : List Seg) (s : Seg) → IsTrue (is_agent_at (slice_get net agent)) → ((a : ℕ) (z : End) → segs_give segs a z ≡ true → StopsFrom net agent a z) → (i : ℕ) → i < length segs → s ≡ get_or segs i s → IsWay net (record { agent = agent; seg = s })
way_of net agent segs s is stops i l at = record { agent = is; stops = λ a e. stops a (record { node = s.node; base = s.base + (a - s.span.lo) }) (given a e) }
  where
    any_at : (p : Seg → Bool) (xs : List Seg) (i : ℕ) (x : Seg) → i < length xs → x ≡ get_or xs i x → p x ≡ true → list_any p xs ≡ true
    any_at p [] i x l e t = absurd (omega arith)
    any_at p (y ∷ ys) zero x l e t = ap (λ b. b || list_any p ys) (ap p (sym e) ∙ t)
    any_at p (y ∷ ys) (suc i) x l e t = or_right' (p y) (list_any p ys) (any_at p ys i x (omega arith) e t)
      where
        or_right' : (a b : Bool) → b ≡ true → (a || b) ≡ true
        or_right' true b e = refl
        or_right' false b e = e

    given : (a : ℕ) → in_span s.span a ≡ true → segs_give segs a (record { node = s.node; base = s.base + (a - s.span.lo) }) ≡ true
    given a e = any_at (λ (t : Seg). seg_gives t a (record { node = s.node; base = s.base + (a - s.span.lo) })) segs i s l at
        (and_from (in_span s.span a) (nat_eq s.node s.node && nat_eq (s.base + (a - s.span.lo)) (s.base + (a - s.span.lo))) e
        (and_from (nat_eq s.node s.node) (nat_eq (s.base + (a - s.span.lo)) (s.base + (a - s.span.lo))) (eq-eqb s.node s.node refl) (eq-eqb (s.base + (a - s.span.lo)) (s.base + (a - s.span.lo)) refl)))

-- what the layers of an agent's stops give to all of its addresses are its stops
pub whole_stops : (net : List NodeDecl) (agent : ℕ) (levels : Levels) (layers : List (List Row)) (w : Seg) (segs : List Seg) → IsLevels net agent levels → layers ≡ levels.stops → w.base ≡ 0 → w.span.lo ≡ 0 → w.span.hi ≡ TOP → ((a : ℕ) (z : End) → segs_give segs a z ≡ (segs_give [] a z || (in_span w.span a && levels_give layers (w.base + (a - w.span.lo)) z))) → (a : ℕ) (z : End) → segs_give segs a z ≡ true → StopsFrom net agent a z
whole_stops net agent levels layers w segs are same base lo hi gives a z e = by (in_span w.span a) refl
  where
    there : w.base + (a - w.span.lo) ≡ a
    there = omega arith

    both : (in_span w.span a && levels_give layers (w.base + (a - w.span.lo)) z) ≡ true
    both = sym (gives a z) ∙ e

    by : (b : Bool) → in_span w.span a ≡ b → StopsFrom net agent a z
    by false f = absurd (false≢true (ap (λ t. t && levels_give layers (w.base + (a - w.span.lo)) z) (sym f) ∙ both))
    by true f =
        let low : a ≤ TOP = let h = hi_of w.span a f in omega (arith, h, hi) in
        let at : levels_give layers (w.base + (a - w.span.lo)) z ≡ true = ap (λ t. t && levels_give layers (w.base + (a - w.span.lo)) z) (sym f) ∙ both in
        (are.stops a z low).0 (ap (λ ls. levels_give ls a z) (sym same) ∙ ap (λ n. levels_give layers n z) (sym there) ∙ at)

-- a way leads to each of its names from an address of its agent
way_stops : (net : List NodeDecl) (t : Way) (unit a : ℕ) → t.seg.node ≡ unit → t.seg.base ≤ a → a ≤ t.seg.base + (t.seg.span.hi - t.seg.span.lo) → IsWay net t → StopsAt net (record { node = t.agent; addr = t.seg.span.lo + (a - t.seg.base) }) (record { node = unit; addr = a })
way_stops net t unit a u from to is_way =
    let here : in_span t.seg.span (t.seg.span.lo + (a - t.seg.base)) ≡ true = in_from t.seg.span (t.seg.span.lo + (a - t.seg.base)) (omega arith) (omega (arith, to, from, t.seg.span.ordered)) in
    let back : t.seg.base + ((t.seg.span.lo + (a - t.seg.base)) - t.seg.span.lo) ≡ a = omega (arith, from) in
    subst (λ (n : Name). StopsAt net (record { node = t.agent; addr = t.seg.span.lo + (a - t.seg.base) }) n) (made t.seg.node unit (t.seg.base + ((t.seg.span.lo + (a - t.seg.base)) - t.seg.span.lo)) a u back) (is_way.stops (t.seg.span.lo + (a - t.seg.base)) here)
  where
    made : (m n b c : ℕ) → m ≡ n → b ≡ c → ◌≡◌ {A = Name} (record { node = m; addr = b }) (record { node = n; addr = c })
    made m n b c p q = cc

-- names that a way gives an address of an agent reaches
pub stops_given : (net : List NodeDecl) (way : Way) (s : Span) → way.seg.base ≤ s.lo → s.hi ≤ way.seg.base + (way.seg.span.hi - way.seg.span.lo) → IsWay net way → AreAgentStops net way.seg.node s
stops_given net way s lo hi v a is = record {
  from = record { node = way.agent; addr = way.seg.span.lo + (a - way.seg.base) };
  agent = v.agent;
  stops = way_stops net way way.seg.node a refl (omega (arith, lo, lo_of s a is)) (omega (arith, hi, hi_of s a is)) v;
}

-- what two ways give at different addresses two addresses of agents reach
pub crowd_met : (net : List NodeDecl) (one other : Way) (s : Span) → one.seg.node ≡ other.seg.node → (nat_eq one.agent other.agent && nat_eq (one.seg.span.lo + other.seg.base) (other.seg.span.lo + one.seg.base)) ≡ false → one.seg.base ≤ s.lo → other.seg.base ≤ s.lo → s.hi ≤ one.seg.base + (one.seg.span.hi - one.seg.span.lo) → s.hi ≤ other.seg.base + (other.seg.span.hi - other.seg.span.lo) → IsWay net one → IsWay net other → AreCrowded net other.seg.node s
crowd_met net one other s same apart one_lo other_lo one_hi other_hi v w a is = record {
  one = record { node = one.agent; addr = one.seg.span.lo + (a - one.seg.base) };
  other = record { node = other.agent; addr = other.seg.span.lo + (a - other.seg.base) };
  one_agent = v.agent;
  other_agent = w.agent;
  one_stops = way_stops net one other.seg.node a same (omega (arith, one_lo, from)) (omega (arith, one_hi, to)) v;
  other_stops = way_stops net other other.seg.node a refl (omega (arith, other_lo, from)) (omega (arith, other_hi, to)) w;
  differ = λ e. false≢true (sym apart ∙ alike (ap (λ (x : Name). x.node) e) (ap (λ (x : Name). x.addr) e));
}
  where
    from : s.lo ≤ a
    from = lo_of s a is

    to : a ≤ s.hi
    to = hi_of s a is

    alike : one.agent ≡ other.agent → one.seg.span.lo + (a - one.seg.base) ≡ other.seg.span.lo + (a - other.seg.base) → (nat_eq one.agent other.agent && nat_eq (one.seg.span.lo + other.seg.base) (other.seg.span.lo + one.seg.base)) ≡ true
    alike p q = and_from (nat_eq one.agent other.agent) (nat_eq (one.seg.span.lo + other.seg.base) (other.seg.span.lo + one.seg.base)) (eq-eqb one.agent other.agent p) (eq-eqb (one.seg.span.lo + other.seg.base) (other.seg.span.lo + one.seg.base) (omega (arith, q, from, one_lo, other_lo)))

-- what holds along each span that is listed holds along one that is found among them
pub found_along : (has : Name → Type 0) (spans : List UnitSpan) (unit : ℕ) (found : Option Span) → HoldAlongAll has spans → IfSome found (λ s. Contains spans (record { unit = unit; span = s })) → IfSome found (λ s. HoldAlong has unit s)
found_along has spans unit None all at = tt
found_along has spans unit (Some s) all at = All-contains (λ (k : UnitSpan). HoldAlong has k.unit k.span) spans (record { unit = unit; span = s }) all at

pub not_past : (n lo : ℕ) → nat_le n lo ≡ false → lo < n
not_past n lo e = by (cases_lt lo n)
  where
    by : (lo < n) ⊎ (n ≤ lo) → lo < n
    by (inl l) = l
    by (inr l) = absurd (false≢true (sym e ∙ le-leb n lo l))
