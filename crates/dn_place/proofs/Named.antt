-- Names to which other agents come by the records that are kept, as rows in which each stands at its own address.
use Rattle.std.proofs.Common.{◌≡◌, ℕ, ◌+◌, ◌-◌, ◌<◌, ◌≤◌, ◌⊎◌, inl, inr, Bool, true, false, ◌&&◌, ◌||◌, nat_eq, List, [], ◌∷◌, ◌++◌, length, get_or, Some, IsTrue, sym, ap, ◌∙◌, subst, arith, eqb-true, eq-eqb, leb}
use Rattle.std.specs.List.{Contains, list_any}
use Rattle.std.proofs.lemmas.List.Folds.{list_any-append}
use Rattle.std.proofs.lemmas.Bool.{and_parts, and_from, leb-true, or_cases}
use Rattle.std.proofs.lemmas.Option.{slice_get-get_or}
use Rattle.dn_base.proofs.Members.{any_member, member_any, member_at}
use Rattle.dn_interval.specs.declared.row.End.{End}
use Rattle.dn_interval.specs.declared.row.Row.{Row}
use Rattle.dn_interval.specs.declared.row.Seg.{Seg}
use Rattle.dn_interval.specs.declared.span.TheConstants.{TOP}
use Rattle.dn_interval.specs.Rows.{further_end, AreNormal, GivenBy, SegmentsGive}
use Rattle.dn_interval.specs.Spans.{in_span}
use Rattle.dn_interval.specs.Strands.{seg_gives, segs_give}
use Rattle.dn_interval.proofs.Membership.{hi_of, in_from}
use Rattle.dn_interval.proofs.Names.{segs_from}
use Rattle.dn_interval.proofs.Normal.{member_moved}
use Rattle.dn_net.specs.declared.node.NodeDecl.{NodeDecl}
use Rattle.dn_kind.specs.declared.rights.Access.{Access}
use Rattle.dn_kind.specs.Rights.{allows}
use Rattle.dn_kind.specs.Tables.{Held, allowing}
use Rattle.dn_placement.specs.declared.request.Request.{Request}
use Rattle.dn_view.specs.KeptStops.{ListKeptStops}
use Rattle.dn_place.specs.KeptNames.{AreKeptNames, IsNamed}
use Rattle.dn_place.proofs.Marked.{given_there}

-- a segment of the same names, each at its own address
pub itself : (s : Seg) (to x : ℕ) (z : End) → to ≡ s.base + (s.span.hi - s.span.lo) → ((leb s.base x && leb x to) && (nat_eq s.node z.node && nat_eq (s.base + (x - s.base)) z.base)) ≡ true → (z.base ≡ x) × (seg_gives s (s.span.lo + (x - s.base)) z ≡ true)
itself s to x z t e =
    let p = and_parts (leb s.base x && leb x to) (nat_eq s.node z.node && nat_eq (s.base + (x - s.base)) z.base) e in
    let o = and_parts (leb s.base x) (leb x to) p.0 in
    let q = and_parts (nat_eq s.node z.node) (nat_eq (s.base + (x - s.base)) z.base) p.1 in
    let low : s.base ≤ x = leb-true s.base x o.0 in
    let high : x ≤ to = leb-true x to o.1 in
    let at : s.base + (x - s.base) ≡ z.base = eqb-true (s.base + (x - s.base)) z.base q.1 in
    let order : s.span.lo ≤ s.span.hi = s.span.ordered in
    let a : ℕ = s.span.lo + (x - s.base) in (
      omega (arith, at, low),
      and_from (in_span s.span a) (nat_eq s.node z.node && nat_eq (s.base + (a - s.span.lo)) z.base)
          (in_from s.span a (omega arith) (omega (arith, high, t, low, order)))
          (and_from (nat_eq s.node z.node) (nat_eq (s.base + (a - s.span.lo)) z.base) q.0 (eq-eqb (s.base + (a - s.span.lo)) z.base (omega (arith, at)))),
    )

-- one more of them
pub one_named : (segs own : List Seg) (i : ℕ) (s t : Seg) → i < length segs → s ≡ get_or segs i s → ((x : ℕ) (z : End) → seg_gives t x z ≡ true → (z.base ≡ x) × (seg_gives s (s.span.lo + (x - s.base)) z ≡ true)) → ((x : ℕ) (z : End) → segs_give own x z ≡ true → IsNamed segs x z) → (x : ℕ) (z : End) → segs_give (own ++ t ∷ []) x z ≡ true → IsNamed segs x z
one_named segs own i s t l is same old x z e = by (or_cases (segs_give own x z) (segs_give (t ∷ []) x z) (sym (list_any-append (λ (k : Seg). seg_gives k x z) own (t ∷ [])) ∙ e))
  where
    only : (b : Bool) → (b || false) ≡ true → b ≡ true
    only true f = f
    only false f = f

    by : (segs_give own x z ≡ true) ⊎ (segs_give (t ∷ []) x z ≡ true) → IsNamed segs x z
    by (inl f) = old x z f
    by (inr f) = let w = same x z (only (seg_gives t x z) f) in (w.0, (s.span.lo + (x - s.base), member_any (λ (k : Seg). seg_gives k (s.span.lo + (x - s.base)) z) segs s (member_at segs i s (slice_get-get_or segs i s l ∙ ap (λ (k : Seg). Some k) (sym is))) w.1))

-- rows give names to addresses up to the last
pub rows_low : (rows : List Row) (x : ℕ) (z : End) → GivenBy rows x z → x ≤ TOP
rows_low [] x z g = absurd g
rows_low (r ∷ rows) x z (inl g) = let h = hi_of r.span x g.0 in omega (arith, h, r.span.within)
rows_low (r ∷ rows) x z (inr g) = rows_low rows x z g

-- the rows of kept stops, each at its own address, are kept names
pub rows_kept : (net : List NodeDecl) (h : Held) (rq : Request) (access : Access) (stops own : List Seg) (rows : List Row) → IsTrue (allows rq.rights access) → ListKeptStops net (allowing access h) rq.agent stops → ((x : ℕ) (z : End) → segs_give own x z ≡ true → IsNamed stops x z) → AreNormal (SegmentsGive own) rows → AreKeptNames net h rq rows
rows_kept net h rq access stops own rows allowed listed named n = λ x z g.
    let w = named x z (segs_from own x z ((n.exact x z (rows_low rows x z g)).1 g)) in
    (w.0, (access, allowed, listed w.1.0 z w.1.1))

pub none_named : (net : List NodeDecl) (h : Held) (rq : Request) (rows : List Row) → AreNormal (SegmentsGive []) rows → AreKeptNames net h rq rows
none_named net h rq rows n = λ x z g. absurd ((n.exact x z (rows_low rows x z g)).1 g)

-- a row that has the address, and a name in a node
pub row_named : (rows : List Row) (r : Row) (unit x : ℕ) → Contains rows r → IsTrue (in_span r.span x) → list_any (λ (e : End). nat_eq e.node unit) r.ends ≡ true → (b : ℕ) × GivenBy rows x (record { node = unit; base = b })
row_named rows r unit x c at some =
    let w = any_member (λ (e : End). nat_eq e.node unit) r.ends some in
    let g : GivenBy rows x (further_end (x - r.span.lo) w.0) = given_there rows r x (further_end (x - r.span.lo) w.0) c at (member_moved (x - r.span.lo) r.ends w.0 w.1) in
    (w.0.base + (x - r.span.lo), subst (λ (n : ℕ). GivenBy rows x (record { node = n; base = w.0.base + (x - r.span.lo) })) (eqb-true w.0.node unit w.2) g)
