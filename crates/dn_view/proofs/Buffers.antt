-- Rows and segments that show exactly a buffer, or nothing.
use Rattle.std.proofs.Common.{◌≡◌, ℕ, ◌+◌, ◌-◌, ◌<◌, ◌≤◌, ◌↔◌, inl, inr, true, false, ◌&&◌, ◌==◌, nat_le, nat_eq, List, [], ◌∷◌, map, length, IsTrue, refl, sym, ap, ◌∙◌, subst, arith, leb-true, le-leb, eqb-true, eq-eqb}
use Rattle.std.specs.List.{list_all}
use Rattle.std.proofs.lemmas.Bool.{and_from, and_parts, false≢true}
use Rattle.dn_base.proofs.Booleans.{or_left, or_right}
use Rattle.dn_interval.specs.declared.row.End.{End}
use Rattle.dn_interval.specs.declared.row.Row.{Row}
use Rattle.dn_interval.specs.declared.row.Seg.{Seg}
use Rattle.dn_interval.specs.declared.span.Span.{Span}
use Rattle.dn_interval.specs.declared.span.TheConstants.{TOP}
use Rattle.dn_interval.specs.Rows.{Member as Named, AreNormal, SegmentsGive, GivenBy, further_end}
use Rattle.dn_interval.specs.Strands.{seg_gives, segs_give}
use Rattle.dn_interval.proofs.Membership.{in_from}
use Rattle.dn_interval.proofs.Names.{segs_from, segs_to}
use Rattle.dn_interval.proofs.Normal.{one_normal}
use Rattle.dn_flat.proofs.Sums.{normal_of}
use Rattle.dn_net.specs.declared.node.Name.{Name}
use Rattle.dn_net.specs.declared.node.NodeDecl.{NodeDecl}
use Rattle.dn_kind.specs.declared.rights.Access.{Access}
use Rattle.dn_kind.specs.Rights.{allows}
use Rattle.dn_kind.specs.Tables.{Held}
use Rattle.dn_tables.specs.Placement.{Place}
use Rattle.dn_placement.specs.declared.request.Request.{Request}
use Rattle.dn_placement.specs.Exposure.{Adds}
use Rattle.dn_walk.specs.Ends.{end_of, name_of_end}
use Rattle.dn_view.specs.Exact.{IsAdded, IsAsked, IsAskedAt, IsExactAt, is_buffer_end, is_buffer_row, is_part_of_buffer, are_buffer}
use Rattle.dn_view.specs.Passes.{seg_name}
use Rattle.dn_view.proofs.Passed.{seg_gives_it}

-- the one name of a buffer's row
one_end : (es : List End) (rq : Request) → is_buffer_end es rq ≡ true → ◌≡◌ {A = List End} es (record { node = rq.node; base = rq.base } ∷ [])
one_end [] rq e = cc
one_end (f ∷ []) rq e =
    let b = and_parts (nat_eq f.node rq.node) (nat_eq f.base rq.base) e in
    ap (λ n. record { node = n; base = f.base } ∷ []) (eqb-true f.node rq.node b.0) ∙ ap (λ n. record { node = rq.node; base = n } ∷ []) (eqb-true f.base rq.base b.1)
one_end (f ∷ (g ∷ es)) rq e = cc

-- a buffer's row gives exactly what is asked for
row_asked : (r : Row) (rq : Request) (v : ℕ) → 1 ≤ rq.size → is_buffer_row r rq v ≡ true → (a : ℕ) (z : End) → IsAskedAt rq v a z ↔ GivenBy (r ∷ []) a z
row_asked r rq v some e a z = (into, back)
  where
    p : (nat_eq r.span.lo v ≡ true) × ((nat_eq r.span.hi (v + (rq.size - 1)) && is_buffer_end r.ends rq) ≡ true)
    p = and_parts (nat_eq r.span.lo v) (nat_eq r.span.hi (v + (rq.size - 1)) && is_buffer_end r.ends rq) e

    q : (nat_eq r.span.hi (v + (rq.size - 1)) ≡ true) × (is_buffer_end r.ends rq ≡ true)
    q = and_parts (nat_eq r.span.hi (v + (rq.size - 1))) (is_buffer_end r.ends rq) p.1

    lo : r.span.lo ≡ v
    lo = eqb-true r.span.lo v p.0

    hi : r.span.hi ≡ v + (rq.size - 1)
    hi = eqb-true r.span.hi (v + (rq.size - 1)) q.0

    ends : ◌≡◌ {A = List End} r.ends (record { node = rq.node; base = rq.base } ∷ [])
    ends = one_end r.ends rq q.1

    into : IsAskedAt rq v a z → GivenBy (r ∷ []) a z
    into d =
        let at : a ≡ v + d.i = ap (λ (n : Name). n.addr) d.from in
        let b : d.i < rq.size = d.below in
        let l = lo in
        let h = hi in
        let i : a - r.span.lo ≡ d.i = omega arith in
        let name : ◌≡◌ {A = End} (record { node = rq.node; base = rq.base + (a - r.span.lo) }) z = ap (λ n. record { node = rq.node; base = rq.base + n }) i ∙ ap end_of (sym d.to) in
        inl (in_from r.span a (omega arith) (omega arith), subst (λ (es : List End). Named z (map (further_end (a - r.span.lo)) es)) (sym ends) (inl name))

    back : GivenBy (r ∷ []) a z → IsAskedAt rq v a z
    back (inr n) = absurd n
    back (inl g) =
        let t = and_parts (nat_le r.span.lo a) (nat_le a r.span.hi) g.0 in
        let l = lo in
        let h = hi in
        let x : r.span.lo ≤ a = leb-true r.span.lo a t.0 in
        let y : a ≤ r.span.hi = leb-true a r.span.hi t.1 in
        named (subst (λ (es : List End). Named z (map (further_end (a - r.span.lo)) es)) ends g.1) (omega arith) (omega arith)
      where
        named : (Named z (map (further_end (a - r.span.lo)) (record { node = rq.node; base = rq.base } ∷ []))) → a ≡ v + (a - r.span.lo) → a - r.span.lo < rq.size → IsAskedAt rq v a z
        named (inr n) f b = absurd n
        named (inl n) f b = record { i = a - r.span.lo; below = b; from = ap (λ m. record { node = rq.agent; addr = m }) f; to = ap name_of_end (sym n) }

-- and it is the one normal row
buffer_normal : (rq : Request) (v : ℕ) → 1 ≤ rq.size → v + rq.size ≤ TOP + 1 → (rows : List Row) → AreNormal (IsAskedAt rq v) rows → are_buffer rows rq v ≡ true
buffer_normal rq v some fits rows n = subst (λ rs. are_buffer rs rq v ≡ true) (sym same) is
  where
    span : Span
    span = record { lo = v; hi = v + (rq.size - 1); ordered = omega arith; within = omega arith }

    row : Row
    row = record { span = record { lo = v; hi = v + (rq.size - 1); ordered = omega arith; within = omega arith }; ends = record { node = rq.node; base = rq.base } ∷ [] }

    is : are_buffer (record { span = record { lo = v; hi = v + (rq.size - 1); ordered = omega arith; within = omega arith }; ends = record { node = rq.node; base = rq.base } ∷ [] } ∷ []) rq v ≡ true
    is = rw (eq-eqb v v refl, eq-eqb (v + (rq.size - 1)) (v + (rq.size - 1)) refl, eq-eqb rq.node rq.node refl, eq-eqb rq.base rq.base refl) refl

    same : ◌≡◌ {A = List Row} rows (record { span = record { lo = v; hi = v + (rq.size - 1); ordered = omega arith; within = omega arith }; ends = record { node = rq.node; base = rq.base } ∷ [] } ∷ [])
    same = one_normal (IsAskedAt rq v) rows (record { span = record { lo = v; hi = v + (rq.size - 1); ordered = omega arith; within = omega arith }; ends = record { node = rq.node; base = rq.base } ∷ [] } ∷ []) n
        (record {
          apart = (omega arith, tt, (tt, tt), tt, tt);
          exact = λ a z low. row_asked (record { span = record { lo = v; hi = v + (rq.size - 1); ordered = omega arith; within = omega arith }; ends = record { node = rq.node; base = rq.base } ∷ [] }) rq v some is a z;
        })

pub buffer_asked : (rows : List Row) (rq : Request) (v : ℕ) → 1 ≤ rq.size → are_buffer rows rq v ≡ true → (a : ℕ) (z : End) → IsAskedAt rq v a z ↔ GivenBy rows a z
buffer_asked [] rq v some e a z = cc
buffer_asked (r ∷ []) rq v some e a z = row_asked r rq v some e a z
buffer_asked (r ∷ (s ∷ rs)) rq v some e a z = cc

-- rows of segments are the buffer exactly where the segments give what is asked for
pub rows_buffer : (rq : Request) (v : ℕ) (shown : List Seg) (rows : List Row) → 1 ≤ rq.size → v + rq.size ≤ TOP + 1 → AreNormal (SegmentsGive shown) rows → (are_buffer rows rq v ≡ true) ↔ ((a : ℕ) (z : End) → a ≤ TOP → (segs_give shown a z ≡ true) ↔ IsAskedAt rq v a z)
rows_buffer rq v shown rows some fits n = (into, back)
  where
    into : are_buffer rows rq v ≡ true → (a : ℕ) (z : End) → a ≤ TOP → (segs_give shown a z ≡ true) ↔ IsAskedAt rq v a z
    into e a z low =
        let g = buffer_asked rows rq v some e a z in
        ((λ k. g.1 ((n.exact a z low).0 (segs_to shown a z k))), (λ k. segs_from shown a z ((n.exact a z low).1 (g.0 k))))

    back : ((a : ℕ) (z : End) → a ≤ TOP → (segs_give shown a z ≡ true) ↔ IsAskedAt rq v a z) → are_buffer rows rq v ≡ true
    back k = buffer_normal rq v some fits rows (normal_of (IsAskedAt rq v) shown rows k n)

-- a segment that gives what is asked for at its ends is a part of the buffer
one_part : (rq : Request) (v : ℕ) (s : Seg) → 1 ≤ rq.size → ((a : ℕ) (z : End) → a ≤ TOP → seg_gives s a z ≡ true → IsAskedAt rq v a z) → is_part_of_buffer s rq v ≡ true
one_part rq v s some k =
    let order : s.span.lo ≤ s.span.hi = s.span.ordered in
    let top : s.span.hi ≤ TOP = s.span.within in
    let first = k s.span.lo (end_of (seg_name s s.span.lo)) (omega arith) (seg_gives_it s s.span.lo (in_from s.span s.span.lo (omega arith) order)) in
    let last = k s.span.hi (end_of (seg_name s s.span.hi)) top (seg_gives_it s s.span.hi (in_from s.span s.span.hi order (omega arith))) in
    let at : s.span.lo ≡ v + first.i = ap (λ (n : Name). n.addr) first.from in
    let to : s.base + (s.span.lo - s.span.lo) ≡ rq.base + first.i = ap (λ (n : Name). n.addr) first.to in
    let far : s.span.hi ≡ v + last.i = ap (λ (n : Name). n.addr) last.from in
    let below : last.i < rq.size = last.below in
    let node : s.node ≡ rq.node = ap (λ (n : Name). n.node) first.to in
    let high : s.span.hi ≤ v + (rq.size - 1) = omega arith in
    let low : v ≤ s.span.lo = omega arith in
    let base : rq.base ≤ s.base = omega arith in
    let same : s.base - rq.base ≡ s.span.lo - v = omega arith in
    and_from (nat_le v s.span.lo) (nat_le s.span.hi (v + (rq.size - 1)) && (nat_eq s.node rq.node && (nat_le rq.base s.base && nat_eq (s.base - rq.base) (s.span.lo - v)))) (le-leb v s.span.lo low)
    (and_from (nat_le s.span.hi (v + (rq.size - 1))) (nat_eq s.node rq.node && (nat_le rq.base s.base && nat_eq (s.base - rq.base) (s.span.lo - v))) (le-leb s.span.hi (v + (rq.size - 1)) high)
    (and_from (nat_eq s.node rq.node) (nat_le rq.base s.base && nat_eq (s.base - rq.base) (s.span.lo - v)) (eq-eqb s.node rq.node node)
    (and_from (nat_le rq.base s.base) (nat_eq (s.base - rq.base) (s.span.lo - v)) (le-leb rq.base s.base base) (eq-eqb (s.base - rq.base) (s.span.lo - v) same))))

all_parts : (rq : Request) (v : ℕ) (shown : List Seg) → 1 ≤ rq.size → ((a : ℕ) (z : End) → a ≤ TOP → segs_give shown a z ≡ true → IsAskedAt rq v a z) → list_all (λ s. is_part_of_buffer s rq v) shown ≡ true
all_parts rq v [] some k = refl
all_parts rq v (s ∷ rest) some k =
    and_from (is_part_of_buffer s rq v) (list_all (λ t. is_part_of_buffer t rq v) rest)
    (one_part rq v s some (λ a z low g. k a z low (or_left (seg_gives s a z) (segs_give rest a z) g)))
    (all_parts rq v rest some (λ a z low g. k a z low (or_right (seg_gives s a z) (segs_give rest a z) g)))

-- where a segment is no part of the buffer, they do not give what is asked for
pub not_parts : (rq : Request) (v : ℕ) (shown : List Seg) → 1 ≤ rq.size → list_all (λ s. is_part_of_buffer s rq v) shown ≡ false → (false ≡ true) ↔ ((a : ℕ) (z : End) → a ≤ TOP → (segs_give shown a z ≡ true) ↔ IsAskedAt rq v a z)
not_parts rq v shown some e = ((λ f. absurd (false≢true f)), (λ k. absurd (false≢true (sym e ∙ all_parts rq v shown some (λ a z low. (k a z low).0)))))

-- what is newly shown is the buffer exactly where it is what is asked for
pub exact_buffer : (net : List NodeDecl) (h : Held) (rq : Request) (p : Place) (access : Access) (node : ℕ) (shown : List Seg) → node ≡ rq.agent → IsTrue (allows rq.rights access) → ((a : ℕ) (z : End) → a ≤ TOP → (segs_give shown a z ≡ true) ↔ IsAdded net h rq p access (record { node = node; addr = a }) (name_of_end z)) → ((a : ℕ) (z : End) → a ≤ TOP → (segs_give shown a z ≡ true) ↔ IsAskedAt rq p.v a z) ↔ IsExactAt net h rq p access node
unfolding IsExactAt
exact_buffer net h rq p access node shown own allowed is = (into, back)
  where
    as_asked : (a : ℕ) (z : End) → IsAskedAt rq p.v a z → IsAsked rq p.v access (record { node = node; addr = a }) (name_of_end z)
    as_asked a z d = (allowed, subst (λ m. Adds rq p.v (record { node = m; addr = a }) (name_of_end z)) (sym own) d)

    of_asked : (a : ℕ) (z : End) → IsAsked rq p.v access (record { node = node; addr = a }) (name_of_end z) → IsAskedAt rq p.v a z
    of_asked a z d = subst (λ m. Adds rq p.v (record { node = m; addr = a }) (name_of_end z)) own d.1

    into : ((a : ℕ) (z : End) → a ≤ TOP → (segs_give shown a z ≡ true) ↔ IsAskedAt rq p.v a z) → (a : ℕ) (z : End) → a ≤ TOP → IsAdded net h rq p access (record { node = node; addr = a }) (name_of_end z) ↔ IsAsked rq p.v access (record { node = node; addr = a }) (name_of_end z)
    into k a z low = ((λ d. as_asked a z ((k a z low).0 ((is a z low).1 d))), (λ d. (is a z low).0 ((k a z low).1 (of_asked a z d))))

    back : ((a : ℕ) (z : End) → a ≤ TOP → IsAdded net h rq p access (record { node = node; addr = a }) (name_of_end z) ↔ IsAsked rq p.v access (record { node = node; addr = a }) (name_of_end z)) → (a : ℕ) (z : End) → a ≤ TOP → (segs_give shown a z ≡ true) ↔ IsAskedAt rq p.v a z
    back k a z low = ((λ g. of_asked a z ((k a z low).0 ((is a z low).0 g))), (λ d. (is a z low).1 ((k a z low).1 (as_asked a z d))))

-- nothing is newly shown exactly where nothing is asked for
pub exact_none : (net : List NodeDecl) (h : Held) (rq : Request) (p : Place) (access : Access) (node : ℕ) (shown : List Seg) → (node ≡ rq.agent → IsTrue (allows rq.rights access) → ⊥) → ((a : ℕ) (z : End) → a ≤ TOP → (segs_give shown a z ≡ true) ↔ IsAdded net h rq p access (record { node = node; addr = a }) (name_of_end z)) → ((length shown == 0) ≡ true) ↔ IsExactAt net h rq p access node
unfolding IsExactAt
exact_none net h rq p access node shown other is = (into, back shown is)
  where
    not_asked : (a : ℕ) (z : End) → IsAsked rq p.v access (record { node = node; addr = a }) (name_of_end z) → ⊥
    not_asked a z d = other (ap (λ (n : Name). n.node) d.1.from) d.0

    empty : (xs : List Seg) → (length xs == 0) ≡ true → xs ≡ []
    empty [] e = refl
    empty (x ∷ xs) e = let h : length (x ∷ xs) ≡ 0 = eqb-true _ _ e in absurd (omega arith)

    into : (length shown == 0) ≡ true → (a : ℕ) (z : End) → a ≤ TOP → IsAdded net h rq p access (record { node = node; addr = a }) (name_of_end z) ↔ IsAsked rq p.v access (record { node = node; addr = a }) (name_of_end z)
    into e a z low =
        let none : segs_give shown a z ≡ false = ap (λ (l : List Seg). segs_give l a z) (empty shown e) in
        ((λ k. absurd (false≢true (sym none ∙ (is a z low).1 k))), (λ k. absurd (not_asked a z k)))

    back : (xs : List Seg) → ((a : ℕ) (z : End) → a ≤ TOP → (segs_give xs a z ≡ true) ↔ IsAdded net h rq p access (record { node = node; addr = a }) (name_of_end z)) → ((a : ℕ) (z : End) → a ≤ TOP → IsAdded net h rq p access (record { node = node; addr = a }) (name_of_end z) ↔ IsAsked rq p.v access (record { node = node; addr = a }) (name_of_end z)) → (length xs == 0) ≡ true
    back [] js k = refl
    back (s ∷ ss) js k =
        let lo : ℕ = s.span.lo in
        let order : s.span.lo ≤ s.span.hi = s.span.ordered in
        let within : s.span.hi ≤ TOP = s.span.within in
        let low : lo ≤ TOP = omega arith in
        let z : End = record { node = s.node; base = s.base + (lo - s.span.lo) } in
        let g : segs_give (s ∷ ss) lo z ≡ true = or_left _ _ (seg_gives_it s lo (in_from s.span lo (omega arith) order)) in
        absurd (not_asked lo z ((k lo z low).0 ((js lo z low).0 g)))
