-- The names that agents see are those that the rows of their views have.
use Rattle.std.proofs.Common.{◌≡◌, ℕ, zero, suc, ◌+◌, ◌-◌, ◌≤◌, ◌⊎◌, inl, inr, Bool, true, false, ◌&&◌, nat_eq, nat_le, List, [], ◌∷◌, ◌++◌, map, slice_get, refl, sym, ap, ◌∙◌, subst, arith, IsTrue, eqb-true}
use Rattle.std.specs.List.{list_any}
use Rattle.std.proofs.lemmas.Bool.{and_from, and_parts, eq-eqb, leb-true, or_cases, or_left, or_right}
use Rattle.dn_base.specs.Members.{Member}
use Rattle.dn_base.proofs.Orders.{le-leb}
use Rattle.dn_interval.specs.declared.row.End.{End}
use Rattle.dn_interval.specs.declared.row.Row.{Row}
use Rattle.dn_interval.specs.declared.span.Span.{Span}
use Rattle.dn_interval.specs.declared.span.TheConstants.{TOP}
use Rattle.dn_interval.specs.Rows.{GivenBy, further_end}
use Rattle.dn_interval.proofs.Membership.{hi_of, in_from, lo_of}
use Rattle.dn_net.specs.declared.node.NodeDecl.{NodeDecl}
use Rattle.dn_net.specs.Decode.{is_agent, is_agent_at}
use Rattle.dn_kind.specs.declared.rights.Access.{Access}
use Rattle.dn_kind.specs.declared.rights.Access.TheVariants.{Read, Write}
use Rattle.dn_kind.specs.Tables.{Held, allowing}
use Rattle.dn_view.specs.Views.{ResolvesFromUnder}
use Rattle.dn_audit.specs.declared.report.Seen.{Seen}
use Rattle.dn_audit.specs.declared.report.Shared.{Shared}
use Rattle.dn_audit.specs.Audit.{AreSharedNames}
use Rattle.dn_audit.specs.Claims.{end_has, row_has, view_has, views_have}
use Rattle.dn_audit.specs.Shared.{AreSharedBy}
use Rattle.dn_audit.specs.Views.{AreSeen, IsSeen, Sees, Viewer, viewer_of, viewers, viewers_at}

-- WHOSE VIEWS THERE ARE

-- each agent has a view for each access
listed : (node : ℕ) (net : List NodeDecl) (i : ℕ) (access : Access) → IsTrue (is_agent_at (slice_get net i)) → Member (let v : Viewer = record { agent = node + i; access = access } in v) (viewers node net)
listed node [] i access a = cc
listed node (n ∷ ns) zero access a = here (is_agent n.role) a access
  where
    z : node ≡ node + 0
    z = omega arith

    here : (b : Bool) → IsTrue b → (access : Access) → Member (let v : Viewer = record { agent = node + 0; access = access } in v) (viewers_at node b ++ viewers (suc node) ns)
    here false t access = cc
    here true t Read = inl (ap (λ k. record { agent = k; access = Read }) z)
    here true t Write = inr (inl (ap (λ k. record { agent = k; access = Write }) z))
listed node (n ∷ ns) (suc i) access a =
    let z : suc node + i ≡ node + suc i = omega arith in
    later (is_agent n.role) (subst (λ k. Member (let v : Viewer = record { agent = k; access = access } in v) (viewers (suc node) ns)) z (listed (suc node) ns i access a))
  where
    later : (b : Bool) → Member (let v : Viewer = record { agent = node + suc i; access = access } in v) (viewers (suc node) ns) → Member (let v : Viewer = record { agent = node + suc i; access = access } in v) (viewers_at node b ++ viewers (suc node) ns)
    later true m = inr (inr m)
    later false m = m

-- where an agent of the list stands
pub record IsAgentFrom (node : ℕ) (net : List NodeDecl) (v : Viewer) : Type 0 where
  pub place : ℕ
  pub same : v.agent ≡ node + place
  pub agent : IsTrue (is_agent_at (slice_get net place))

-- and no others have
pub agents_listed : (node : ℕ) (net : List NodeDecl) (v : Viewer) → Member v (viewers node net) → IsAgentFrom node net v
agents_listed node [] v m = absurd m
agents_listed node (n ∷ ns) v m = by (is_agent n.role) refl (λ k. agents_listed (suc node) ns v k) m
  where
    z : node ≡ node + 0
    z = omega arith

    on : IsAgentFrom (suc node) ns v → IsAgentFrom node (n ∷ ns) v
    on r = let e = r.same in record { place = suc r.place; same = omega (arith, e); agent = r.agent }

    by : (b : Bool) → is_agent n.role ≡ b → (Member v (viewers (suc node) ns) → IsAgentFrom (suc node) ns v) → Member v (viewers_at node b ++ viewers (suc node) ns) → IsAgentFrom node (n ∷ ns) v
    by true e ih (inl f) = record { place = 0; same = sym (ap (λ (w : Viewer). w.agent) f) ∙ z; agent = e }
    by true e ih (inr (inl f)) = record { place = 0; same = sym (ap (λ (w : Viewer). w.agent) f) ∙ z; agent = e }
    by true e ih (inr (inr k)) = on (ih k)
    by false e ih k = on (ih k)

-- the view of a viewer
view_of : (net : List NodeDecl) (h : Held) (views : List Seen) (v : Viewer) → AreSeen net h views → Member v (map viewer_of views) → (s : Seen) × Member s views × (v ≡ viewer_of s) × IsSeen net h s
view_of net h [] v a m = absurd m
view_of net h (s ∷ views) v a (inl e) = (s, inl refl, sym e, a.0)
view_of net h (s ∷ views) v a (inr m) = let r = view_of net h views v a.1 m in (r.0, inr r.1, r.2, r.3)

pub viewed_by : (views : List Seen) (s : Seen) → Member s views → Member (viewer_of s) (map viewer_of views)
viewed_by [] s m = absurd m
viewed_by (t ∷ views) s (inl e) = inl (ap viewer_of e)
viewed_by (t ∷ views) s (inr m) = inr (viewed_by views s m)

seen_at : (net : List NodeDecl) (h : Held) (views : List Seen) (s : Seen) → AreSeen net h views → Member s views → IsSeen net h s
seen_at net h [] s a m = absurd m
seen_at net h (t ∷ views) s a (inl e) = subst (IsSeen net h) e a.0
seen_at net h (t ∷ views) s a (inr m) = seen_at net h views s a.1 m

-- tests of lists and their members
any_from : {X : Type 0} (p : X → Bool) (xs : List X) (x : X) → Member x xs → p x ≡ true → list_any p xs ≡ true
any_from p [] x m e = absurd m
any_from p (y ∷ ys) x (inl f) e = or_left (p y) (list_any p ys) (ap p f ∙ e)
any_from p (y ∷ ys) x (inr m) e = or_right (p y) (list_any p ys) (any_from p ys x m e)

any_to : {X : Type 0} (p : X → Bool) (xs : List X) → list_any p xs ≡ true → (x : X) × Member x xs × (p x ≡ true)
any_to p [] e = cc
any_to {X} p (y ∷ ys) e = by (or_cases (p y) (list_any p ys) e) (any_to p ys)
  where
    by : (p y ≡ true) ⊎ (list_any p ys ≡ true) → (list_any p ys ≡ true → (x : X) × Member x ys × (p x ≡ true)) → (x : X) × Member x (y ∷ ys) × (p x ≡ true)
    by (inl h) ih = (y, inl refl, h)
    by (inr h) ih = let r = ih h in (r.0, inr r.1, r.2)

-- NAMES OF ROWS

-- a name that a row gives to an address is one that it has
given_end : (seer d : ℕ) (span : Span) (ends : List End) (y : End) → d ≤ span.hi - span.lo → Member y (map (further_end d) ends) → list_any (λ (e : End). end_has seer span e y.node seer y.base) ends ≡ true
given_end seer d span [] y l m = absurd m
given_end seer d span (e ∷ es) y l (inl f) = or_left (end_has seer span e y.node seer y.base) (list_any (λ (e : End). end_has seer span e y.node seer y.base) es) here
  where
    base : y.base ≡ e.base + d
    base = sym (ap (λ (t : End). t.base) f)

    here : end_has seer span e y.node seer y.base ≡ true
    here = and_from _ _ (eq-eqb e.node y.node (ap (λ (t : End). t.node) f))
        (and_from _ _ (eq-eqb seer seer refl)
        (and_from _ _ (le-leb e.base y.base (omega (arith, base))) (le-leb y.base (e.base + (span.hi - span.lo)) (omega (arith, base, l)))))
given_end seer d span (e ∷ es) y l (inr m) = or_right (end_has seer span e y.node seer y.base) (list_any (λ (e : End). end_has seer span e y.node seer y.base) es) (given_end seer d span es y l m)

given_row : (seer b : ℕ) (rows : List Row) (y : End) → GivenBy rows b y → list_any (λ (r : Row). row_has seer r y.node seer y.base) rows ≡ true
given_row seer b [] y g = absurd g
given_row seer b (r ∷ rows) y (inl g) =
    let lo = lo_of r.span b g.0 in
    let hi = hi_of r.span b g.0 in
    or_left (row_has seer r y.node seer y.base) (list_any (λ (r : Row). row_has seer r y.node seer y.base) rows) (given_end seer (b - r.span.lo) r.span r.ends y (omega (arith, lo, hi)) g.1)
given_row seer b (r ∷ rows) y (inr g) = or_right (row_has seer r y.node seer y.base) (list_any (λ (r : Row). row_has seer r y.node seer y.base) rows) (given_row seer b rows y g)

-- and a name that it has it gives to an address
moved : (d : ℕ) (ends : List End) (e : End) → Member e ends → Member (further_end d e) (map (further_end d) ends)
moved d [] e m = absurd m
moved d (f ∷ fs) e (inl h) = inl (ap (further_end d) h)
moved d (f ∷ fs) e (inr m) = inr (moved d fs e m)

-- where a row has a name
record IsGivenAt (rows : List Row) (seer agent : ℕ) (y : End) : Type 0 where
  pub at : ℕ
  pub within : at ≤ TOP
  pub gives : GivenBy rows at y
  pub own : seer ≡ agent

has_row : (seer agent : ℕ) (r : Row) (rest : List Row) (y : End) → row_has seer r y.node agent y.base ≡ true → IsGivenAt (r ∷ rest) seer agent y
has_row seer agent r rest y h =
    let found = any_to (λ (e : End). end_has seer r.span e y.node agent y.base) r.ends h in
    let e : End = found.0 in
    let p = and_parts (nat_eq e.node y.node) (nat_eq seer agent && (nat_le e.base y.base && nat_le y.base (e.base + (r.span.hi - r.span.lo)))) found.2 in
    let q = and_parts (nat_eq seer agent) (nat_le e.base y.base && nat_le y.base (e.base + (r.span.hi - r.span.lo))) p.1 in
    let s = and_parts (nat_le e.base y.base) (nat_le y.base (e.base + (r.span.hi - r.span.lo))) q.1 in
    let low : e.base ≤ y.base = leb-true e.base y.base s.0 in
    let high : y.base ≤ e.base + (r.span.hi - r.span.lo) = leb-true y.base (e.base + (r.span.hi - r.span.lo)) s.1 in
    let node : e.node ≡ y.node = eqb-true e.node y.node p.0 in
    let order : r.span.lo ≤ r.span.hi = r.span.ordered in
    let top : r.span.hi ≤ TOP = r.span.within in
    let at : ℕ = r.span.lo + (y.base - e.base) in
    let d : at - r.span.lo ≡ y.base - e.base = omega arith in
    let base : e.base + (at - r.span.lo) ≡ y.base = omega (arith, d, low) in
    let same : further_end (at - r.span.lo) e ≡ y = ap (λ n. record { node = n; base = e.base + (at - r.span.lo) }) node ∙ ap (λ b. record { node = y.node; base = b }) base in
    record {
      at = at;
      within = omega (arith, low, high, order, top);
      gives = inl (in_from r.span at (omega arith) (omega (arith, low, high, order)), subst (λ (t : End). Member t (map (further_end (at - r.span.lo)) r.ends)) same (moved (at - r.span.lo) r.ends e found.1));
      own = eqb-true seer agent q.0;
    }

has_rows : (seer agent : ℕ) (rows : List Row) (y : End) → list_any (λ (r : Row). row_has seer r y.node agent y.base) rows ≡ true → IsGivenAt rows seer agent y
has_rows seer agent [] y e = cc
has_rows seer agent (r ∷ rows) y e = by (or_cases (row_has seer r y.node agent y.base) (list_any (λ (r : Row). row_has seer r y.node agent y.base) rows) e) (has_rows seer agent rows y)
  where
    by : (row_has seer r y.node agent y.base ≡ true) ⊎ (list_any (λ (r : Row). row_has seer r y.node agent y.base) rows ≡ true) → (list_any (λ (r : Row). row_has seer r y.node agent y.base) rows ≡ true → IsGivenAt rows seer agent y) → IsGivenAt (r ∷ rows) seer agent y
    by (inl h) ih = has_row seer agent r rows y h
    by (inr h) ih = let g = ih h in record { at = g.at; within = g.within; gives = inr g.gives; own = g.own }

-- SEEN NAMES

-- a name that the views have is seen
pub has_sees : (net : List NodeDecl) (h : Held) (views : List Seen) → map viewer_of views ≡ viewers 0 net → AreSeen net h views → (node agent a : ℕ) → views_have views node agent a ≡ true → Sees net h agent (record { node = node; addr = a })
has_sees net h views are seen node agent a e =
    let found = any_to (λ (s : Seen). view_has s node agent a) views e in
    let s : Seen = found.0 in
    let y : End = record { node = node; base = a } in
    let g = has_rows s.agent agent s.rows y found.2 in
    let is = seen_at net h views s seen found.1 in
    let v = agents_listed 0 net (viewer_of s) (subst (λ (l : List Viewer). Member (viewer_of s) l) are (viewed_by views s found.1)) in
    let same = v.same in
    let own = g.own in
    let n : v.place ≡ agent = omega (arith, same, own) in (
      subst (λ k. IsTrue (is_agent_at (slice_get net k))) n v.agent,
      (s.access, g.at, g.within, subst (λ k. ResolvesFromUnder net (allowing s.access h) k g.at y) g.own ((is.exact g.at y g.within).1 g.gives)),
    )

-- and a seen name the views have
pub sees_has : (net : List NodeDecl) (h : Held) (views : List Seen) → map viewer_of views ≡ viewers 0 net → AreSeen net h views → (node agent a : ℕ) → Sees net h agent (record { node = node; addr = a }) → views_have views node agent a ≡ true
sees_has net h views are seen node agent a (there, (access, b, top, resolves)) =
    let y : End = record { node = node; base = a } in
    let z : 0 + agent ≡ agent = omega arith in
    let v : Viewer = record { agent = agent; access = access } in
    let m : Member v (viewers 0 net) = subst (λ k. Member (let w : Viewer = record { agent = k; access = access } in w) (viewers 0 net)) z (listed 0 net agent access there) in
    let found = view_of net h views v seen (subst (λ (l : List Viewer). Member v l) (sym are) m) in
    let s : Seen = found.0 in
    let who : agent ≡ s.agent = ap (λ (w : Viewer). w.agent) found.2 in
    let which : access ≡ s.access = ap (λ (w : Viewer). w.access) found.2 in
    let here : ResolvesFromUnder net (allowing s.access h) s.agent b y = subst (λ k. ResolvesFromUnder net (allowing s.access h) k b y) who (subst (λ k. ResolvesFromUnder net (allowing k h) agent b y) which resolves) in
    let given = (found.3.exact b y top).0 here in
    any_from (λ (s : Seen). view_has s node agent a) views s found.1 (subst (λ k. list_any (λ (r : Row). row_has s.agent r node k a) s.rows ≡ true) (sym who) (given_row s.agent b s.rows y given))

-- the rows of the names that views have are those of the names that agents see
pub names_shared : (net : List NodeDecl) (h : Held) (views : List Seen) (rows : List Shared) → map viewer_of views ≡ viewers 0 net → AreSeen net h views → AreSharedBy (views_have views) rows → AreSharedNames net h rows
names_shared net h views rows are seen shared = record {
  ascend = shared.ascend;
  apart = λ node. (shared.each node).apart;
  exact = λ node a agent l. (
    (λ s. let k = ((shared.each node).exact a agent l).0 s in (has_sees net h views are seen node agent a k.0, (k.1.0, k.1.1, k.1.2, has_sees net h views are seen node k.1.0 a k.1.3, has_sees net h views are seen node k.1.1 a k.1.4))),
    (λ (one, (p, q, less, first, second)). ((shared.each node).exact a agent l).1 (sees_has net h views are seen node agent a one, (p, q, less, sees_has net h views are seen node p a first, sees_has net h views are seen node q a second))),
  );
}
