-- There is one report of an image.
use Rattle.std.proofs.Common.{◌≡◌, ℕ, ◌<◌, ◌⊎◌, inl, inr, Bool, true, false, ◌==◌, if◌then◌else◌, List, [], ◌∷◌, map, refl, sym, ap, ◌∙◌, subst, arith, eqb-true}
use Rattle.dn_interval.specs.declared.row.Row.{Row}
use Rattle.dn_interval.proofs.Normal.{one_list}
use Rattle.dn_net.specs.declared.node.NodeDecl.{NodeDecl}
use Rattle.dn_kind.specs.declared.rights.Access.{Access}
use Rattle.dn_kind.specs.Tables.{Held, allowing}
use Rattle.dn_view.specs.Views.{AreViewed}
use Rattle.dn_audit.specs.declared.report.AuditReport.{AuditReport}
use Rattle.dn_audit.specs.declared.report.Seen.{Seen}
use Rattle.dn_audit.specs.declared.report.Shared.{Shared}
use Rattle.dn_audit.specs.declared.report.Shut.{Shut}
use Rattle.dn_audit.specs.Audit.{AreSharedNames, OneAudit}
use Rattle.dn_audit.specs.Records.{image_records}
use Rattle.dn_audit.specs.Shared.{AreOfNode, NodesAscend, rows_in}
use Rattle.dn_audit.specs.Views.{AreSeen, Viewer, viewer_of}
use Rattle.dn_audit.proofs.AsRows.{one_list_of_shared}
use Rattle.dn_audit.proofs.Joined.{other_node, same_node}

-- THE VIEWS

same_list : {X : Type 0} {x y : X} {xs ys : List X} → x ≡ y → xs ≡ ys → x ∷ xs ≡ y ∷ ys
same_list p q = cc

rows_one : (net : List NodeDecl) (h : Held) (agent : ℕ) (access : Access) (rows others : List Row) → AreViewed net (allowing access h) agent rows → AreViewed net (allowing access h) agent others → rows ≡ others
rows_one net h agent access rows others p q = one_list rows others p.apart q.apart (λ a y l. ((λ g. (q.exact a y l).0 ((p.exact a y l).1 g)), (λ g. (p.exact a y l).0 ((q.exact a y l).1 g))))

view_one : (net : List NodeDecl) (h : Held) (agent agent2 : ℕ) (access access2 : Access) (rows rows2 : List Row) → agent ≡ agent2 → access ≡ access2 → AreViewed net (allowing access h) agent rows → AreViewed net (allowing access2 h) agent2 rows2 → rows ≡ rows2
view_one net h agent agent2 access access2 rows rows2 e f p q =
    rows_one net h agent2 access2 rows rows2 (subst (λ n. AreViewed net (allowing access2 h) n rows) e (subst (λ k. AreViewed net (allowing k h) agent rows) f p)) q

views_one : (net : List NodeDecl) (h : Held) (xs ys : List Seen) → map viewer_of xs ≡ map viewer_of ys → AreSeen net h xs → AreSeen net h ys → xs ≡ ys
views_one net h [] [] e a b = refl
views_one net h [] (y ∷ ys) e a b = cc
views_one net h (x ∷ xs) [] e a b = cc
views_one net h (x ∷ xs) (y ∷ ys) e a b =
    let head : viewer_of x ≡ viewer_of y = cc in
    let tail : map viewer_of xs ≡ map viewer_of ys = cc in
    let who : x.agent ≡ y.agent = ap (λ (v : Viewer). v.agent) head in
    let which : x.access ≡ y.access = ap (λ (v : Viewer). v.access) head in
    let rows : x.rows ≡ y.rows = view_one net h x.agent y.agent x.access y.access x.rows y.rows who which a.0 b.0 in
    let same : x ≡ y = ap (λ n. record { agent = n; access = x.access; rows = x.rows }) who ∙ ap (λ k. record { agent = y.agent; access = k; rows = x.rows }) which ∙ ap (λ (l : List Row). record { agent = y.agent; access = y.access; rows = l }) rows in
    same_list same (views_one net h xs ys tail a.1 b.1)

-- THE SHARED NAMES

order : (a b : ℕ) → (a < b) ⊎ ((b < a) ⊎ (a ≡ b))
order a b = grind arith

pub of_node : (m : ℕ) (rows : List Shared) → AreOfNode m (rows_in m rows)
of_node m [] = tt
of_node m (r ∷ rows) = by (r.node == m) refl (of_node m rows)
  where
    by : (b : Bool) → (r.node == m) ≡ b → AreOfNode m (rows_in m rows) → AreOfNode m (if b then r ∷ rows_in m rows else rows_in m rows)
    by true e rest = (eqb-true r.node m e, rest)
    by false e rest = rest

-- the first row is among those of its node, and is passed for another
pub first_own : (r : Shared) (rows : List Shared) (m : ℕ) → r.node ≡ m → rows_in m (r ∷ rows) ≡ r ∷ rows_in m rows
first_own r rows m e = ap (λ (b : Bool). if b then r ∷ rows_in m rows else rows_in m rows) (same_node r.node m e)

pub first_other : (r : Shared) (rows : List Shared) (m : ℕ) → (r.node ≡ m → ⊥) → rows_in m (r ∷ rows) ≡ rows_in m rows
first_other r rows m ne = ap (λ (b : Bool). if b then r ∷ rows_in m rows else rows_in m rows) (other_node r.node m ne)

pub none_below : (from m : ℕ) (rows : List Shared) → m < from → NodesAscend from rows → rows_in m rows ≡ []
none_below from m [] l a = refl
none_below from m (r ∷ rows) l a =
    let k = a.0 in
    first_other r rows m (λ e. absurd (omega (arith, e, k, l))) ∙ none_below r.node m rows (omega (arith, k, l)) a.1

not_none : (r : Shared) (rows : List Shared) → r ∷ rows ≡ [] → ⊥
not_none r rows e = cc

rows_of_one : (from : ℕ) (xs ys : List Shared) → NodesAscend from xs → NodesAscend from ys → ((m : ℕ) → rows_in m xs ≡ rows_in m ys) → xs ≡ ys
rows_of_one from [] [] a b e = refl
rows_of_one from [] (y ∷ ys) a b e = absurd (not_none y (rows_in y.node ys) (sym (first_own y ys y.node refl) ∙ sym (e y.node)))
rows_of_one from (x ∷ xs) [] a b e = absurd (not_none x (rows_in x.node xs) (sym (first_own x xs x.node refl) ∙ e x.node))
rows_of_one from (x ∷ xs) (y ∷ ys) a b e = by (order x.node y.node) (rows_of_one x.node xs ys a.1)
  where
    by : (x.node < y.node) ⊎ ((y.node < x.node) ⊎ (x.node ≡ y.node)) → (NodesAscend x.node ys → ((m : ℕ) → rows_in m xs ≡ rows_in m ys) → xs ≡ ys) → x ∷ xs ≡ y ∷ ys
    by (inl l) ih = absurd (not_none x (rows_in x.node xs) (sym (first_own x xs x.node refl) ∙ e x.node ∙ none_below y.node x.node (y ∷ ys) l (omega arith, b.1)))
    by (inr (inl l)) ih = absurd (not_none y (rows_in y.node ys) (sym (first_own y ys y.node refl) ∙ sym (e y.node) ∙ none_below x.node y.node (x ∷ xs) l (omega arith, a.1)))
    by (inr (inr n)) ih = same_list head (ih (subst (λ k. NodesAscend k ys) (sym n) b.1) rest)
      where
        both : x ∷ rows_in x.node xs ≡ y ∷ rows_in x.node ys
        both = sym (first_own x xs x.node refl) ∙ e x.node ∙ first_own y ys x.node (sym n)

        head : x ≡ y
        head = let b = both in cc

        cases : (m : ℕ) → (x.node ≡ m) ⊎ (x.node ≡ m → ⊥)
        cases m = go (order x.node m)
          where
            go : (x.node < m) ⊎ ((m < x.node) ⊎ (x.node ≡ m)) → (x.node ≡ m) ⊎ (x.node ≡ m → ⊥)
            go (inl l) = inr (λ e. absurd (omega (arith, l, e)))
            go (inr (inl l)) = inr (λ e. absurd (omega (arith, l, e)))
            go (inr (inr e)) = inl e

        here : rows_in x.node xs ≡ rows_in x.node ys
        here = let b = both in cc

        rest : (m : ℕ) → rows_in m xs ≡ rows_in m ys
        rest m = go (cases m)
          where
            go : (x.node ≡ m) ⊎ (x.node ≡ m → ⊥) → rows_in m xs ≡ rows_in m ys
            go (inl f) = subst (λ k. rows_in k xs ≡ rows_in k ys) f here
            go (inr ne) = sym (first_other x xs m ne) ∙ e m ∙ first_other y ys m (λ f. ne (n ∙ f))

shared_one : (net : List NodeDecl) (h : Held) (rows others : List Shared) → AreSharedNames net h rows → AreSharedNames net h others → rows ≡ others
shared_one net h rows others p q = rows_of_one 0 rows others p.ascend q.ascend each
  where
    each : (m : ℕ) → rows_in m rows ≡ rows_in m others
    each m = one_list_of_shared m (rows_in m rows) (rows_in m others) (of_node m rows) (of_node m others) (p.apart m) (q.apart m) (λ a g l. ((λ s. (q.exact m a g l).1 ((p.exact m a g l).0 s)), (λ s. (p.exact m a g l).1 ((q.exact m a g l).0 s))))

pub one_audit : OneAudit
one_audit net kinds bytes i r s a b =
    let size : r.bytes ≡ s.bytes = a.size ∙ sym b.size in
    let records : r.records ≡ s.records = a.records ∙ sym b.records in
    let views : r.views ≡ s.views = views_one net (image_records net kinds i) r.views s.views (a.viewers ∙ sym b.viewers) a.views b.views in
    let shut : r.shut ≡ s.shut = a.shut ∙ sym b.shut in
    let shared : r.shared ≡ s.shared = shared_one net (image_records net kinds i) r.shared s.shared a.shared b.shared in
    join r.bytes s.bytes r.records s.records r.views s.views r.shut s.shut r.shared s.shared size records views shut shared
  where
    join : (n n2 m m2 : ℕ) (v v2 : List Seen) (u u2 : List Shut) (w w2 : List Shared) → n ≡ n2 → m ≡ m2 → v ≡ v2 → u ≡ u2 → w ≡ w2 → ◌≡◌ {A = AuditReport} (record { bytes = n; records = m; views = v; shut = u; shared = w }) (record { bytes = n2; records = m2; views = v2; shut = u2; shared = w2 })
    join n n2 m m2 v v2 u u2 w w2 a b c d e = cc
