-- A report of an image tells what is written out by definitions alone.
use Rattle.std.proofs.Common.{◌≡◌, ℕ, zero, suc, ◌+◌, ◌<◌, ◌≤◌, ◌⊎◌, ◌↔◌, inl, inr, List, [], ◌∷◌, ◌++◌, map, length, refl, sym, ap, ◌∙◌, subst, arith}
use Rattle.std.specs.List.{flat_map, range_with_len}
use Rattle.dn_base.specs.Members.{Member}
use Rattle.dn_base.proofs.Orders.{cases_eq}
use Rattle.dn_interval.specs.declared.row.End.{End}
use Rattle.dn_interval.specs.declared.row.Row.{Row}
use Rattle.dn_interval.specs.declared.span.TheConstants.{TOP}
use Rattle.dn_interval.specs.Rows.{Ascending, GivenBy}
use Rattle.dn_interval.specs.Listed.{listed_rows, seen_view}
use Rattle.dn_interval.proofs.Listing.{normal_are_listed}
use Rattle.dn_interval.proofs.Membership.{in_from}
use Rattle.dn_net.specs.declared.node.Name.{Name}
use Rattle.dn_net.specs.declared.node.NodeDecl.{NodeDecl}
use Rattle.dn_net.specs.Decode.{is_accepted}
use Rattle.dn_net.proofs.Ascending.{end_names_ascend}
use Rattle.dn_net.proofs.Resolution.{end_names_are_ends}
use Rattle.dn_kind.specs.Tables.{Held, allowing, resolved_names_under, step_limit_under, steps_under}
use Rattle.dn_view.specs.Views.{AreViewed, ResolvesFromUnder}
use Rattle.dn_walk.proofs.Ends.{end_in, ends_ascend}
use Rattle.dn_walk.specs.Ends.{name_of_end}
use Rattle.dn_audit.specs.declared.report.Seen.{Seen}
use Rattle.dn_audit.specs.declared.report.Shared.{Shared}
use Rattle.dn_audit.specs.declared.report.Shut.{Shut}
use Rattle.dn_audit.specs.Audit.{AreSharedNames}
use Rattle.dn_audit.specs.Records.{image_records}
use Rattle.dn_audit.specs.Shared.{AreOfNode, AreSeveral, IsSharedWith, NodesAscend, StandApart, rows_in}
use Rattle.dn_audit.specs.Told.{ReportsAreTold, ToldAudit, ToldShared, ToldView, ends_under, if_several, names_of, seen_told, seers, shared_told, sharers, told_row, told_shared, told_shared_in, told_view}
use Rattle.dn_audit.specs.Views.{AreSeen, Sees, viewer_of, viewers}
use Rattle.dn_audit.proofs.AsRows.{apart_rows, ascending_names, gives, name_back, name_there, nodes_back, row_of_shared}
use Rattle.dn_audit.proofs.Joined.{AreBefore}
use Rattle.dn_audit.proofs.One.{first_other, first_own, none_below, of_node}
use Rattle.dn_audit.proofs.Seers.{seen_there, seers_rise, several_rise, sharer_in}

-- THE VIEWS

-- an end is listed at an address exactly where the address comes to it
pub resolved_end : (net : List NodeDecl) (h : Held) (agent a : ℕ) (y : End) → Member y (ends_under net h agent a) ↔ ResolvesFromUnder net h agent a y
resolved_end net h agent a y =
    let x : Name = record { node = agent; addr = a } in
    let listed = end_in (resolved_names_under net h x) (name_of_end y) in
    let law = end_names_are_ends (steps_under net h) (is_accepted net) step_limit_under x (name_of_end y) in
    ((λ m. law.0 (listed.0 m)), (λ r. listed.1 (law.1 r)))

-- the ends of an address ascend
pub ends_under_ascend : (net : List NodeDecl) (h : Held) (agent a : ℕ) → Ascending (ends_under net h agent a)
ends_under_ascend net h agent a =
    let x : Name = record { node = agent; addr = a } in
    ends_ascend (resolved_names_under net h x) (end_names_ascend (steps_under net h) (is_accepted net) step_limit_under x)

-- normal rows of what an agent sees are the listed ones
pub rows_listed : (net : List NodeDecl) (h : Held) (agent : ℕ) (rows : List Row) → AreViewed net h agent rows → map seen_view rows ≡ listed_rows (ends_under net h agent)
rows_listed net h agent rows normal =
    normal_are_listed (ends_under net h agent) (ends_under_ascend net h agent) rows (record {
      apart = normal.apart;
      exact = λ a y l. ((λ m. (normal.exact a y l).0 ((resolved_end net h agent a y).0 m)), (λ g. (resolved_end net h agent a y).1 ((normal.exact a y l).1 g)));
    })

same_told : {X : Type 0} {x y : X} {xs ys : List X} → x ≡ y → xs ≡ ys → x ∷ xs ≡ y ∷ ys
same_told p q = cc

views_told : (net : List NodeDecl) (h : Held) (views : List Seen) → AreSeen net h views → map seen_told views ≡ map (told_view net h) (map viewer_of views)
views_told net h [] seen = refl
views_told net h (s ∷ views) seen =
    let rows : map seen_view s.rows ≡ listed_rows (ends_under net (allowing s.access h) s.agent) = rows_listed net (allowing s.access h) s.agent s.rows seen.0 in
    let here : seen_told s ≡ told_view net h (viewer_of s) = ap (λ l. record { agent = s.agent; access = s.access; rows = l }) rows in
    same_told here (views_told net h views seen.1)

-- THE SHARED ADDRESSES OF A NODE

sharers_ascend : (net : List NodeDecl) (h : Held) (node a : ℕ) → Ascending (sharers net h node a)
sharers_ascend net h node a =
    let x : Name = record { node = node; addr = a } in
    ascending_names a (if_several (seers net h x)) (several_rise (seers net h x) (seers_rise net h x))

row_told : (node : ℕ) (rows : List Shared) → AreOfNode node rows → map (told_row node) (map seen_view (map row_of_shared rows)) ≡ map shared_told rows
row_told node [] at = refl
row_told node (r ∷ rows) at =
    let a : ◌≡◌ {A = ToldShared} (told_row node (seen_view (row_of_shared r))) (shared_told r) = ap (λ n. record { node = n; lo = r.span.lo; hi = r.span.hi; agents = map (λ (e : End). e.node) (names_of r.span.lo r.agents) }) (sym at.0) ∙ ap (λ (l : List ℕ). record { node = r.node; lo = r.span.lo; hi = r.span.hi; agents = l }) (nodes_back r.span.lo r.agents) in
    same_told a (row_told node rows at.1)

shared_in_told : (net : List NodeDecl) (h : Held) (rows : List Shared) (node : ℕ) → AreSharedNames net h rows → map shared_told (rows_in node rows) ≡ told_shared_in net h node
shared_in_told net h rows node names =
    sym (row_told node rs (of_node node rows))
    ∙ ap (map (told_row node)) (normal_are_listed (sharers net h node) (sharers_ascend net h node) (map row_of_shared rs) (record { apart = apart_rows 0 rs (names.apart node); exact = exact }))
  where
    rs : List Shared
    rs = rows_in node rows

    exact : (a : ℕ) (y : End) → a ≤ TOP → Member y (sharers net h node a) ↔ GivenBy (map row_of_shared rs) a y
    exact a y l =
        let x : Name = record { node = node; addr = a } in
        let agents : List ℕ = if_several (seers net h x) in
        let listed = sharer_in net h x y.node in
        let given = gives rs a y in
        let shown = names.exact node a y.node l in (
          (λ m. let n = name_there a agents y m in given.1 (n.0, shown.1 (listed.0 n.1))),
          (λ g. let n = given.0 g in subst (λ (t : End). Member t (names_of a agents)) (ap (λ b. record { node = y.node; base = b }) (sym n.0)) (name_back a agents y.node (listed.1 (shown.0 n.1)))),
        )

-- THOSE OF ALL NODES

-- a row that stands in a list of rows gives its first address to each of its agents
given_to : (rows : List Shared) (r : Shared) (g : ℕ) → Member r rows → Member g r.agents → IsSharedWith rows r.span.lo g
given_to [] r g m k = absurd m
given_to (s ∷ rows) r g (inl e) k =
    let low : s.span.lo ≤ s.span.hi = s.span.ordered in
    let here : IsSharedWith (s ∷ rows) s.span.lo g = inl (in_from s.span s.span.lo (omega arith) low, subst (λ (t : Shared). Member g t.agents) (sym e) k) in
    subst (λ (t : Shared). IsSharedWith (s ∷ rows) t.span.lo g) e here
given_to (s ∷ rows) r g (inr m) k = inr (given_to rows r g m k)

some_agent : (from : ℕ) (rows : List Shared) (r : Shared) → StandApart from rows → Member r rows → (g : ℕ) × Member g r.agents
some_agent from [] r apart m = absurd m
some_agent from (s ∷ rows) r apart (inl e) = subst (λ (t : Shared). (g : ℕ) × Member g t.agents) e (head s.agents apart.1)
  where
    head : (agents : List ℕ) → AreSeveral agents → (g : ℕ) × Member g agents
    head [] several = absurd several
    head (n ∷ ns) several = (n, inl refl)
some_agent from (s ∷ rows) r apart (inr m) = some_agent (suc s.span.hi) rows r apart.4 m

row_in : (rows : List Shared) (r : Shared) → Member r rows → Member r (rows_in r.node rows)
row_in [] r m = m
row_in (s ∷ rows) r (inl e) = subst (λ l. Member r l) (sym (first_own s rows r.node (ap (λ (t : Shared). t.node) e))) (inl e)
row_in (s ∷ rows) r (inr m) = by (cases_eq s.node r.node) (row_in rows r m)
  where
    by : (s.node ≡ r.node) ⊎ (s.node ≡ r.node → ⊥) → Member r (rows_in r.node rows) → Member r (rows_in r.node (s ∷ rows))
    by (inl e) ih = subst (λ l. Member r l) (sym (first_own s rows r.node e)) (inr ih)
    by (inr ne) ih = subst (λ l. Member r l) (sym (first_other s rows r.node ne)) ih

before_each : (count : ℕ) (rows : List Shared) → ((r : Shared) → Member r rows → r.node < count) → AreBefore count rows
before_each count [] each = tt
before_each count (r ∷ rows) each = (each r (inl refl), before_each count rows (λ s m. each s (inr m)))

-- each agent of a row sees the row's first address
pub agent_sees : (net : List NodeDecl) (h : Held) (rows : List Shared) (r : Shared) (g : ℕ) → AreSharedNames net h rows → Member r rows → Member g r.agents → Sees net h g (record { node = r.node; addr = r.span.lo })
agent_sees net h rows r g names m k =
    let low : r.span.lo ≤ r.span.hi = r.span.ordered in
    let top : r.span.hi ≤ TOP = r.span.within in
    ((names.exact r.node r.span.lo g (omega (arith, low, top))).0 (given_to (rows_in r.node rows) r g (row_in rows r m) k)).0

-- each row is of a node that is there
pub row_there : (net : List NodeDecl) (h : Held) (rows : List Shared) (r : Shared) → AreSharedNames net h rows → Member r rows → r.node < length net
row_there net h rows r names m =
    let g = some_agent 0 (rows_in r.node rows) r (names.apart r.node) (row_in rows r m) in
    seen_there net h g.0 (record { node = r.node; addr = r.span.lo }) (agent_sees net h rows r g.0 names m g.1)

-- rows that ascend, without those of the first node
record Later (count node : ℕ) (rows : List Shared) : Type 0 where
  rest : List Shared
  whole : rows ≡ rows_in node rows ++ rest
  ascend : NodesAscend (suc node) rest
  before : AreBefore count rest
  same : (m : ℕ) → node < m → rows_in m rows ≡ rows_in m rest

chop : (count node : ℕ) (rows : List Shared) → NodesAscend node rows → AreBefore count rows → Later count node rows
chop count node [] a b = record { rest = []; whole = refl; ascend = tt; before = tt; same = λ m l. refl }
chop count node (r ∷ rows) a b = by (cases node r.node a.0) (chop count node rows)
  where
    cases : (n m : ℕ) → n ≤ m → (m ≡ n) ⊎ (n < m)
    cases n m l = grind arith

    by : (r.node ≡ node) ⊎ (node < r.node) → (NodesAscend node rows → AreBefore count rows → Later count node rows) → Later count node (r ∷ rows)
    by (inl e) ih =
        let v = ih (subst (λ n. NodesAscend n rows) e a.1) b.1 in
        record {
          rest = v.rest;
          whole = ap (λ (l : List Shared). r ∷ l) v.whole ∙ ap (λ (l : List Shared). l ++ v.rest) (sym (first_own r rows node e));
          ascend = v.ascend;
          before = v.before;
          same = λ m l. first_other r rows m (λ f. absurd (omega (arith, e, f, l))) ∙ v.same m l;
        }
    by (inr l) ih = record {
      rest = r ∷ rows;
      whole = ap (λ (k : List Shared). k ++ r ∷ rows) (sym (none_below r.node node (r ∷ rows) l (omega arith, a.1)));
      ascend = (l, a.1);
      before = b;
      same = λ m k. refl;
    }

-- two functions that agree from a number on
same_pieces : {X : Type 0} (f g : ℕ → List X) (a k : ℕ) → ((n : ℕ) → a ≤ n → f n ≡ g n) → flat_map f (range_with_len a k) ≡ flat_map g (range_with_len a k)
same_pieces f g a zero e = refl
same_pieces {X} f g a (suc k) e = ap (λ (l : List X). l ++ flat_map f (range_with_len (a + 1) k)) (e a (omega arith)) ∙ ap (λ (l : List X). g a ++ l) (same_pieces f g (a + 1) k (λ n l. e n (omega (arith, l))))

-- rows that ascend are those of each node, one node after another
joined_rows : (k node : ℕ) (rows : List Shared) → NodesAscend node rows → AreBefore (node + k) rows → flat_map (λ m. rows_in m rows) (range_with_len node k) ≡ rows
joined_rows zero node [] a b = refl
joined_rows zero node (r ∷ rows) a b = let l = a.0 in let u = b.0 in absurd (omega (arith, l, u))
joined_rows (suc k) node rows a b =
    let v = chop (node + suc k) node rows a b in
    let n : suc node ≡ node + 1 = omega arith in
    let m : node + suc k ≡ (node + 1) + k = omega arith in
    let ih : flat_map (λ m. rows_in m v.rest) (range_with_len (node + 1) k) ≡ v.rest = joined_rows k (node + 1) v.rest (subst (λ q. NodesAscend q v.rest) n v.ascend) (subst (λ q. AreBefore q v.rest) m v.before) in
    ap (λ (l : List Shared). rows_in node rows ++ l) (same_pieces (λ m. rows_in m rows) (λ m. rows_in m v.rest) (node + 1) k (λ m l. v.same m (omega (arith, l))) ∙ ih)
    ∙ sym v.whole

told_pieces : (f : ℕ → List Shared) (ns : List ℕ) → map shared_told (flat_map f ns) ≡ flat_map (λ n. map shared_told (f n)) ns
told_pieces f [] = refl
told_pieces f (n ∷ ns) = map_joined (f n) (flat_map f ns) ∙ ap (λ (l : List ToldShared). map shared_told (f n) ++ l) (told_pieces f ns)
  where
    map_joined : (xs ys : List Shared) → map shared_told (xs ++ ys) ≡ map shared_told xs ++ map shared_told ys
    map_joined [] ys = refl
    map_joined (x ∷ xs) ys = ap (λ (l : List ToldShared). shared_told x ∷ l) (map_joined xs ys)

shared_is_told : (net : List NodeDecl) (h : Held) (rows : List Shared) → AreSharedNames net h rows → map shared_told rows ≡ told_shared net h
shared_is_told net h rows names =
    let z : 0 + length net ≡ length net = omega arith in
    ap (map shared_told) (sym (joined_rows (length net) 0 rows names.ascend (subst (λ q. AreBefore q rows) (sym z) (before_each (length net) rows (λ r m. row_there net h rows r names m)))))
    ∙ told_pieces (λ m. rows_in m rows) (range_with_len 0 (length net))
    ∙ same_pieces (λ m. map shared_told (rows_in m rows)) (told_shared_in net h) 0 (length net) (λ m l. shared_in_told net h rows m names)

-- THE REPORT

pub reports_are_told : ReportsAreTold
reports_are_told net kinds bytes i r a =
    let h : Held = image_records net kinds i in
    let views : map seen_told r.views ≡ map (told_view net h) (viewers 0 net) = views_told net h r.views a.views ∙ ap (map (told_view net h)) a.viewers in
    let shared : map shared_told r.shared ≡ told_shared net h = shared_is_told net h r.shared a.shared in
    join r.bytes (length bytes) r.records _ (map seen_told r.views) _ r.shut _ (map shared_told r.shared) _ a.size a.records views a.shut shared
  where
    join : (n n2 m m2 : ℕ) (v v2 : List ToldView) (u u2 : List Shut) (w w2 : List ToldShared) → n ≡ n2 → m ≡ m2 → v ≡ v2 → u ≡ u2 → w ≡ w2 → ◌≡◌ {A = ToldAudit} (record { bytes = n; records = m; views = v; shut = u; shared = w }) (record { bytes = n2; records = m2; views = v2; shut = u2; shared = w2 })
    join n n2 m m2 v v2 u u2 w w2 a b c d e = cc
