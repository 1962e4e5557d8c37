-- Marks as they are made.
use Rattle.std.proofs.Common.{◌≡◌, ℕ, zero, suc, ◌+◌, ◌-◌, ◌<◌, ◌≤◌, ◌⊎◌, inl, inr, Bool, true, false, ◌||◌, nat_eq, List, [], ◌∷◌, ◌++◌, length, map, take, drop, get_or, slice_get, Option, Some, None, refl, sym, ap, ◌∙◌, subst, arith, IsTrue, add-one, eqb-true}
use Rattle.std.specs.List.{Contains, list_any}
use Rattle.std.proofs.lemmas.Bool.{cases_lt, cases_order, false≢true, or_cases, or_left}
use Rattle.std.proofs.lemmas.Option.{slice_get_within, slice_get-get_or, get_or_from_slice_get}
use Rattle.std.proofs.Math.Seq.{drop-cons}
use Rattle.std.proofs.Math.ListN.{drop_of_length-le}
use Rattle.std.proofs.lemmas.List.{take_all}
use Rattle.dn_view.proofs.Pages.{power_below}
use Rattle.dn_interval.specs.declared.row.End.{End}
use Rattle.dn_interval.specs.declared.row.Row.{Row}
use Rattle.dn_interval.specs.Rows.{Member, further_end, Apart, HasEnds, GivenBy}
use Rattle.dn_interval.specs.Spans.{in_span}
use Rattle.dn_net.specs.declared.node.Name.{Name}
use Rattle.dn_net.specs.declared.node.NodeDecl.{NodeDecl}
use Rattle.dn_net.specs.Decode.{top, unit_at, StopsAt}
use Rattle.dn_flat.specs.declared.levels.Levels.{Levels}
use Rattle.dn_flat.specs.Levels.{IsLevels, is_among, levels_give}
use Rattle.dn_tables.specs.declared.placement.Hop.{Hop}
use Rattle.dn_place.specs.Sought.{HasUnitBounds, IsSearchReady, ReachOneStop, Sought}
use Rattle.dn_net.specs.declared.node.Unit.{Unit as UnitPart}
use Rattle.dn_placement.specs.Placement.{Leads, Meets}
use Rattle.dn_walk.specs.Ends.{end_of, name_of_end}
use Rattle.dn_place.specs.Marks.{is_marked, mark_at, AreMarked, AreUnitsFrom, IsEntry, Keeps, MarkedBefore, Marks, MarksAfter, MarksAll, MarksListed}
use Rattle.dn_place.proofs.Pages.{unit_there}

-- each node of a list is marked, or is one of the rest
abbrev pub ListedLeft : List ℕ → List ℕ → List Bool → Type 0
ListedLeft nodes rest marks = (n : ℕ) → is_among n nodes ≡ true → n < length marks → (is_marked marks n ≡ true) ⊎ (is_among n rest ≡ true)

pub listed_begun : (nodes : List ℕ) (marks : List Bool) → ListedLeft nodes nodes marks
listed_begun nodes marks = λ n e l. inr e

-- one more node that is marked, or is none
pub listed_on : (nodes : List ℕ) (i : ℕ) (old new : List Bool) → i < length nodes → length new ≡ length old → Keeps old new → (get_or nodes i 0 < length new → is_marked new (get_or nodes i 0) ≡ true) → ListedLeft nodes (drop i nodes) old → ListedLeft nodes (drop (i + 1) nodes) new
listed_on nodes i old new l same keeps here left = λ n e k. go n k (left n e (omega (arith, k, same)))
  where
    taken : drop i nodes ≡ get_or nodes i 0 ∷ drop (i + 1) nodes
    taken = drop-cons nodes i 0 l ∙ ap (λ n. get_or nodes i 0 ∷ drop n nodes) (sym (add-one i))

    go : (n : ℕ) → n < length new → (is_marked old n ≡ true) ⊎ (is_among n (drop i nodes) ≡ true) → (is_marked new n ≡ true) ⊎ (is_among n (drop (i + 1) nodes) ≡ true)
    go n k (inl m) = inl (keeps n m)
    go n k (inr e) = by (or_cases (nat_eq (get_or nodes i 0) n) (is_among n (drop (i + 1) nodes)) (sym (ap (is_among n) taken) ∙ e))
      where
        by : (nat_eq (get_or nodes i 0) n ≡ true) ⊎ (is_among n (drop (i + 1) nodes) ≡ true) → (is_marked new n ≡ true) ⊎ (is_among n (drop (i + 1) nodes) ≡ true)
        by (inl q) = let at : get_or nodes i 0 ≡ n = eqb-true (get_or nodes i 0) n q in inl (subst (λ (x : ℕ). is_marked new x ≡ true) at (here (omega (arith, at, k))))
        by (inr q) = inr q

pub listed_done : (nodes : List ℕ) (i : ℕ) (marks : List Bool) → length nodes ≤ i → ListedLeft nodes (drop i nodes) marks → MarksListed nodes marks
listed_done nodes i marks l left = λ n e k. go n (left n e k)
  where
    go : (n : ℕ) → (is_marked marks n ≡ true) ⊎ (is_among n (drop i nodes) ≡ true) → is_marked marks n ≡ true
    go n (inl m) = m
    go n (inr e) = absurd (false≢true (sym (ap (is_among n) (drop_of_length-le nodes l)) ∙ e))

-- the units of a node's stops are what the node leads to
pub stops_mark : (net : List NodeDecl) (n : ℕ) (levels : Levels) (marks : List Bool) → IsLevels net n levels → MarksListed levels.units marks → Marks net n marks
stops_mark net n levels marks f m = λ a z l s k. m z.node (f.units a (end_of z) l ((f.stops a (end_of z) l).1 s)) k

pub marks_kept : (net : List NodeDecl) (n : ℕ) (old new : List Bool) → length old ≡ length new → Keeps old new → Marks net n old → Marks net n new
marks_kept net n old new same keeps m = λ a z l s k. keeps z.node (m a z l s (omega arith))

pub marks_all : (net : List NodeDecl) (n : ℕ) (marks : List Bool) → length marks ≡ length net → Marks net n marks → MarksAll net n marks
marks_all net n marks long m = λ a z l s k. m a z l s (omega arith)

-- the next hop of a placement stands in a marked unit
pub marked_hop : (s : Sought) (first second third : List Bool) (v : ℕ) (before : List Hop) (hop : Hop) (chosen : List Hop) → IsSearchReady s → v + s.request.size ≤ top + 1 → AreMarked s.net s.request.agent first second third → Meets s.net s.request s.request.agent v (before ++ (hop ∷ chosen)) → Leads s.net s.slots s.request (before ++ (hop ∷ chosen)) → length before ≤ 2 → mark_at first second third (suc (length before)) hop.unit ≡ true
marked_hop s first second third v [] hop chosen ready fits m meets leads l = let some = ready.some in m.firsts (v + 0) (record { node = hop.unit; addr = hop.x + 0 }) (omega arith) (meets 0 some) (unit_there s.net hop.unit leads.0.unit leads.0.is_unit)
marked_hop s first second third v (a ∷ []) hop chosen ready fits m meets leads l = let some = ready.some in m.seconds a.unit a.port leads.0.fits.node leads.0.unit one leads.0.is_unit leads.0.fits.is_port (a.y + 0) (record { node = hop.unit; addr = hop.x + 0 }) (omega (arith, leads.0.fits.reached, power_below leads.0.unit.reach (ready.bounds a.unit leads.0.unit leads.0.is_unit).reach)) (leads.0.meets 0 some) (unit_there s.net hop.unit leads.1.0.unit leads.1.0.is_unit)
  where
    one : is_marked first a.unit ≡ true
    one = let some = ready.some in m.firsts (v + 0) (record { node = a.unit; addr = a.x + 0 }) (omega arith) (meets 0 some) (unit_there s.net a.unit leads.0.unit leads.0.is_unit)
marked_hop s first second third v (a ∷ b ∷ []) hop chosen ready fits m meets leads l = let some = ready.some in m.thirds b.unit b.port leads.1.0.fits.node leads.1.0.unit two leads.1.0.is_unit leads.1.0.fits.is_port (b.y + 0) (record { node = hop.unit; addr = hop.x + 0 }) (omega (arith, leads.1.0.fits.reached, power_below leads.1.0.unit.reach (ready.bounds b.unit leads.1.0.unit leads.1.0.is_unit).reach)) (leads.1.0.meets 0 some) (unit_there s.net hop.unit leads.1.1.0.unit leads.1.1.0.is_unit)
  where
    one : is_marked first a.unit ≡ true
    one = let some = ready.some in m.firsts (v + 0) (record { node = a.unit; addr = a.x + 0 }) (omega arith) (meets 0 some) (unit_there s.net a.unit leads.0.unit leads.0.is_unit)

    two : is_marked second b.unit ≡ true
    two = let some = ready.some in m.seconds a.unit a.port leads.0.fits.node leads.0.unit one leads.0.is_unit leads.0.fits.is_port (a.y + 0) (record { node = b.unit; addr = b.x + 0 }) (omega (arith, leads.0.fits.reached, power_below leads.0.unit.reach (ready.bounds a.unit leads.0.unit leads.0.is_unit).reach)) (leads.0.meets 0 some) (unit_there s.net b.unit leads.1.0.unit leads.1.0.is_unit)
marked_hop s first second third v (a ∷ b ∷ c ∷ d) hop chosen ready fits m meets leads l = absurd (omega arith)

-- all ports of the unit are marked
pub ports_marked : (net : List NodeDecl) (items : List ℕ) (t u : UnitPart) (i k n : ℕ) (marks : List Bool) (x : Option UnitPart) → x ≡ Some t → x ≡ Some u → items ≡ t.ports → length items ≤ i → slice_get u.ports k ≡ Some n → ((k : ℕ) → k < i → Marks net (get_or items k 0) marks) → Marks net n marks
ports_marked net items t u i k n marks x e f p l g done = subst (λ (m : ℕ). Marks net m marks) (get_or_from_slice_get items k n 0 read) (done k (let w = slice_get_within items k n read in omega arith))
  where
    some : (a b : UnitPart) → Some a ≡ Some b → a ≡ b
    some a b q = cc

    read : slice_get items k ≡ Some n
    read = ap (λ (m : List ℕ). slice_get m k) (p ∙ ap (λ (m : UnitPart). m.ports) (some t u (sym e ∙ f))) ∙ g

-- the node of a port is there
pub port_there : (net : List NodeDecl) (u : UnitPart) (items : List ℕ) (i : ℕ) → HasUnitBounds net u → items ≡ u.ports → i < length items → get_or items i 0 < length net
port_there net u items i f e l = f.there i (get_or items i 0) (ap (λ (m : List ℕ). slice_get m i) (sym e) ∙ slice_get-get_or items i 0 l)

-- marks after one more unit of a list
pub before_on : (net : List NodeDecl) (from : List Bool) (units : List ℕ) (i : ℕ) (old new : List Bool) → length new ≡ length old → Keeps old new → (is_marked from (get_or units i 0) ≡ true → (k n : ℕ) (u : UnitPart) → unit_at net (get_or units i 0) ≡ Some u → slice_get u.ports k ≡ Some n → Marks net n new) → MarkedBefore net from units i old → MarkedBefore net from units (i + 1) new
before_on net from units i old new same keeps here done = λ j w k n u l at m e p. go j w k n u at m e p l (cases_lt j i)
  where
    go : (j w k n : ℕ) (u : UnitPart) → w ≡ get_or units j 0 → is_marked from w ≡ true → unit_at net w ≡ Some u → slice_get u.ports k ≡ Some n → j < i + 1 → (j < i) ⊎ (i ≤ j) → Marks net n new
    go j w k n u at m e p l (inl b) = marks_kept net n old new (sym same) keeps (done j w k n u b at m e p)
    go j w k n u at m e p l (inr b) = let q : w ≡ get_or units i 0 = at ∙ ap (λ x. get_or units x 0) (omega arith) in here (subst (λ (x : ℕ). is_marked from x ≡ true) q m) k n u (subst (λ (x : ℕ). unit_at net x ≡ Some u) q e) p

pub before_all : (net : List NodeDecl) (from : List Bool) (units : List ℕ) (i : ℕ) (marks : List Bool) → length units ≤ i → MarkedBefore net from units i marks → MarkedBefore net from units (length units) marks
before_all net from units i marks l done = λ j w k n u b. done j w k n u (omega arith)

-- a unit has a place in the list of all
unit_listed : (net : List NodeDecl) (bound : ℕ) (units : List ℕ) → AreUnitsFrom net bound units → (n : ℕ) (u : UnitPart) → bound ≤ n → unit_at net n ≡ Some u → (i : ℕ) × (i < length units) × (n ≡ get_or units i 0)
unit_listed net bound [] are n u l is = absurd (are n u l is)
unit_listed net bound (m ∷ rest) are n u l is = by (cases_order n m) (λ k. unit_listed net (suc m) rest are.2 n u k is)
  where
    by : (n ≡ m) ⊎ ((n < m) ⊎ (m < n)) → (suc m ≤ n → (i : ℕ) × (i < length rest) × (n ≡ get_or rest i 0)) → (i : ℕ) × (i < suc (length rest)) × (n ≡ get_or (m ∷ rest) i 0)
    by (inl e) later = (0, omega arith, e)
    by (inr (inl k)) later = absurd (are.1 n u l k is)
    by (inr (inr k)) later = let r = later (omega (arith, k)) in (suc r.0, (let s = r.1 in omega arith), r.2)

pub after_all : (net : List NodeDecl) (from : List Bool) (units : List ℕ) (marks : List Bool) → AreUnitsFrom net 0 units → length marks ≡ length net → MarkedBefore net from units (length units) marks → MarksAfter net from marks
after_all net from units marks are long done = λ w k n u m e p. marks_all net n marks long (let at = unit_listed net 0 units are w u (omega arith) e in done at.0 w k n u at.1 at.2 m e p)

-- a list of the same length, written back
pub written_back : (new old : List Bool) (len : ℕ) → length new ≡ length old → length old ≡ len → take len (new ++ drop (length new) old) ≡ new
written_back new old len e f = ap (λ l. take len (new ++ l)) (drop_of_length-le old (omega arith)) ∙ ap (take len) (nil new) ∙ take_all len new (omega arith)
  where
    nil : (xs : List Bool) → xs ++ [] ≡ xs
    nil [] = refl
    nil (x ∷ xs) = ap (λ l. x ∷ l) (nil xs)

-- a name that a row of the rows gives is given by the rows
given_at : (rows : List Row) (i : ℕ) (r : Row) (a : ℕ) (z : End) → i < length rows → get_or rows i r ≡ r → IsTrue (in_span r.span a) → Member z (map (further_end (a - r.span.lo)) r.ends) → GivenBy rows a z
given_at [] i r a z l g w m = absurd (omega arith)
given_at (q ∷ rows) zero r a z l g w m = inl (subst (λ (x : Row). (IsTrue (in_span x.span a)) × Member z (map (further_end (a - x.span.lo)) x.ends)) (sym g) (w, m))
given_at (q ∷ rows) (suc i) r a z l g w m = inr (given_at rows i r a z (omega arith) g w m)

pub given_there : (rows : List Row) (r : Row) (a : ℕ) (z : End) → Contains rows r → IsTrue (in_span r.span a) → Member z (map (further_end (a - r.span.lo)) r.ends) → GivenBy rows a z
given_there rows r a z c w m = given_at rows c.0 r a z c.1 c.2 w m

-- a row of the rows has a name
named_at : (from : ℕ) (rows : List Row) (i : ℕ) (r : Row) → Apart from rows → i < length rows → get_or rows i r ≡ r → HasEnds r.ends
named_at from [] i r p l g = absurd (omega arith)
named_at from (q ∷ rows) zero r p l g = subst (λ (x : Row). HasEnds x.ends) g p.1
named_at from (q ∷ rows) (suc i) r p l g = named_at (suc q.span.hi) rows i r p.4 (omega arith) g

pub named : (rows : List Row) (r : Row) → Apart 0 rows → Contains rows r → HasEnds r.ends
named rows r p c = named_at 0 rows c.0 r p c.1 c.2

-- rows that have no address give it no name
pub none_given : (rows : List Row) (a : ℕ) (z : End) → list_any (λ (r : Row). in_span r.span a) rows ≡ false → GivenBy rows a z → ⊥
none_given [] a z e g = g
none_given (r ∷ rows) a z e (inl g) = false≢true (sym e ∙ or_left (in_span r.span a) (list_any (λ (q : Row). in_span q.span a) rows) g.0)
none_given (r ∷ rows) a z e (inr g) = none_given rows a z (rest (in_span r.span a) (list_any (λ (q : Row). in_span q.span a) rows) e) g
  where
    rest : (x y : Bool) → (x || y) ≡ false → y ≡ false
    rest true y p = absurd (false≢true (sym p))
    rest false y p = p

-- the entry is the one stop of the address
pub entry_is : (net : List NodeDecl) (agent : ℕ) (levels : Levels) (entry : Option End) (at : ℕ) → ReachOneStop net → IsLevels net agent levels → ((z : End) → entry ≡ Some z → levels_give levels.stops at z ≡ true) → (entry ≡ None → (z : End) → levels_give levels.stops at z ≡ true → ⊥) → IsEntry net agent (Some at) entry
entry_is net agent levels entry at one f given none = record { reached = λ v z e l stops. reached v z e l stops; unasked = λ e. never e }
  where
    some : (a b : ℕ) → Some a ≡ Some b → a ≡ b
    some a b q = cc

    never : Some at ≡ None → entry ≡ None
    never e = cc

    reached : (v : ℕ) (z : Name) → Some at ≡ Some v → v ≤ top → StopsAt net (record { node = agent; addr = v }) z → entry ≡ Some (record { node = z.node; base = z.addr })
    reached v z e l stops = go entry refl
      where
        same : v ≡ at
        same = some v at (sym e)

        stop : StopsAt net (record { node = agent; addr = at }) z
        stop = subst (λ (n : ℕ). StopsAt net (record { node = agent; addr = n }) z) same stops

        low : at ≤ top
        low = let p : v ≡ at = same in omega (arith, l)

        go : (o : Option End) → entry ≡ o → o ≡ Some (end_of z)
        go None p = absurd (none p (end_of z) ((f.stops at (end_of z) low).1 stop))
        go (Some y) p = ap (λ (x : Name). Some (end_of x)) (one (record { node = agent; addr = at }) (name_of_end y) z ((f.stops at y low).0 (given y p)) stop)

-- where no address is asked for there is none
pub no_entry : (net : List NodeDecl) (agent : ℕ) → IsEntry net agent None None
no_entry net agent = record { reached = λ v z e l stops. never v z e; unasked = λ e. refl }
  where
    never : (v : ℕ) (z : Name) → ◌≡◌ {A = Option ℕ} None (Some v) → ◌≡◌ {A = Option End} None (Some (record { node = z.node; base = z.addr }))
    never v z e = cc
