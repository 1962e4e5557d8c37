-- The outputs of a port that lead to what comes next, row by row.
use Rattle.std.proofs.Common.{◌≡◌, ℕ, suc, ◌+◌, ◌^◌, ◌<◌, ◌≤◌, ◌⊎◌, inl, inr, Bool, true, false, ◌&&◌, ◌||◌, nat_eq, List, [], ◌∷◌, ◌++◌, length, slice_get, Some, None, refl, sym, ap, ◌∙◌, subst, arith, eq-eqb}
use Rattle.std.specs.List.{All}
use Rattle.std.specs.List.Sorted.{IsPermutation}
use Rattle.std.proofs.lemmas.Bool.{cases_lt, cases_order, or_left, or_right}
use Rattle.std.proofs.lemmas.List.Elements.{All-head, All-nil, All-push, All-tail, All-weaker}
use Rattle.std.proofs.lemmas.List.Folds.{list_any-append}
use Rattle.std.proofs.lemmas.List.Sorted.{All-permutation, list_any-IsPermutation}
use Rattle.std.proofs.lemmas.Option.{same_Some, slice_get_within}
use Rattle.dn_interval.specs.declared.row.End.{End}
use Rattle.dn_interval.specs.declared.row.Row.{Row}
use Rattle.dn_interval.specs.Rows.{further_end, Apart}
use Rattle.dn_interval.proofs.Normal.{behind_first}
use Rattle.dn_net.specs.declared.node.NodeDecl.{NodeDecl}
use Rattle.dn_net.specs.declared.node.Unit.{Unit as UnitPart}
use Rattle.dn_net.specs.Decode.{top}
use Rattle.dn_tables.specs.declared.placement.Hop.{Hop}
use Rattle.dn_placement.specs.declared.request.Request.{Request}
use Rattle.dn_placement.specs.Placement.{Meets}
use Rattle.dn_view.proofs.Pages.{power_below}
use Rattle.dn_place.specs.declared.exits.Exit.{Exit}
use Rattle.dn_place.specs.Exits.{AreExitsTo, AreOutputs, Ascend, IsAloneBefore, IsExit, IsLone, IsOutput, IsRankedExit, IsRankedOutput, IsSooner, Passing, exit_rank, has_exit}
use Rattle.dn_place.specs.Rows.{AreToward, GivesOnly, InRow, IsClear, wanted_name}
use Rattle.dn_place.specs.Sought.{HasUnitBounds, ReachOneStop, Sought, nothing_sought}
use Rattle.dn_place.proofs.Meetings.{gives_meets, meets_gives, row_gives, unclear}
use Rattle.dn_place.proofs.Stretches.{in_head}
use Rattle.dn_place.proofs.Walks.{one_in_row}

-- a request on a net, with no slots
abbrev pub bare : List NodeDecl → Request → Sought
bare net rq = record { net = net; slots = nothing_sought.slots; request = rq; at = None }

-- outputs in order

-- one more output, after all others
pub ascend_more : (es : List Exit) (e : Exit) → All (λ (x : Exit). IsSooner x.port x.y e.port e.y) es → Ascend es → Ascend (es ++ e ∷ [])
ascend_more [] e a o = (All-nil (λ (x : Exit). IsSooner e.port e.y x.port x.y), tt)
ascend_more (d ∷ es) e a o = (All-push (λ (x : Exit). IsSooner d.port d.y x.port x.y) es e o.0 (All-head (λ (x : Exit). IsSooner x.port x.y e.port e.y) d es a), ascend_more es e (All-tail (λ (x : Exit). IsSooner x.port x.y e.port e.y) d es a) o.1)

-- an output ends by the last address
exit_fits : (net : List NodeDecl) (u : UnitPart) (rq : Request) (nearer : List Hop) (port y : ℕ) → HasUnitBounds net u → IsOutput net u rq nearer port y → y + rq.size ≤ top + 1
exit_fits net u rq nearer port y bounds e = omega (arith, e.reached, power_below u.reach bounds.reach)

pub pass_begun : (net : List NodeDecl) (u : UnitPart) (rq : Request) (nearer : List Hop) (port node : ℕ) (rows : List Row) (exits : List Exit) → HasUnitBounds net u → ReachOneStop net → slice_get u.ports port ≡ Some node → AreToward net rq nearer node rows → AreExitsTo net u rq nearer port exits → Passing net u rq nearer port rows rows exits
pass_begun net u rq nearer port node rows exits bounds one is toward listed = record {
  bound = 0;
  apart = toward.apart;
  holds = λ a z l. ((λ g. g), (λ g. g));
  each = listed.each;
  order = listed.order;
  lower = All-weaker (λ (e : Exit). e.port < port) (λ (e : Exit). IsSooner e.port e.y port 0) (λ e l. inl l) exits listed.lower;
  before = listed.all;
  left = λ y e alone. inr (meets_gives (bare net rq) node y nearer rows toward one (exit_fits net u rq nearer port y bounds e) (subst (λ (n : ℕ). Meets net rq n y nearer) (same_Some e.node node (sym e.is_port ∙ is)) e.meets));
}

-- behind the first of the rows
rest_gives : (r : Row) (rest : List Row) (t : End) (size y : ℕ) → r.span.hi < y → GivesOnly (r ∷ rest) t size y → GivesOnly rest t size y
rest_gives r rest t size y l g = λ i m z. ((λ x. (g i m z).0 (inr x)), (λ x. behind_first r rest (y + i) z (omega arith) ((g i m z).1 x)))

-- an output that the first of the rows has, or the rest of them
split : (net : List NodeDecl) (u : UnitPart) (rq : Request) (nearer : List Hop) (port : ℕ) (rows : List Row) (r : Row) (rest : List Row) (exits : List Exit) → 1 ≤ rq.size → (p : Passing net u rq nearer port rows (r ∷ rest) exits) → (y : ℕ) → IsOutput net u rq nearer port y → IsAloneBefore net u rq nearer port y → ((has_exit port y exits ≡ true) ⊎ InRow r (wanted_name rq nearer) rq.size y) ⊎ GivesOnly rest (wanted_name rq nearer) rq.size y
split net u rq nearer port rows r rest exits some p y e alone = by (p.left y e alone)
  where
    at : GivesOnly (r ∷ rest) (wanted_name rq nearer) rq.size y → (r.span.hi < y) ⊎ (y ≤ r.span.hi) → ((has_exit port y exits ≡ true) ⊎ InRow r (wanted_name rq nearer) rq.size y) ⊎ GivesOnly rest (wanted_name rq nearer) rq.size y
    at g (inl l) = inr (rest_gives r rest (wanted_name rq nearer) rq.size y l g)
    at g (inr l) = inl (inr (in_head p.bound r rest (wanted_name rq nearer) rq.size y p.apart some l g))

    by : (has_exit port y exits ≡ true) ⊎ GivesOnly (r ∷ rest) (wanted_name rq nearer) rq.size y → ((has_exit port y exits ≡ true) ⊎ InRow r (wanted_name rq nearer) rq.size y) ⊎ GivesOnly rest (wanted_name rq nearer) rq.size y
    by (inl h) = inl (inl h)
    by (inr g) = at g (cases_lt r.span.hi y)

past : (r : Row) (rest : List Row) (bound a : ℕ) → Apart bound (r ∷ rest) → suc r.span.hi ≤ a → bound ≤ a
past r rest bound a apart l = let f : bound ≤ r.span.lo = apart.0 in let o : r.span.lo ≤ r.span.hi = r.span.ordered in omega arith

-- outputs before a bound are before a later one
raised : (es : List Exit) (port bound to : ℕ) → bound ≤ to → All (λ (e : Exit). IsSooner e.port e.y port bound) es → All (λ (e : Exit). IsSooner e.port e.y port to) es
raised es port bound to l a = All-weaker (λ (e : Exit). IsSooner e.port e.y port bound) (λ (e : Exit). IsSooner e.port e.y port to) up es a
  where
    up : (e : Exit) → IsSooner e.port e.y port bound → IsSooner e.port e.y port to
    up e (inl m) = inl m
    up e (inr m) = let k : e.y < bound = m.1 in inr (m.0, omega arith)

to_end : (r : Row) (rest : List Row) (bound : ℕ) → Apart bound (r ∷ rest) → bound ≤ suc r.span.hi
to_end r rest bound apart = past r rest bound (suc r.span.hi) apart (omega arith)

-- a row that gives no output, or one that is left out
pub pass_none : (net : List NodeDecl) (u : UnitPart) (rq : Request) (nearer : List Hop) (port : ℕ) (rows : List Row) (r : Row) (rest : List Row) (exits : List Exit) → 1 ≤ rq.size → ((y : ℕ) → InRow r (wanted_name rq nearer) rq.size y → IsOutput net u rq nearer port y → IsAloneBefore net u rq nearer port y → ⊥) → Passing net u rq nearer port rows (r ∷ rest) exits → Passing net u rq nearer port rows rest exits
pass_none net u rq nearer port rows r rest exits some none p = record {
  bound = suc r.span.hi;
  apart = p.apart.4;
  holds = λ a z l. ((λ g. behind_first r rest a z (omega arith) ((p.holds a z (past r rest p.bound a p.apart l)).0 g)), (λ g. (p.holds a z (past r rest p.bound a p.apart l)).1 (inr g)));
  each = p.each;
  order = p.order;
  lower = raised exits port p.bound (suc r.span.hi) (to_end r rest p.bound p.apart) p.lower;
  before = p.before;
  left = λ y e alone. by y e alone (split net u rq nearer port rows r rest exits some p y e alone);
}
  where
    by : (y : ℕ) → IsOutput net u rq nearer port y → IsAloneBefore net u rq nearer port y → ((has_exit port y exits ≡ true) ⊎ InRow r (wanted_name rq nearer) rq.size y) ⊎ GivesOnly rest (wanted_name rq nearer) rq.size y → (has_exit port y exits ≡ true) ⊎ GivesOnly rest (wanted_name rq nearer) rq.size y
    by y e alone (inl (inl h)) = inl h
    by y e alone (inl (inr i)) = absurd (none y i e alone)
    by y e alone (inr g) = inr g

-- a row that gives nothing from any address on gives no output
pub none_given : (net : List NodeDecl) (u : UnitPart) (rq : Request) (nearer : List Hop) (port : ℕ) (r : Row) → ((y : ℕ) → InRow r (wanted_name rq nearer) rq.size y → ⊥) → (y : ℕ) → InRow r (wanted_name rq nearer) rq.size y → IsOutput net u rq nearer port y → IsAloneBefore net u rq nearer port y → ⊥
none_given net u rq nearer port r none y i e alone = none y i

-- the one output of a row does not lead on
pub none_led : (net : List NodeDecl) (u : UnitPart) (rq : Request) (nearer : List Hop) (port node y : ℕ) (r : Row) → slice_get u.ports port ≡ Some node → InRow r (wanted_name rq nearer) rq.size y → (y + rq.size ≤ 2 ^ u.reach → IsClear net node nearer y rq.size → ⊥) → (x : ℕ) → InRow r (wanted_name rq nearer) rq.size x → IsOutput net u rq nearer port x → IsAloneBefore net u rq nearer port x → ⊥
none_led net u rq nearer port node y r is i none x j e alone = unclear (bare net rq) node y nearer (λ c. none here.reached c) (subst (λ (n : ℕ). Meets net rq n y nearer) (same_Some here.node node (sym here.is_port ∙ is)) here.meets)
  where
    here : IsOutput net u rq nearer port y
    here = subst (λ n. IsOutput net u rq nearer port n) (one_in_row r (wanted_name rq nearer) rq.size x y j i) e

-- the one output of a row is left out
pub none_alone : (net : List NodeDecl) (u : UnitPart) (rq : Request) (nearer : List Hop) (port y : ℕ) (r : Row) → InRow r (wanted_name rq nearer) rq.size y → (IsAloneBefore net u rq nearer port y → ⊥) → (x : ℕ) → InRow r (wanted_name rq nearer) rq.size x → IsOutput net u rq nearer port x → IsAloneBefore net u rq nearer port x → ⊥
none_alone net u rq nearer port y r i more x j e alone = more (subst (λ n. IsAloneBefore net u rq nearer port n) (one_in_row r (wanted_name rq nearer) rq.size x y j i) alone)

-- one more output is listed
listed_more : (p y : ℕ) (exits : List Exit) (e : Exit) → has_exit p y exits ≡ true → has_exit p y (exits ++ e ∷ []) ≡ true
listed_more p y exits e h = list_any-append (λ (x : Exit). nat_eq x.port p && nat_eq x.y y) exits (e ∷ []) ∙ or_left (has_exit p y exits) (has_exit p y (e ∷ [])) h

listed_last : (p y : ℕ) (exits : List Exit) (e : Exit) → e.port ≡ p → e.y ≡ y → has_exit p y (exits ++ e ∷ []) ≡ true
listed_last p y exits e f g = list_any-append (λ (x : Exit). nat_eq x.port p && nat_eq x.y y) exits (e ∷ []) ∙ or_right (has_exit p y exits) (has_exit p y (e ∷ [])) (one (nat_eq e.port p) (nat_eq e.y y) (eq-eqb e.port p f) (eq-eqb e.y y g))
  where
    one : (a b : Bool) → a ≡ true → b ≡ true → ((a && b) || false) ≡ true
    one true true x z = refl
    one true false x z = cc
    one false b x z = cc

-- a row that gives one
pub pass_one : (net : List NodeDecl) (u : UnitPart) (rq : Request) (nearer : List Hop) (port node y : ℕ) (rows : List Row) (r : Row) (rest : List Row) (exits : List Exit) (e : Exit) → 1 ≤ rq.size → HasUnitBounds net u → slice_get u.ports port ≡ Some node → AreToward net rq nearer node rows →
    InRow r (wanted_name rq nearer) rq.size y → y + rq.size ≤ 2 ^ u.reach → IsClear net node nearer y rq.size → e ≡ record { port = port; y = y; rank = exit_rank u.page port y } → Passing net u rq nearer port rows (r ∷ rest) exits → Passing net u rq nearer port rows rest (exits ++ e ∷ [])
pass_one net u rq nearer port node y rows r rest exits e some bounds is toward i reached clear made p = record {
  bound = suc r.span.hi;
  apart = p.apart.4;
  holds = λ a z l. ((λ g. behind_first r rest a z (omega arith) ((p.holds a z (past r rest p.bound a p.apart l)).0 g)), (λ g. (p.holds a z (past r rest p.bound a p.apart l)).1 (inr g)));
  each = All-push (IsRankedOutput net u rq nearer) exits e p.each ranked;
  order = ascend_more exits e sooner p.order;
  lower = All-push (λ (x : Exit). IsSooner x.port x.y port (suc r.span.hi)) exits e (raised exits port p.bound (suc r.span.hi) (to_end r rest p.bound p.apart) p.lower) (subst (λ (x : Exit). IsSooner x.port x.y port (suc r.span.hi)) (sym made) (inr (refl, omega (arith, i.to, some))));
  before = λ q x l f alone. listed_more q x exits e (p.before q x l f alone);
  left = λ x f alone. by x (split net u rq nearer port rows r rest exits some p x f alone);
}
  where
    fits : y + rq.size ≤ top + 1
    fits = omega (arith, reached, power_below u.reach bounds.reach)

    only : GivesOnly rows (wanted_name rq nearer) rq.size y
    only k l z =
        let from : p.bound ≤ y + k = omega (arith, p.apart.0, i.from) in
        let h = p.holds (y + k) z from in
        let g = row_gives p.bound r rest (wanted_name rq nearer) rq.size y p.apart i k l z in
        ((λ x. g.0 (h.0 x)), (λ x. h.1 (g.1 x)))

    gives : IsOutput net u rq nearer port y
    gives = record { node = node; is_port = is; reached = reached; meets = gives_meets (bare net rq) node y nearer rows toward fits only clear }

    ranked : IsRankedOutput net u rq nearer e
    ranked = subst (λ (x : Exit). IsRankedOutput net u rq nearer x) (sym made) (record { gives = gives; ranked = refl })

    sooner : All (λ (x : Exit). IsSooner x.port x.y e.port e.y) exits
    sooner = subst (λ (d : Exit). All (λ (x : Exit). IsSooner x.port x.y d.port d.y) exits) (sym made) (raised exits port p.bound y (omega (arith, p.apart.0, i.from)) p.lower)

    by : (x : ℕ) → ((has_exit port x exits ≡ true) ⊎ InRow r (wanted_name rq nearer) rq.size x) ⊎ GivesOnly rest (wanted_name rq nearer) rq.size x → (has_exit port x (exits ++ e ∷ []) ≡ true) ⊎ GivesOnly rest (wanted_name rq nearer) rq.size x
    by x (inl (inl h)) = inl (listed_more port x exits e h)
    by x (inl (inr j)) = inl (listed_last port x exits e (ap (λ (q : Exit). q.port) made) (ap (λ (q : Exit). q.y) made ∙ one_in_row r (wanted_name rq nearer) rq.size y x i j))
    by x (inr g) = inr g

-- all rows are passed
pub pass_done : (net : List NodeDecl) (u : UnitPart) (rq : Request) (nearer : List Hop) (port : ℕ) (rows : List Row) (exits : List Exit) → 1 ≤ rq.size → Passing net u rq nearer port rows [] exits → AreExitsTo net u rq nearer (port + 1) exits
pass_done net u rq nearer port rows exits some p = record {
  each = p.each;
  order = p.order;
  lower = All-weaker (λ (e : Exit). IsSooner e.port e.y port p.bound) (λ (e : Exit). e.port < port + 1) low exits p.lower;
  all = λ q y l e alone. at q y e alone l (cases_order q port);
}
  where
    low : (e : Exit) → IsSooner e.port e.y port p.bound → e.port < port + 1
    low e (inl l) = omega arith
    low e (inr l) = let k : e.port ≡ port = l.0 in omega arith

    left : (y : ℕ) → (has_exit port y exits ≡ true) ⊎ GivesOnly [] (wanted_name rq nearer) rq.size y → has_exit port y exits ≡ true
    left y (inl h) = h
    left y (inr g) = absurd ((g 0 some (further_end 0 (wanted_name rq nearer))).1 refl)

    at : (q y : ℕ) → IsOutput net u rq nearer q y → IsAloneBefore net u rq nearer q y → q < port + 1 → (q ≡ port) ⊎ ((q < port) ⊎ (port < q)) → has_exit q y exits ≡ true
    at q y e alone l (inl m) = subst (λ (n : ℕ). has_exit n y exits ≡ true) (sym m) (left y (p.left y (subst (λ (n : ℕ). IsOutput net u rq nearer n y) m e) (subst (λ (n : ℕ). IsAloneBefore net u rq nearer n y) m alone)))
    at q y e alone l (inr (inl m)) = p.before q y m e alone
    at q y e alone l (inr (inr m)) = absurd (omega arith)

-- no port before the first
pub none_listed : (net : List NodeDecl) (u : UnitPart) (rq : Request) (nearer : List Hop) → AreExitsTo net u rq nearer 0 []
none_listed net u rq nearer = record { each = All-nil (IsRankedOutput net u rq nearer); order = tt; lower = All-nil (λ (e : Exit). e.port < 0); all = λ p y l e alone. absurd (omega arith) }

-- all ports are passed
pub listed_to : (net : List NodeDecl) (u : UnitPart) (rq : Request) (nearer : List Hop) (to : ℕ) (xs : List Exit) → length u.ports ≤ to → AreExitsTo net u rq nearer to xs → AreOutputs net u rq nearer xs
listed_to net u rq nearer to xs long a = record { each = a.each; order = a.order; all = λ p y e alone. a.all p y (omega (arith, slice_get_within u.ports p e.node e.is_port, long)) e alone }

-- a sort leaves those that are listed
pub sorted_each : (net : List NodeDecl) (u : UnitPart) (rq : Request) (xs ys : List Exit) → IsPermutation xs ys → AreOutputs net u rq [] xs → All (IsRankedExit net u rq) ys
sorted_each net u rq xs ys p a = All-permutation (IsRankedExit net u rq) xs ys p a.each

pub sorted_all : (net : List NodeDecl) (u : UnitPart) (rq : Request) (xs ys : List Exit) → IsPermutation xs ys → AreOutputs net u rq [] xs → (port y : ℕ) → IsExit net u rq port y → IsLone net u rq port y → has_exit port y ys ≡ true
sorted_all net u rq xs ys p a port y e lone = sym (list_any-IsPermutation (λ (x : Exit). nat_eq x.port port && nat_eq x.y y) xs ys p) ∙ a.all port y e lone
