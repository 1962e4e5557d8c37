-- Rows of an agent that enter a unit: to which input a stretch of addresses leads.
use Rattle.std.proofs.Common.{◌≡◌, ℕ, ◌+◌, ◌-◌, ◌<◌, ◌≤◌, ◌⊎◌, inl, inr, List, map, Option, Some, None, IfNone, IfSome, is_some, true, sym, ap, subst, arith, IsTrue}
use Rattle.std.specs.List.{Contains}
use Rattle.std.proofs.lemmas.Bool.{cases_lt}
use Rattle.dn_interval.specs.declared.row.End.{End}
use Rattle.dn_interval.specs.declared.row.Row.{Row}
use Rattle.dn_interval.specs.declared.span.Span.{Span}
use Rattle.dn_interval.specs.declared.span.TheConstants.{TOP}
use Rattle.dn_interval.specs.Rows.{Member, further_end, AreNormal, GivenBy}
use Rattle.dn_interval.specs.Spans.{in_span}
use Rattle.dn_interval.proofs.Membership.{in_from}
use Rattle.dn_net.specs.declared.node.Name.{Name}
use Rattle.dn_net.specs.declared.node.NodeDecl.{NodeDecl}
use Rattle.dn_net.specs.Decode.{StopsAt}
use Rattle.dn_flat.specs.declared.levels.Levels.{Levels}
use Rattle.dn_flat.specs.Crowds.{AreCrowded}
use Rattle.dn_flat.specs.Levels.{IsLevels}
use Rattle.dn_flat.specs.Views.{StopsFrom}
use Rattle.dn_placement.specs.Placement.{name_on}
use Rattle.dn_walk.specs.Ends.{end_of, name_of_end}
use Rattle.dn_view.specs.Near.{levels_near}
use Rattle.dn_view.proofs.Nearby.{levels_from, levels_to}
use Rattle.dn_place.specs.Rows.{GivesOnly, InRow}
use Rattle.dn_place.specs.Sought.{ReachOneStop}
use Rattle.dn_place.proofs.Marked.{given_there}
use Rattle.dn_place.proofs.Stretches.{row_has}
use Rattle.dn_gather.specs.Stands.{AreAlone, AreWindows, Enters}

-- the first input of a unit
abbrev pub first_input : ℕ → End
first_input unit = record { node = unit; base = 0 }

-- the rows that are near to the inputs of a unit are the agent's windows into it
pub windows_are : (net : List NodeDecl) (agent unit end : ℕ) (levels : Levels) (rows : List Row) → IsLevels net agent levels → AreNormal (λ a z. IsTrue (levels_near (first_input unit) end levels.stops a z)) rows → AreWindows net agent unit end rows
windows_are net agent unit end levels rows is n = record {
  apart = n.apart;
  given = λ a z l g. (is.stops a z l).0 (levels_to (first_input unit) end levels.stops a z ((n.exact a z l).1 g));
  all = λ a x l m s. subst (λ (e : End). GivenBy rows a e) (moved x) ((n.exact a (further_end x (first_input unit)) l).0 (levels_from (first_input unit) end levels.stops a x m ((is.stops a (further_end x (first_input unit)) l).1 (subst (λ (e : End). StopsFrom net agent a e) (sym (moved x)) s))));
}
  where
    moved : (x : ℕ) → further_end x (first_input unit) ≡ record { node = unit; base = x }
    moved x = let e : 0 + x ≡ x = omega arith in ap (λ (n : ℕ). record { node = unit; base = n }) e

-- a stretch that enters the unit is given just its inputs
pub enters_gives : (net : List NodeDecl) (agent unit end a size x : ℕ) (rows : List Row) → ReachOneStop net → AreWindows net agent unit end rows → a + size ≤ TOP + 1 → x + size ≤ end → Enters net agent a size unit x → GivesOnly rows (record { node = unit; base = x }) size a
enters_gives net agent unit end a size x rows one w fits within enters = λ i l z. (
  (λ g. ap end_of (one (name_on agent a i) (name_on unit x i) (name_of_end z) (enters i l) (w.given (a + i) z (omega arith) g))),
  (λ e. subst (λ (y : End). GivenBy rows (a + i) y) e (w.all (a + i) (x + i) (omega arith) (omega arith) (enters i l))),
)

-- a stretch that a row gives enters the unit
pub row_enters : (net : List NodeDecl) (agent unit end a size x : ℕ) (rows : List Row) (r : Row) → AreWindows net agent unit end rows → Contains rows r → InRow r (record { node = unit; base = x }) size a → Enters net agent a size unit x
row_enters net agent unit end a size x rows r w c i = λ k l.
    let t : End = record { node = unit; base = x } in
    let here : IsTrue (in_span r.span (a + k)) = in_from r.span (a + k) (omega (arith, i.from)) (omega (arith, i.to)) in
    let low : a + k ≤ TOP = (let top : r.span.hi ≤ TOP = r.span.within in omega (arith, i.to)) in
    w.given (a + k) (further_end k t) low (given_there rows r (a + k) (further_end k t) c here (moved k l))
  where
    moved : (k : ℕ) → k < size → Member (further_end k (record { node = unit; base = x })) (map (further_end (a + k - r.span.lo)) r.ends)
    moved k l =
        let same : i.first + (a + k - r.span.lo) ≡ x + k = omega (arith, i.base, i.from) in
        subst (λ (es : List End). Member (further_end k (record { node = unit; base = x })) (map (further_end (a + k - r.span.lo)) es)) (sym i.ends)
        (inl (ap (λ (n : ℕ). record { node = unit; base = n }) same))

-- a stretch that enters the unit lies in the row that has its first address
pub entered_row : (net : List NodeDecl) (agent unit end a size x : ℕ) (rows : List Row) (r : Row) → ReachOneStop net → AreWindows net agent unit end rows → Contains rows r → IsTrue (in_span r.span a) → 1 ≤ size → a + size ≤ TOP + 1 → x + size ≤ end → Enters net agent a size unit x → InRow r (record { node = unit; base = x }) size a
entered_row net agent unit end a size x rows r one w c at some fits within enters =
    row_has rows r (record { node = unit; base = x }) size a w.apart c at some (enters_gives net agent unit end a size x rows one w fits within enters)

-- the rows give the first address of a stretch that enters the unit
pub entered_given : (net : List NodeDecl) (agent unit end a size x : ℕ) (rows : List Row) → AreWindows net agent unit end rows → 1 ≤ size → a + size ≤ TOP + 1 → x + size ≤ end → Enters net agent a size unit x → GivenBy rows a (record { node = unit; base = x })
entered_given net agent unit end a size x rows w some fits within enters =
    w.all a x (omega arith) (omega arith) (subst (λ (y : Name). StopsAt net y (record { node = unit; addr = x })) (from agent a) (subst (λ (y : Name). StopsAt net (name_on agent a 0) y) (from unit x) (enters 0 some)))
  where
    from : (n b : ℕ) → name_on n b 0 ≡ record { node = n; addr = b }
    from n b = let e : b + 0 ≡ b = omega arith in ap (λ (m : ℕ). record { node = n; addr = m }) e

-- a stretch enters the unit at one input
pub one_input : (net : List NodeDecl) (agent unit a size other x z : ℕ) → ReachOneStop net → 1 ≤ size → 1 ≤ other → Enters net agent a size unit x → Enters net agent a other unit z → x ≡ z
one_input net agent unit a size other x z one some more e f =
    let same : x + 0 ≡ z + 0 = ap (λ (n : Name). n.addr) (one (name_on agent a 0) (name_on unit x 0) (name_on unit z 0) (e 0 some) (f 0 more)) in
    omega (arith, same)

-- what follows from a fact follows from it where there is nothing
pub if_none_then : {A : Type 0} (o : Option A) (P Q : Type 0) → (P → Q) → IfNone o P → IfNone o Q
if_none_then None P Q h p = h p
if_none_then (Some x) P Q h p = tt

-- inputs of which some are listed as entered from two addresses are not alone
pub crowd_of : (net : List NodeDecl) (unit x size : ℕ) (span : Span) → 1 ≤ size → AreCrowded net unit span → x ≤ span.hi → span.lo < x + size → AreAlone net unit x size → ⊥
crowd_of net unit x size span some crowded from to alone = by (cases_lt x span.lo)
  where
    by : (x < span.lo) ⊎ (span.lo ≤ x) → ⊥
    by (inl l) =
        let at : x + (span.lo - x) ≡ span.lo = omega (arith, l) in
        alone (span.lo - x) (omega (arith, l, to)) (crowded (x + (span.lo - x)) (in_from span (x + (span.lo - x)) (omega (arith, at)) (omega (arith, at, span.ordered))))
    by (inr l) = alone 0 some (crowded (x + 0) (in_from span (x + 0) (omega (arith, l)) (omega (arith, from))))

-- so where a list of such inputs tells some
pub crowd_told : (net : List NodeDecl) (unit x size : ℕ) (o : Option Span) → 1 ≤ size → IfSome o (λ s. AreCrowded net unit s) → IfSome o (λ s. x ≤ s.hi) → IfSome o (λ s. s.lo < x + size) → is_some o ≡ true → AreAlone net unit x size → ⊥
crowd_told net unit x size None some crowded from to is alone = cc
crowd_told net unit x size (Some s) some crowded from to is alone = crowd_of net unit x size s some crowded from to alone
