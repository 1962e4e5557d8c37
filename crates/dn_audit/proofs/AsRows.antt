-- Rows of shared addresses as rows of names: each address has the agents as names at the address itself.
use Rattle.std.proofs.Common.{◌≡◌, ℕ, suc, ◌+◌, ◌-◌, ◌≤◌, ◌↔◌, inl, inr, ◌&&◌, nat_lt, nat_eq, List, [], ◌∷◌, map, refl, sym, ap, ◌∙◌, subst, arith, IsTrue, lt-ltb}
use Rattle.std.proofs.lemmas.Bool.{or_left}
use Rattle.dn_base.specs.Members.{Member}
use Rattle.dn_interval.specs.declared.row.End.{End}
use Rattle.dn_interval.specs.declared.row.Row.{Row}
use Rattle.dn_interval.specs.declared.span.TheConstants.{TOP}
use Rattle.dn_interval.specs.Spans.{in_span}
use Rattle.dn_interval.specs.Rows.{further_end, AllAbove, Ascending, HasEnds, Apart, Parted, GivenBy}
use Rattle.dn_interval.proofs.Membership.{lo_of}
use Rattle.dn_interval.proofs.Normal.{one_list}
use Rattle.dn_audit.specs.declared.report.Shared.{Shared}
use Rattle.dn_audit.specs.Shared.{AllAfter, AreRising, AreSeveral, AreOthers, AreOfNode, StandApart, IsSharedWith}
use Rattle.dn_audit.specs.Told.{names_of}

-- a row of shared addresses as a row of names: its agents at its first address
abbrev pub row_of_shared : Shared → Row
row_of_shared s = record { span = s.span; ends = names_of s.span.lo s.agents }

-- and back, to a row of a node
abbrev pub shared_of_row : ℕ → Row → Shared
shared_of_row node r = record { node = node; span = r.span; agents = map (λ (e : End). e.node) r.ends }

pub nodes_back : (lo : ℕ) (agents : List ℕ) → map (λ (e : End). e.node) (names_of lo agents) ≡ agents
nodes_back lo [] = refl
nodes_back lo (g ∷ gs) = ap (λ (l : List ℕ). g ∷ l) (nodes_back lo gs)

rows_back : (node : ℕ) (rows : List Shared) → AreOfNode node rows → map (shared_of_row node) (map row_of_shared rows) ≡ rows
rows_back node [] at = refl
rows_back node (r ∷ rows) at =
    let here : node ≡ r.node = sym at.0 in
    let a : shared_of_row node (row_of_shared r) ≡ r = ap (λ n. shared_of_row n (row_of_shared r)) here ∙ ap (λ (l : List ℕ). record { node = r.node; span = r.span; agents = l }) (nodes_back r.span.lo r.agents) in
    let b : map (shared_of_row node) (map row_of_shared rows) ≡ rows = rows_back node rows at.1 in
    cons_same a b
  where
    cons_same : {x y : Shared} {xs ys : List Shared} → x ≡ y → xs ≡ ys → x ∷ xs ≡ y ∷ ys
    cons_same p q = cc

-- names moved on
moved_names : (d lo : ℕ) (agents : List ℕ) → map (further_end d) (names_of lo agents) ≡ names_of (lo + d) agents
moved_names d lo [] = refl
moved_names d lo (g ∷ gs) = ap (λ (l : List End). record { node = g; base = lo + d } ∷ l) (moved_names d lo gs)

pub name_there : (lo : ℕ) (agents : List ℕ) (y : End) → Member y (names_of lo agents) → (y.base ≡ lo) × Member y.node agents
name_there lo [] y m = absurd m
name_there lo (g ∷ gs) y (inl e) = (sym (ap (λ (t : End). t.base) e), inl (ap (λ (t : End). t.node) e))
name_there lo (g ∷ gs) y (inr m) = let r = name_there lo gs y m in (r.0, inr r.1)

pub name_back : (lo : ℕ) (agents : List ℕ) (g : ℕ) → Member g agents → Member (let e : End = record { node = g; base = lo } in e) (names_of lo agents)
name_back lo [] g m = absurd m
name_back lo (h ∷ hs) g (inl e) = inl (ap (λ (n : ℕ). record { node = n; base = lo }) e)
name_back lo (h ∷ hs) g (inr m) = inr (name_back lo hs g m)

pub gives : (rows : List Shared) (a : ℕ) (y : End) → GivenBy (map row_of_shared rows) a y ↔ ((y.base ≡ a) × IsSharedWith rows a y.node)
gives [] a y = ((λ g. absurd g), (λ p. absurd p.1))
gives (r ∷ rows) a y = both (gives rows a y)
  where
    at : IsTrue (in_span r.span a) → r.span.lo + (a - r.span.lo) ≡ a
    at i = let l = lo_of r.span a i in omega (arith, l)

    there : (GivenBy (map row_of_shared rows) a y → (y.base ≡ a) × IsSharedWith rows a y.node) → GivenBy (map row_of_shared (r ∷ rows)) a y → (y.base ≡ a) × IsSharedWith (r ∷ rows) a y.node
    there ih (inl g) =
        let m : Member y (names_of (r.span.lo + (a - r.span.lo)) r.agents) = subst (λ l. Member y l) (moved_names (a - r.span.lo) r.span.lo r.agents) g.1 in
        let n = name_there (r.span.lo + (a - r.span.lo)) r.agents y m in
        (n.0 ∙ at g.0, inl (g.0, n.1))
    there ih (inr g) = let n = ih g in (n.0, inr n.1)

    back : ((y.base ≡ a) × IsSharedWith rows a y.node → GivenBy (map row_of_shared rows) a y) → (y.base ≡ a) × IsSharedWith (r ∷ rows) a y.node → GivenBy (map row_of_shared (r ∷ rows)) a y
    back ih (e, inl s) =
        let m = name_back (r.span.lo + (a - r.span.lo)) r.agents y.node s.1 in
        let same : ◌≡◌ {A = End} (record { node = y.node; base = r.span.lo + (a - r.span.lo) }) y = ap (λ (n : ℕ). record { node = y.node; base = n }) (at s.0 ∙ sym e) in
        inl (s.0, subst (λ l. Member y l) (sym (moved_names (a - r.span.lo) r.span.lo r.agents)) (subst (λ (t : End). Member t (names_of (r.span.lo + (a - r.span.lo)) r.agents)) same m))
    back ih (e, inr s) = inr (ih (e, s))

    both : GivenBy (map row_of_shared rows) a y ↔ ((y.base ≡ a) × IsSharedWith rows a y.node) → GivenBy (map row_of_shared (r ∷ rows)) a y ↔ ((y.base ≡ a) × IsSharedWith (r ∷ rows) a y.node)
    both ih = (there ih.0, back ih.1)

above_names : (lo g : ℕ) (gs : List ℕ) → AllAfter g gs → AllAbove (record { node = g; base = lo }) (names_of lo gs)
above_names lo g [] a = tt
above_names lo g (h ∷ hs) a = (or_left (nat_lt g h) (nat_eq g h && nat_lt lo lo) (lt-ltb g h a.0), above_names lo g hs a.1)

pub ascending_names : (lo : ℕ) (gs : List ℕ) → AreRising gs → Ascending (names_of lo gs)
ascending_names lo [] a = tt
ascending_names lo (g ∷ gs) a = (above_names lo g gs a.0, ascending_names lo gs a.1)

has_names : (lo : ℕ) (gs : List ℕ) → AreSeveral gs → HasEnds (names_of lo gs)
has_names lo [] s = s
has_names lo (g ∷ gs) s = tt

pub apart_rows : (from : ℕ) (rows : List Shared) → StandApart from rows → Apart from (map row_of_shared rows)
apart_rows from [] s = tt
apart_rows from (r ∷ rows) s = (s.0, has_names r.span.lo r.agents s.1, ascending_names r.span.lo r.agents s.2, parted rows s.3, apart_rows (suc r.span.hi) rows s.4)
  where
    parted : (rest : List Shared) → AreOthers r rest → Parted (row_of_shared r) (map row_of_shared rest)
    parted [] o = tt
    parted (t ∷ ts) o = λ touch same.
        let a : t.agents ≡ r.agents = sym (nodes_back t.span.lo t.agents) ∙ ap (map (λ (e : End). e.node)) (same ∙ moved_names (suc r.span.hi - r.span.lo) r.span.lo r.agents) ∙ nodes_back (r.span.lo + (suc r.span.hi - r.span.lo)) r.agents in
        o touch a

-- rows of a node that are apart and give the same agents to each address are one list
pub one_list_of_shared : (node : ℕ) (rows others : List Shared) → AreOfNode node rows → AreOfNode node others → StandApart 0 rows → StandApart 0 others → ((a g : ℕ) → a ≤ TOP → IsSharedWith rows a g ↔ IsSharedWith others a g) → rows ≡ others
one_list_of_shared node rows others there at p q alike =
    sym (rows_back node rows there)
    ∙ ap (map (shared_of_row node)) (one_list (map row_of_shared rows) (map row_of_shared others) (apart_rows 0 rows p) (apart_rows 0 others q) same)
    ∙ rows_back node others at
  where
    same : (a : ℕ) (y : End) → a ≤ TOP → GivenBy (map row_of_shared rows) a y ↔ GivenBy (map row_of_shared others) a y
    same a y l = (
      (λ g. let n = (gives rows a y).0 g in (gives others a y).1 (n.0, (alike a y.node l).0 n.1)),
      (λ g. let n = (gives others a y).0 g in (gives rows a y).1 (n.0, (alike a y.node l).1 n.1)),
    )
