-- The accepted names to which an address comes by the levels of its node are those to which it resolves.
use Rattle.std.proofs.Common.{◌≡◌, ℕ, zero, suc, ◌<◌, ◌≤◌, ◌↔◌, inl, inr, Bool, true, false, nat_le, List, [], ◌∷◌, length, slice_get, Option, Some, None, refl, sym, ap, ◌∙◌, subst, arith, leb-true}
use Rattle.std.proofs.lemmas.Bool.{and_parts, false≢true}
use Rattle.std.proofs.lemmas.Option.{slice_get-get_or}
use Rattle.dn_interval.specs.declared.row.End.{End}
use Rattle.dn_interval.specs.declared.row.Row.{Row}
use Rattle.dn_interval.specs.declared.span.TheConstants.{TOP}
use Rattle.dn_interval.specs.Rows.{GivenBy}
use Rattle.dn_interval.specs.Strands.{rows_give}
use Rattle.dn_interval.specs.Onward.{gives_by, rows_of}
use Rattle.dn_interval.proofs.Membership.{hi_of}
use Rattle.dn_interval.proofs.Names.{rows_from, rows_to}
use Rattle.dn_interval.proofs.Normal.{normal_like}
use Rattle.dn_net.specs.declared.node.Name.{Name}
use Rattle.dn_net.specs.declared.node.NodeDecl.{NodeDecl}
use Rattle.dn_net.specs.Chain.{IsChain}
use Rattle.dn_net.specs.Decode.{Step, is_accepted, is_accepted_at, in_some_block, top}
use Rattle.dn_walk.specs.Ends.{name_of_end}
use Rattle.dn_flat.specs.declared.flat.Flat.{Flat}
use Rattle.dn_flat.specs.declared.levels.Levels.{Levels}
use Rattle.dn_flat.specs.declared.reach.Reach.{Reach}
use Rattle.dn_flat.specs.Levels.{AreFlats, AreLevels, FlatsView, IsLevels, NodesReachTheirNames, ReachesFrom, levels_give, levels_show, reached_of, shows, stops_in}
use Rattle.dn_flat.specs.Shared.{no_levels}
use Rattle.dn_flat.specs.Stages.{AreReaches, EndsBefore, IsFlat}
use Rattle.dn_flat.specs.Views.{ResolvesFrom, StopsFrom}
use Rattle.dn_flat.proofs.Bounds.{flat_is}
use Rattle.dn_flat.proofs.Going.{levels_from, levels_to}
use Rattle.dn_flat.proofs.There.{accepted_is_there}

-- rows give names to addresses up to the last alone
pub given_low : (rows : List Row) (a : ℕ) (y : End) → GivenBy rows a y → a ≤ TOP
given_low [] a y g = absurd g
given_low (r ∷ rs) a y (inl g) =
    let hi : a ≤ r.span.hi = hi_of r.span a g.0 in
    let within : r.span.hi ≤ TOP = r.span.within in
    omega arith
given_low (r ∷ rs) a y (inr g) = given_low rs a y g

pub accepted_low : (net : List NodeDecl) (x : Name) → is_accepted net x ≡ true → x.addr ≤ TOP
accepted_low net x e = go (slice_get net x.node) e
  where
    go : (o : Option NodeDecl) → is_accepted_at x.addr o ≡ true → x.addr ≤ TOP
    go None f = absurd (false≢true f)
    go (Some n) f =
        let l : x.addr ≤ top = leb-true x.addr top (and_parts (nat_le x.addr top) (in_some_block x.addr n.accepts) f).0 in
        l

abbrev pub no_reach : Reach
no_reach = record { done = record { accepts = []; stops = [] }; go = [] }

module _ (net : List NodeDecl) (nodes : List Reach) (are : AreReaches net 1 nodes) where
  abbrev accepting : ℕ → ℕ → End → Bool
  accepting = gives_by (λ (r : Reach). r.done.accepts) nodes

  -- a name goes on to itself alone, where it is accepted

  before_one : (n b : ℕ) (z : End) → EndsBefore net (is_accepted net) 1 n b z → (is_accepted net (name_of_end z) ≡ true) × ◌≡◌ {A = Name} (record { node = n; addr = b }) (name_of_end z)
  before_one n b z h = (h.0, go h.1.0 h.1.1 h.1.2)
    where
      go : (j : ℕ) → j < 1 → IsChain (Step net) j (record { node = n; addr = b }) (name_of_end z) → ◌≡◌ {A = Name} (record { node = n; addr = b }) (name_of_end z)
      go zero l c = c
      go (suc j) l c = absurd (omega arith)

  pub accepting_to : (n b : ℕ) (z : End) → accepting n b z ≡ true → (is_accepted net (name_of_end z) ≡ true) × ◌≡◌ {A = Name} (record { node = n; addr = b }) (name_of_end z)
  accepting_to n b z e = go (slice_get nodes n) refl e
    where
      go : (o : Option Reach) → slice_get nodes n ≡ o → rows_give (rows_of (λ (r : Reach). r.done.accepts) o) b z ≡ true → (is_accepted net (name_of_end z) ≡ true) × ◌≡◌ {A = Name} (record { node = n; addr = b }) (name_of_end z)
      go None at f = absurd (false≢true f)
      go (Some r) at f =
          let g : GivenBy r.done.accepts b z = rows_to r.done.accepts b z f in
          before_one n b z (((are.each n r at).done.accepts.exact b z (given_low r.done.accepts b z g)).1 g)

  pub accepting_from : (z : End) → is_accepted net (name_of_end z) ≡ true → accepting z.node z.base z ≡ true
  accepting_from z e =
      let every : length nodes ≡ length net = are.every in
      let l : z.node < length net = accepted_is_there net (name_of_end z) e in
      let at = slice_get-get_or nodes z.node no_reach (omega arith) in
      let g = ((are.each z.node _ at).done.accepts.exact z.base z (accepted_low net (name_of_end z) e)).0 (e, (0, omega arith, refl)) in
      ap (λ o. rows_give (rows_of (λ (r : Reach). r.done.accepts) o) z.base z) at ∙ rows_from _ z.base z g

  -- so the levels of a node show what its addresses resolve to

  module _ (node : ℕ) (levels : List (List Row)) (l : AreLevels net node levels) (a : ℕ) (low : a ≤ TOP) where
    pub shown_to : (z : End) → levels_show nodes levels a z ≡ true → ResolvesFrom net node a z
    shown_to z e =
        let r = levels_to accepting a z levels e in
        let on = accepting_to r.0.node r.0.base z r.2 in
        let by : ReachesFrom net node a r.0 = l.reached a r.0 low r.1 in
        (on.0, (by.0, by.1, subst (IsChain (Step net) by.0 (record { node = node; addr = a })) on.1 by.2))

    pub shown_from : (z : End) → ResolvesFrom net node a z → levels_show nodes levels a z ≡ true
    shown_from z h = levels_from accepting a z levels z (l.accepted a z low h) (accepting_from z h.0)

pub shown_is : (net : List NodeDecl) (nodes : List Reach) → AreReaches net 1 nodes → (node : ℕ) (levels : List (List Row)) → AreLevels net node levels → (a : ℕ) (z : End) → a ≤ TOP → (levels_show nodes levels a z ≡ true) ↔ ResolvesFrom net node a z
shown_is net nodes are node levels l a z low = (shown_to net nodes are node levels l a low z, shown_from net nodes are node levels l a low z)

-- what all nodes show

pub shows_at : (flats : FlatsView) (node : ℕ) (levels : Levels) → slice_get flats.nodes node ≡ Some levels → (a : ℕ) (z : End) → shows flats node a z ≡ levels_show flats.stage.nodes levels.reached a z
unfolding shows
shows_at flats node levels at a z = ap (λ o. levels_show flats.stage.nodes (reached_of o) a z) at

pub levels_there : (net : List NodeDecl) (flats : FlatsView) → AreFlats net flats → (node : ℕ) → node < length net → (levels : Levels) × (slice_get flats.nodes node ≡ Some levels) × IsLevels net node levels
levels_there net flats are node l =
    let every : length flats.nodes ≡ length net = are.every in
    let at = slice_get-get_or flats.nodes node no_levels (omega arith) in
    (_, at, are.each node _ at)

pub shows_is : (net : List NodeDecl) (flats : FlatsView) → AreFlats net flats → (node a : ℕ) (z : End) → node < length net → a ≤ TOP → (shows flats node a z ≡ true) ↔ ResolvesFrom net node a z
shows_is net flats are node a z l low =
    let t = levels_there net flats are node l in
    let same = shows_at flats node t.0 t.1 a z in
    let is = shown_is net flats.stage.nodes are.steps node t.0.reached t.2.reached a z low in
    ((λ e. is.0 (sym same ∙ e)), (λ h. same ∙ is.1 h))

-- what the layers of its stops give are its stops
pub stops_is : (net : List NodeDecl) (flats : FlatsView) → AreFlats net flats → (node a : ℕ) (z : End) → node < length net → a ≤ TOP → (levels_give (stops_in (slice_get flats.nodes node)) a z ≡ true) ↔ StopsFrom net node a z
stops_is net flats are node a z l low =
    let t = levels_there net flats are node l in
    let same : levels_give (stops_in (slice_get flats.nodes node)) a z ≡ levels_give t.0.stops a z = ap (λ o. levels_give (stops_in o) a z) t.1 in
    let is = t.2.stops a z low in
    ((λ e. is.0 (sym same ∙ e)), (λ h. same ∙ is.1 h))

pub nodes_reach_their_names : NodesReachTheirNames
nodes_reach_their_names net flats are = record { accepted = shows_is net flats are; stopped = stops_is net flats are }

-- nodes that reach the same see the same

pub same_seen : (net : List NodeDecl) (flats : FlatsView) → AreFlats net flats → (node other : ℕ) → node < length net → other < length net → slice_get flats.nodes node ≡ slice_get flats.nodes other → (flat : Flat) → IsFlat net node flat → IsFlat net other flat
same_seen net flats are node other l m same flat f =
    let t = levels_there net flats are other m in
    let at : slice_get flats.nodes node ≡ Some t.0 = same ∙ t.1 in
    let is : IsLevels net node t.0 = are.each node t.0 at in
    flat_is net other flat
    (normal_like (ResolvesFrom net node) (ResolvesFrom net other) flat.accepts (λ a y low.
    let p = shown_is net flats.stage.nodes are.steps node t.0.reached is.reached a y low in
    let q = shown_is net flats.stage.nodes are.steps other t.0.reached t.2.reached a y low in
    ((λ h. q.0 (p.1 h)), (λ h. p.0 (q.1 h)))) f.accepts)
    (normal_like (StopsFrom net node) (StopsFrom net other) flat.stops (λ a y low.
    let p = is.stops a y low in
    let q = t.2.stops a y low in
    ((λ h. q.0 (p.1 h)), (λ h. p.0 (q.1 h)))) f.stops)

-- a node with no level shows nothing
pub shows_none : (flats : FlatsView) (node a : ℕ) (z : End) → reached_of (slice_get flats.nodes node) ≡ [] → shows flats node a z ≡ false
unfolding shows
shows_none flats node a z e = ap (λ levels. levels_show flats.stage.nodes levels a z) e

-- what is made of the levels of a node and of what nodes come to is what is shown
pub shows_by : (flats : FlatsView) (node : ℕ) (levels : Levels) (nodes : List Reach) (reached : List (List Row)) → slice_get flats.nodes node ≡ Some levels → nodes ≡ flats.stage.nodes → reached ≡ levels.reached → (a : ℕ) (z : End) → levels_show nodes reached a z ≡ shows flats node a z
shows_by flats node levels nodes reached at n r a z = ap (λ ns. levels_show ns reached a z) n ∙ (ap (λ ls. levels_show flats.stage.nodes ls a z) r ∙ sym (shows_at flats node levels at a z))
