-- A way goes on by its least step, or ends.
use Rattle.std.proofs.Common.{◌≡◌, ℕ, suc, ◌+◌, ◌-◌, ◌<◌, ◌≤◌, Bool, not, ◌||◌, List, [], ◌∷◌, map, length, get_or, Some, None, refl, sym, ap, ◌∙◌, subst, arith}
use Rattle.std.specs.List.{filter, All}
use Rattle.std.proofs.lemmas.List.{get_or-map}
use Rattle.dn_net.specs.declared.node.Name.{Name}
use Rattle.dn_net.specs.declared.node.NodeDecl.{NodeDecl}
use Rattle.dn_net.specs.Chain.{Member, IsChain}
use Rattle.dn_net.specs.Decode.{steps, top, Step}
use Rattle.dn_net.specs.Rules.{KeepsNodeRules}
use Rattle.dn_net.specs.WalkRules.{names_behind, way_by}
use Rattle.dn_walk.specs.declared.walks.WalkRow.{WalkRow}
use Rattle.dn_walk.specs.declared.way.Goal.{Goal}
use Rattle.dn_walk.specs.Rows.{BareWalk, row_view}
use Rattle.dn_walk.specs.Ways.{least_of, level_leads, walk_levels_lead, start_names, start_name, is_cyclic}
use Rattle.dn_net.proofs.Cycles.{row_of_chain, stepping_in_range}
use Rattle.dn_net.proofs.Levels.{level_is_row}
use Rattle.dn_walk.proofs.Least.{least_first}
use Rattle.dn_net.proofs.Least.{within_to}
use Rattle.dn_base.proofs.Members.{map_member, member_of_all}
use Rattle.dn_net.proofs.Members.{member_filter}

pub way_ends : (f : Name → List Name) (leads : ℕ → Name → Bool) (left k : ℕ) (x : Name) → left ≡ suc k → least_of (filter (leads k) (f x)) ≡ None → way_by f leads left x ≡ []
way_ends f leads left k x e h = ap (λ n. way_by f leads n x) e ∙ ap (λ o. names_behind o (λ z. way_by f leads k z)) h

pub way_goes : (f : Name → List Name) (leads : ℕ → Name → Bool) (left k : ℕ) (x z : Name) → left ≡ suc k → least_of (filter (leads k) (f x)) ≡ Some z → way_by f leads left x ≡ z ∷ way_by f leads k z
way_goes f leads left k x z e h = ap (λ n. way_by f leads n x) e ∙ ap (λ o. names_behind o (λ z. way_by f leads k z)) h

-- the level of so many choices among the levels
pub level_at : (goal : Goal) (levels : List (List WalkRow)) (k : ℕ) (level : List WalkRow) (now : List WalkRow) → k < length levels → level ≡ get_or levels k level → now ≡ level → level_leads goal (map row_view now) ≡ walk_levels_lead goal (map (map row_view) levels) k
level_at goal levels k level now l e f = ap (λ x. level_leads goal (map row_view x)) (f ∙ e) ∙ ap (level_leads goal) (sym (get_or-map (map row_view) levels k level [] l))

-- a step leads to an address of a node of the net
pub step_in_range : (net : List NodeDecl) → KeepsNodeRules net → (x y : Name) → Member y (steps net x) → (y.node < length net) × (y.addr ≤ top)
step_in_range net checked x y m =
    let c : IsChain (Step net) 1 x y = (y, m, refl) in
    let i = stepping_in_range net checked 1 x y (omega arith) c in
    let r = row_of_chain net checked 1 x y i.0 i.1 c in
    let q = level_is_row net checked 1 r.0 r.1.row in
    let w = within_to x.addr r.0.span r.1.inside in
    let lo : r.0.span.lo ≤ x.addr = w.0 in
    let hi : x.addr ≤ r.0.span.hi = w.1 in
    let out : r.0.to.addr + (r.0.span.hi - r.0.span.lo) ≤ top = q.out in
    let a : r.0.to.addr + (x.addr - r.0.span.lo) ≡ y.addr = ap (λ n. n.addr) r.1.to in
    (subst (λ n. n < length net) (ap (λ n. n.node) r.1.to) q.node, omega arith)

pub step_there : (net : List NodeDecl) → KeepsNodeRules net → (test : Name → Bool) (x z : Name) → least_of (filter test (steps net x)) ≡ Some z → z.node < length net
step_there net rules test x z h = (step_in_range net rules x z (member_filter test (steps net x) z (least_first (filter test (steps net x)) z h).member).0).0

-- the least start is the start of a row
pub start_row : (back : Bool) (rows : List BareWalk) (x : Name) → least_of (start_names back rows) ≡ Some x → (t : BareWalk) × Member t rows × (start_name t ≡ x)
start_row back rows x h =
    let f = least_first (start_names back rows) x h in
    let p = map_member start_name (filter (λ t. not back || is_cyclic t) rows) x f.member in
    (p.0, (member_filter (λ t. not back || is_cyclic t) rows p.0 p.1).0, p.2)

pub start_there : (back : Bool) (rows : List WalkRow) (count : ℕ) (x : Name) → All (λ (r : WalkRow). r.start < count) rows → least_of (start_names back (map row_view rows)) ≡ Some x → x.node < count
start_there back rows count x all h =
    let p = start_row back (map row_view rows) x h in
    let q = map_member row_view rows p.0 p.1 in
    let r : q.0.start < count = member_of_all (λ (r : WalkRow). r.start < count) rows q.0 all q.1 in
    subst (λ n. n < count) (ap (λ t. t.start) q.2 ∙ ap (λ n. n.node) p.2) r
