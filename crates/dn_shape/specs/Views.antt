-- What splitting and absorbing keep: every view, the node rules, and what every net is.
use Rattle.std.specs.Prelude.{◌≡◌, ℕ, ◌<◌, ◌≤◌, ◌↔◌, false, List, length, slice_get, None, Some}
use Rattle.std.specs.List.{list_any}
use Rattle.dn_net.specs.declared.node.Name.{Name}
use Rattle.dn_net.specs.declared.node.NodeDecl.{NodeDecl}
use Rattle.dn_net.specs.Decode.{Resolves, StopsAt}
use Rattle.dn_net.specs.Legal.{IsNet, IsLegalNet, node_limit}
use Rattle.dn_net.specs.Rules.{KeepsNodeRules}
use Rattle.dn_shape.specs.Split.{is_divided, split_net, split_name}
use Rattle.dn_shape.specs.Absorb.{leads_to, why_not, net_past}

-- Two nets have equal views under a renaming of accepted names: each name of the first has the
-- same stops in both, and resolves in the second to the names to which it resolves in the first,
-- renamed. Both follow chains of at most 65 steps.
pub record HaveEqualViews (renamed : Name → Name) (old new : List NodeDecl) : Type 0 where
  pub resolve : (x y : Name) → x.node < length old →
      Resolves new x y ↔ ((z : Name) × Resolves old x z × (renamed z ≡ y))
  pub stops : (x y : Name) → x.node < length old → StopsAt new x y ↔ StopsAt old x y

-- Splitting a legal net keeps every view, where each accepted name of a divided node is renamed
-- to its new node. A chain of the split net may have 65 steps, and the bound of resolution cuts
-- none of them.
abbrev pub SplitKeepsViews : Type 0
SplitKeepsViews = (net : List NodeDecl) → IsLegalNet net →
    HaveEqualViews (split_name net) net (split_net net)

-- the node rules, and what every net is
pub record IsRuledNet (net : List NodeDecl) : Type 0 where
  pub is_net : IsNet net
  pub nodes : KeepsNodeRules net

-- A split net with at most 1,024 nodes is a net that keeps the node rules, and no node of it
-- accepts and translates.
abbrev pub SplitKeepsRules : Type 0
SplitKeepsRules = (net : List NodeDecl) → IsLegalNet net → length (split_net net) ≤ node_limit →
    IsRuledNet (split_net net) × (list_any is_divided (split_net net) ≡ false)

-- Absorbing a node of a legal net that can be absorbed keeps every view, and renames nothing.
abbrev pub AbsorbKeepsViews : Type 0
AbsorbKeepsViews = (net : List NodeDecl) → IsLegalNet net →
    (m : ℕ) (n : NodeDecl) → slice_get net m ≡ Some n →
    why_not net m n ≡ None → HaveEqualViews (λ x. x) net (net_past net m)

-- The net past a node is a net that keeps the node rules, and no node of it leads to the absorbed
-- one.
abbrev pub AbsorbKeepsRules : Type 0
AbsorbKeepsRules = (net : List NodeDecl) → IsLegalNet net →
    (m : ℕ) (n : NodeDecl) → slice_get net m ≡ Some n →
    why_not net m n ≡ None →
    IsRuledNet (net_past net m) × (list_any (leads_to m) (net_past net m) ≡ false)
