-- Rows of the addresses of a node that two or more agents have.
use Rattle.std.specs.Prelude.{◌≡◌, ℕ, suc, ◌<◌, ◌≤◌, ◌⊎◌, ◌↔◌, Bool, ◌==◌, List, [], ◌∷◌, ◌++◌, filter, IsTrue}
use Rattle.dn_base.specs.Members.{Member}
use Rattle.dn_interval.specs.declared.span.TheConstants.{TOP}
use Rattle.dn_interval.specs.Spans.{in_span}
use Rattle.dn_audit.specs.declared.report.Shared.{Shared}

-- each number of the list comes after this one
abbrev pub AllAfter : ℕ → List ℕ → Type 0
AllAfter n [] = Unit {0}
AllAfter n (m ∷ ms) = (n < m) × AllAfter n ms

-- the numbers ascend
abbrev pub AreRising : List ℕ → Type 0
AreRising [] = Unit {0}
AreRising (n ∷ ns) = AllAfter n ns × AreRising ns

-- there are two or more
abbrev pub AreSeveral : List ℕ → Type 0
AreSeveral [] = ⊥
AreSeveral (n ∷ []) = ⊥
AreSeveral (n ∷ (m ∷ ms)) = Unit {0}

-- the next row, where it touches, is of other agents
abbrev pub AreOthers : Shared → List Shared → Type 0
AreOthers r [] = Unit {0}
AreOthers r (s ∷ rest) = s.span.lo ≡ suc r.span.hi → s.agents ≡ r.agents → ⊥

-- the rows stand at an address or above it, one above the other, each with two agents or more that
-- ascend, and two that touch have different agents
abbrev pub StandApart : ℕ → List Shared → Type 0
StandApart from [] = Unit {0}
StandApart from (r ∷ rest) =
    (from ≤ r.span.lo) × AreSeveral r.agents × AreRising r.agents × AreOthers r rest
    × StandApart (suc r.span.hi) rest

-- the rows give the address to the agent
abbrev pub IsSharedWith : List Shared → ℕ → ℕ → Type 0
IsSharedWith [] a agent = ⊥
IsSharedWith (r ∷ rest) a agent =
    (IsTrue (in_span r.span a) × Member agent r.agents) ⊎ IsSharedWith rest a agent

-- two agents have the address
abbrev pub HaveTwo : (ℕ → ℕ → Bool) → ℕ → Type 0
HaveTwo has a = (g : ℕ) × (h : ℕ) × (g < h) × IsTrue (has g a) × IsTrue (has h a)

-- The rows of a function that says which agent has which address: exactly the addresses that two or
-- more agents have, each with all agents that have it, and as few rows as can be.
pub record AreShared (has : ℕ → ℕ → Bool) (rows : List Shared) : Type 0 where
  pub apart : StandApart 0 rows
  pub exact : (a agent : ℕ) → a ≤ TOP →
      IsSharedWith rows a agent ↔ (IsTrue (has agent a) × HaveTwo has a)

-- each row is of this node
abbrev pub AreOfNode : ℕ → List Shared → Type 0
AreOfNode node [] = Unit {0}
AreOfNode node (r ∷ rest) = (r.node ≡ node) × AreOfNode node rest

-- rows of one node, by a function that says which agent has which address of it
pub record AreSharedIn (node : ℕ) (has : ℕ → ℕ → Bool) (rows : List Shared) : Type 0 where
  pub there : AreOfNode node rows
  pub shared : AreShared has rows

-- rows of a node are added at the end
abbrev pub AddsShared : ℕ → (ℕ → ℕ → Bool) → List Shared → List Shared → Type 0
AddsShared node has old new = (rows : List Shared) × (new ≡ old ++ rows) × AreSharedIn node has rows

-- the nodes of the rows do not fall
abbrev pub NodesAscend : ℕ → List Shared → Type 0
NodesAscend from [] = Unit {0}
NodesAscend from (r ∷ rest) = (from ≤ r.node) × NodesAscend r.node rest

-- the rows of a node
abbrev pub rows_in : ℕ → List Shared → List Shared
rows_in node rows = filter (λ r. r.node == node) rows

-- The rows of all nodes, by a function that says which agent has which address of which node: by
-- ascending nodes, and of each node its rows.
pub record AreSharedBy (has : ℕ → ℕ → ℕ → Bool) (rows : List Shared) : Type 0 where
  pub ascend : NodesAscend 0 rows
  pub each : (node : ℕ) → AreShared (has node) (rows_in node rows)
