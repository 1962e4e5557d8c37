-- Legal nets: what the limits, the node rules and the rules on walks leave of a net, as facts.
use Rattle.std.specs.Prelude.{◌≡◌, ◌≢◌, ℕ, ◌≤◌, ◌↔◌, List, length, None, IsTrue}
use Rattle.std.specs.List.{AllPairs, list_all}
use Rattle.dn_net.specs.declared.node.NodeDecl.{NodeDecl}
use Rattle.dn_net.specs.Decode.{top, step_limit, is_formed, is_closed}
use Rattle.dn_net.specs.Rules.{KeepsNodeRules, node_fault}
use Rattle.dn_net.specs.Units.{has_plain_units}
use Rattle.dn_net.specs.UnitRules.{IsShallow, NoFork, HasShortRows, slots_limit}
use Rattle.dn_net.specs.Walks.{live_walks}
use Rattle.dn_net.specs.WalkRules.{walk_limit, walk_fault}

-- the most nodes of a net
abbrev pub node_limit : ℕ
node_limit = 1024

-- what every net is: at most 1,024 nodes, each of them formed, and no two with one full name
pub record IsNet (net : List NodeDecl) : Type 0 where
  pub few : length net ≤ node_limit
  pub formed : IsTrue (list_all is_formed net)
  pub names_differ : AllPairs (λ (n m : NodeDecl). n.text ≢ m.text) net

-- what the first rules on walks leave of a net: few live walks, and no chain of 65 steps
pub record KeepsEndlessRules (net : List NodeDecl) : Type 0 where
  pub few : length (live_walks net step_limit) ≤ walk_limit
  pub shallow : IsShallow net

-- what the rules on units leave of a net: a name that reaches a unit has at most one step, and
-- every row of units has at most three, whose slots multiply to at most 1,048,576
pub record KeepsUnitRules (net : List NodeDecl) : Type 0 where
  pub no_fork : NoFork net
  pub rows : HasShortRows net

-- a legal net
pub record IsLegalNet (net : List NodeDecl) : Type 0 where
  pub is_net : IsNet net
  pub nodes : KeepsNodeRules net
  pub shapes : IsTrue (has_plain_units net)
  pub walks : KeepsEndlessRules net
  pub units : KeepsUnitRules net

-- A net with each node to which it refers breaks no rule, and its units have plain shapes, exactly
-- where it is legal.
abbrev pub LegalBreaksNoRule : Type 0
LegalBreaksNoRule = (net : List NodeDecl) → IsNet net → IsTrue (is_closed net) →
    ((node_fault net ≡ None) × IsTrue (has_plain_units net) × (walk_fault net ≡ None))
    ↔ IsLegalNet net

-- The limits in numbers: the last address is 2^56 - 1, a net has at most 1,024 nodes, a chain that
-- resolution follows has at most 65 steps, so that a path has 66 names, there are at most 1,048,576
-- live walks, and the slots of a row of units multiply to at most 1,048,576.
pub record AreLimits : Type 0 where
  pub last_address : top ≡ 72057594037927935
  pub nodes : node_limit ≡ 1024
  pub chain_steps : step_limit ≡ 65
  pub live_walks : walk_limit ≡ 1048576
  pub row_slots : slots_limit ≡ 1048576
