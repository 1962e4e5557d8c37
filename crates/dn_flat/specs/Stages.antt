-- Stages: what the addresses of each node come to in fewer than so many steps, and in exactly so many.
use Rattle.std.specs.Prelude.{◌≡◌, ℕ, ◌<◌, Bool, List, [], ◌∷◌, length, slice_get, Some, IsTrue}
use Rattle.dn_interval.specs.declared.row.End.{End}
use Rattle.dn_interval.specs.declared.row.Row.{Row}
use Rattle.dn_interval.specs.declared.span.TheConstants.{TOP}
use Rattle.dn_interval.specs.Rows.{AreNormal, ends_within}
use Rattle.dn_net.specs.declared.node.Name.{Name}
use Rattle.dn_net.specs.declared.node.NodeDecl.{NodeDecl}
use Rattle.dn_net.specs.Chain.{IsChain}
use Rattle.dn_net.specs.Decode.{Step, is_accepted, is_stop}
use Rattle.dn_walk.specs.Ends.{name_of_end}
use Rattle.dn_flat.specs.declared.flat.Flat.{Flat}
use Rattle.dn_flat.specs.declared.reach.Reach.{Reach}
use Rattle.dn_flat.specs.Views.{ResolvesFrom, StopsFrom}

-- reached in fewer than so many steps
abbrev pub ReachesBefore : {X : Type 0} → (X → X → Type 0) → ℕ → X → X → Type 0
ReachesBefore S k x y = (j : ℕ) × (j < k) × IsChain S j x y

-- the name passes a test, and ends a chain of fewer than so many steps from the address of the node
abbrev pub EndsBefore : List NodeDecl → (Name → Bool) → ℕ → ℕ → ℕ → End → Type 0
EndsBefore net passes k node a y = IsTrue (passes (name_of_end y)) × ReachesBefore (Step net) k (record { node = node; addr = a }) (name_of_end y)

-- the name ends a chain of exactly so many steps from the address of the node
abbrev pub GoesIn : List NodeDecl → ℕ → ℕ → ℕ → End → Type 0
GoesIn net k node a y = IsChain (Step net) k (record { node = node; addr = a }) (name_of_end y)

-- the rows give to each address of the node the accepted names and the stops that it reaches in fewer than so many steps
pub record IsDone (net : List NodeDecl) (k node : ℕ) (flat : Flat) : Type 0 where
  pub accepts : AreNormal (EndsBefore net (is_accepted net) k node) flat.accepts
  pub stops : AreNormal (EndsBefore net (is_stop net) k node) flat.stops

-- they do, and others give the names that it reaches in exactly so many steps
pub record IsReach (net : List NodeDecl) (k node : ℕ) (reach : Reach) : Type 0 where
  pub done : IsDone net k node reach.done
  pub go : AreNormal (GoesIn net k node) reach.go

-- there is one for each node
pub record AreReaches (net : List NodeDecl) (k : ℕ) (nodes : List Reach) : Type 0 where
  pub every : length nodes ≡ length net
  pub each : (node : ℕ) (reach : Reach) → slice_get nodes node ≡ Some reach → IsReach net k node reach

-- a stage: a number of steps, and what each node comes to by so many
pub record StageRows : Type 0 where
  pub steps : ℕ
  pub nodes : List Reach

-- the stage is that of the net for its number of steps
abbrev pub IsStage : List NodeDecl → StageRows → Type 0
IsStage net stage = AreReaches net stage.steps stage.nodes

-- the rows give to each address of the node the accepted names to which it resolves, and its stops
pub record IsFlat (net : List NodeDecl) (node : ℕ) (flat : Flat) : Type 0 where
  pub accepts : AreNormal (ResolvesFrom net node) flat.accepts
  pub stops : AreNormal (StopsFrom net node) flat.stops
  -- each name of a row is in a node that is there
  pub within : IsTrue (ends_within (length net) flat.accepts)
  pub stops_within : IsTrue (ends_within (length net) flat.stops)

-- a row leads each address to that address of another node
pub record IsLedBy (other : ℕ) (row : Row) : Type 0 where
  pub lo : row.span.lo ≡ 0
  pub hi : row.span.hi ≡ TOP
  pub ends : row.ends ≡ record { node = other; base = 0 } ∷ []

-- each address of a node goes on to that address of another, and is neither accepted nor a stop
pub record IsLedTo (other : ℕ) (reach : Reach) : Type 0 where
  pub accepts : reach.done.accepts ≡ []
  pub stops : reach.done.stops ≡ []
  pub row : Row
  pub go : reach.go ≡ row ∷ []
  pub led : IsLedBy other row
  pub open led use *
