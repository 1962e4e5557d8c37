-- Nets that were not made: why, as it is kept for the next command that asks for one.
use Rattle.std.specs.Prelude.{◌≡◌, ℕ, List, Some, Err, option_map}
use Rattle.std.specs.List.{All}
use Rattle.std.specs.Option.{IfSome}
use Rattle.dn_net.specs.declared.node.NodeDecl.{NodeDecl}
use Rattle.dn_shape.specs.declared.fault.AbsorbFault.{AbsorbFault}
use Rattle.dn_shape.specs.Absorb.{absorb_outcome}
use Rattle.dn_shape.specs.Faults.{absorb_fault_view}
use Rattle.dn_shape.specs.Split.{split_outcome}
use Rattle.dn_script.specs.declared.reshape.Unfit.{Unfit}
use Rattle.dn_script.specs.declared.reshape.Unmade.{Unmade}

-- for this the node is not absorbed
abbrev pub IsUnfitFor : List NodeDecl → ℕ → AbsorbFault → Type 0
IsUnfitFor net node why = option_map (λ r. Err r) (absorb_fault_view why) ≡ Some (absorb_outcome net node)

-- what is kept of a node is why it is not absorbed
abbrev pub IsUnfit : List NodeDecl → Unfit → Type 0
IsUnfit net u = IsUnfitFor net u.node u.why

-- the limit is the one that the split net passes
abbrev pub IsPassed : List NodeDecl → ℕ → Type 0
IsPassed net limit = split_outcome net ≡ Err limit

-- what is kept is why the net is not split, and why nodes are not absorbed
pub record AreUnmade (net : List NodeDecl) (u : Unmade) : Type 0 where
  pub split : IfSome u.split (IsPassed net)
  pub unfit : All (IsUnfit net) u.unfit
