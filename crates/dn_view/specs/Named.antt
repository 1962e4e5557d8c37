-- Lists of names to which more are added: those to which a name comes, and those that segments give.
use Rattle.std.specs.Prelude.{◌≡◌, ℕ, ◌⊎◌, ◌↔◌, Bool, ◌||◌, List}
use Rattle.std.specs.List.{list_any}
use Rattle.dn_interval.specs.declared.row.Seg.{Seg}
use Rattle.dn_interval.specs.Strands.{seg_gives, segs_give}
use Rattle.dn_net.specs.declared.node.Name.{Name}
use Rattle.dn_net.specs.declared.node.NodeDecl.{NodeDecl}
use Rattle.dn_net.specs.Chain.{Member}
use Rattle.dn_net.specs.Decode.{Resolves, StopsAt}
use Rattle.dn_net.specs.Names.{name_eq}
use Rattle.dn_walk.specs.Ends.{end_of}
use Rattle.dn_view.specs.declared.part.FlatPart.{FlatPart}
use Rattle.dn_view.specs.declared.part.FlatPart.TheVariants.{Accepts, Stops}

-- the name stands in the list
abbrev pub has_name : List Name → Name → Bool
has_name xs z = list_any (name_eq z) xs

-- the segment begins at the address of the name, and gives the name there
pub record IsAtName (x : Name) (s : Seg) : Type 0 where
  pub node : s.node ≡ x.node
  pub base : s.base ≡ x.addr
  pub lo : s.span.lo ≡ x.addr

-- the name comes to the other in the net: it resolves to it, or that is one of its stops
abbrev pub ComesTo : List NodeDecl → FlatPart → Name → Name → Type 0
ComesTo net Accepts x z = Resolves net x z
ComesTo net Stops x z = StopsAt net x z

-- the names that were there, and those of which this is true
abbrev pub AddsThose : (Name → Type 0) → List Name → List Name → Type 0
AddsThose P old new = (z : Name) → Member z new ↔ (Member z old ⊎ P z)

-- the names that were there, and those to which the name comes
abbrev pub AddsPart : List NodeDecl → FlatPart → Name → List Name → List Name → Type 0
AddsPart net part x old new = AddsThose (ComesTo net part x) old new

-- the names that were there, and those that the segments give to the address
abbrev pub AddsGiven : List Seg → ℕ → List Name → List Name → Type 0
AddsGiven segs a old new = (z : Name) → has_name new z ≡ (has_name old z || segs_give segs a (end_of z))

-- the names that were there, and the one that the segment gives to the address, where it gives one
abbrev pub AddsOne : Seg → ℕ → List Name → List Name → Type 0
AddsOne s a old new = (z : Name) → has_name new z ≡ (has_name old z || seg_gives s a (end_of z))
