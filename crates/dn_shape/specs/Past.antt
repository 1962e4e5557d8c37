-- The walks that lead from a node past another, of which the rows are made.
use Rattle.std.specs.Prelude.{ℕ, ◌+◌, ◌-◌, Bool, if◌then◌else◌, ◌&&◌, nat_le, nat_eq, ◌==◌, List, [], ◌∷◌}
use Rattle.std.specs.List.{list_any}
use Rattle.std.specs.List.Sorted.{IsNonDecreasingBy}
use Rattle.dn_interval.specs.declared.row.End.{End}
use Rattle.dn_interval.specs.declared.row.Seg.{Seg}
use Rattle.dn_net.specs.declared.node.NodeDecl.{NodeDecl}
use Rattle.dn_net.specs.Walks.{Walk, extensions_of}
use Rattle.dn_walk.specs.Legs.{BareLeg}
use Rattle.dn_walk.specs.Rows.{BareWalk}
use Rattle.dn_walk.specs.Levels.{bare_extensions_by}

-- a walk into the node goes on by one more choice, and any other stays
abbrev pub onward : List NodeDecl → ℕ → Walk → List Walk
onward net m w = if w.to.node == m then extensions_of net w else w ∷ []

-- the same of what is told of a walk, by the legs of the node
abbrev pub bare_onward : List BareLeg → ℕ → BareWalk → List BareWalk
bare_onward legs m t = if t.end == m then bare_extensions_by legs t else t ∷ []

-- legs by which walks go on: neither their first nor their last addresses descend
pub record LeadOn (legs : List Seg) : Type 0 where
  pub firsts : IsNonDecreasingBy (λ (s : Seg). s.span.lo) legs
  pub lasts : IsNonDecreasingBy (λ (s : Seg). s.span.hi) legs

-- the address follows the walk to the name
abbrev pub bare_gives : BareWalk → ℕ → End → Bool
bare_gives t a y =
    (nat_le t.lo a && nat_le a t.hi)
    && (nat_eq t.end y.node && nat_eq (t.base + (a - t.lo)) y.base)

-- the address follows one of the walks to the name
abbrev pub bare_give : List BareWalk → ℕ → End → Bool
bare_give ts a y = list_any (λ t. bare_gives t a y) ts
