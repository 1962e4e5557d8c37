-- The legs of nodes without their choices.
use Rattle.std.specs.Prelude.{ℕ, ◌+◌, ◌-◌, ◌<◌, ◌≤◌, Bool, nat_lt, List, [], ◌∷◌, ◌++◌, map, slice_get, Option, Some, None}
use Rattle.std.specs.List.{All, flat_map}
use Rattle.std.specs.List.Sorted.{IsNonDecreasingBy}
use Rattle.dn_net.specs.declared.entries.Place.{Place}
use Rattle.dn_net.specs.declared.node.Block.{Block}
use Rattle.dn_net.specs.declared.node.Dest.{Dest}
use Rattle.dn_net.specs.declared.node.Entry.{Entry}
use Rattle.dn_net.specs.declared.node.NodeDecl.{NodeDecl}
use Rattle.dn_net.specs.Decode.{top}
use Rattle.dn_net.specs.Walks.{Leg as NetLeg, cut_each, all_addresses, legs}
use Rattle.dn_interval.specs.declared.span.Span.{Span}
use Rattle.dn_interval.specs.declared.row.Seg.{Seg}

-- a leg without its choice: the addresses from lo to hi, of which the first goes to addr of node
pub record BareLeg : Type 0 where
  pub lo : ℕ
  pub hi : ℕ
  pub node : ℕ
  pub addr : ℕ

-- the leg that a segment is
abbrev pub leg_view : Seg → BareLeg
leg_view s = record { lo = s.span.lo; hi = s.span.hi; node = s.node; addr = s.base }

-- the addresses that a leg leads on
abbrev pub leg_block : BareLeg → Block
leg_block l = record { lo = l.lo; hi = l.hi }

-- what a leg is without its choice
abbrev pub bare_leg : NetLeg → BareLeg
bare_leg l = record { lo = l.block.lo; hi = l.block.hi; node = l.to.node; addr = l.to.addr }

-- the legs of a node, without the choices
abbrev pub bare_legs : NodeDecl → List BareLeg
bare_legs n = map bare_leg (legs n)

-- the leg of a block to a destination
abbrev pub dest_leg : Block → Dest → BareLeg
dest_leg b d = record { lo = b.lo; hi = b.hi; node = d.node; addr = d.addr }

-- the legs of entries, without their choices
abbrev pub bare_entry_legs : List Entry → List BareLeg
bare_entry_legs entries = flat_map (λ e. map (dest_leg e.block) e.dests) entries

-- the destinations of an entry, where there is one
abbrev pub dests_of : Option Entry → List Dest
dests_of None = []
dests_of (Some e) = e.dests

-- the legs of a map block with the place of its entry, without their choices
abbrev pub place_legs : List Entry → Place → List BareLeg
place_legs entries p = map (dest_leg p.block) (dests_of (slice_get entries p.entry))

-- the leg of a gap, to the same addresses of a node
abbrev pub gap_leg : ℕ → Block → BareLeg
gap_leg m b = record { lo = b.lo; hi = b.hi; node = m; addr = b.lo }

-- the legs of gaps, without their choices
abbrev pub bare_gap_legs : Option ℕ → List Block → List BareLeg
bare_gap_legs None spans = []
bare_gap_legs (Some m) spans = map (gap_leg m) spans

-- legs are ordered by their first addresses
abbrev pub leg_before : BareLeg → BareLeg → Bool
leg_before l m = nat_lt l.lo m.lo

-- the gaps between blocks
abbrev pub gaps_by : List Block → List Entry → List Block
gaps_by accepts entries = cut_each (map (λ e. e.block) entries ++ accepts) (all_addresses ∷ [])

-- a span as a block
abbrev pub span_view : Span → Block
span_view s = record { lo = s.lo; hi = s.hi }

-- the leg leads on some addresses, to addresses of one of so many nodes
pub record IsLegOf (count : ℕ) (l : BareLeg) : Type 0 where
  pub order : l.lo ≤ l.hi
  pub low : l.hi ≤ top
  pub node : l.node < count
  pub reach : l.addr + (l.hi - l.lo) ≤ top

-- legs of a node of a net of so many nodes: neither their first nor their last addresses descend
pub record AreLegs (count : ℕ) (ls : List BareLeg) : Type 0 where
  pub firsts : IsNonDecreasingBy (λ (l : BareLeg). l.lo) ls
  pub lasts : IsNonDecreasingBy (λ (l : BareLeg). l.hi) ls
  pub each : All (IsLegOf count) ls
