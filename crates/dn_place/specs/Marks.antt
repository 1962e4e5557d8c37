-- Marks on nodes, and what they say of the units to which an agent leads.
use Rattle.std.specs.Prelude.{◌≡◌, ℕ, suc, ◌<◌, ◌≤◌, Bool, true, false, cond, nat_eq, List, [], ◌∷◌, length, slice_get, slice_index_or, Option, Some, None}
use Rattle.dn_interval.specs.declared.row.End.{End}
use Rattle.dn_net.specs.declared.node.Name.{Name}
use Rattle.dn_net.specs.declared.node.NodeDecl.{NodeDecl}
use Rattle.dn_net.specs.declared.node.Unit.{Unit as UnitPart}
use Rattle.dn_net.specs.Decode.{top, unit_at, StopsAt}
use Rattle.dn_flat.specs.Levels.{is_among}

-- the node has a mark
abbrev pub is_marked : List Bool → ℕ → Bool
is_marked marks n = slice_index_or marks n false

-- the mark of a unit for a place from the agent's end
abbrev pub mark_at : List Bool → List Bool → List Bool → ℕ → ℕ → Bool
mark_at first second third place n =
    cond (nat_eq place 1) (is_marked first n)
    (cond (nat_eq place 2) (is_marked second n) (is_marked third n))

-- no mark is lost
abbrev pub Keeps : List Bool → List Bool → Type 0
Keeps old new = (n : ℕ) → is_marked old n ≡ true → is_marked new n ≡ true

-- each node of a list has a mark
abbrev pub MarksListed : List ℕ → List Bool → Type 0
MarksListed nodes marks = (n : ℕ) → is_among n nodes ≡ true → n < length marks →
    is_marked marks n ≡ true

-- each node in which an address of a node has a stop has a mark
abbrev pub Marks : List NodeDecl → ℕ → List Bool → Type 0
Marks net node marks = (a : ℕ) (z : Name) → a ≤ top →
    StopsAt net (record { node = node; addr = a }) z → z.node < length marks →
    is_marked marks z.node ≡ true

-- each node has a mark to which a port leads of a marked unit that a list has before this place
abbrev pub MarkedBefore : List NodeDecl → List Bool → List ℕ → ℕ → List Bool → Type 0
MarkedBefore net from units place marks = (i w k n : ℕ) (u : UnitPart) → i < place →
    w ≡ slice_index_or units i 0 → is_marked from w ≡ true → unit_at net w ≡ Some u →
    slice_get u.ports k ≡ Some n → Marks net n marks

-- each node of a net in which an address of a node has a stop has a mark
abbrev pub MarksAll : List NodeDecl → ℕ → List Bool → Type 0
MarksAll net node marks = (a : ℕ) (z : Name) → a ≤ top →
    StopsAt net (record { node = node; addr = a }) z → z.node < length net →
    is_marked marks z.node ≡ true

-- each node has a mark to which a port of a marked unit leads
abbrev pub MarksAfter : List NodeDecl → List Bool → List Bool → Type 0
MarksAfter net from marks = (w k n : ℕ) (u : UnitPart) → is_marked from w ≡ true →
    unit_at net w ≡ Some u → slice_get u.ports k ≡ Some n → MarksAll net n marks

-- the units in which a first, a second and a third hop from an agent's end can stand have marks
pub record AreMarked (net : List NodeDecl) (agent : ℕ) (first second third : List Bool) : Type 0 where
  pub firsts : MarksAll net agent first
  pub seconds : MarksAfter net first second
  pub thirds : MarksAfter net second third

-- the numbers of the units from a bound on, ascending
abbrev pub AreUnitsFrom : List NodeDecl → ℕ → List ℕ → Type 0
AreUnitsFrom net bound [] = (n : ℕ) (u : UnitPart) → bound ≤ n → unit_at net n ≡ Some u → ⊥
AreUnitsFrom net bound (m ∷ rest) = (bound ≤ m)
    × ((n : ℕ) (u : UnitPart) → bound ≤ n → n < m → unit_at net n ≡ Some u → ⊥)
    × AreUnitsFrom net (suc m) rest

-- the stop that the address asked for reaches in an agent, where one is asked for and it reaches one
pub record IsEntry (net : List NodeDecl) (agent : ℕ) (at : Option ℕ) (entry : Option End) : Type 0 where
  pub reached : (v : ℕ) (z : Name) → at ≡ Some v → v ≤ top →
      StopsAt net (record { node = agent; addr = v }) z →
      entry ≡ Some (record { node = z.node; base = z.addr })
  pub unasked : at ≡ None → entry ≡ None
