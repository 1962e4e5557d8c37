-- The addresses of an agent that reach the names of a unit.
use Rattle.std.specs.Prelude.{◌≡◌, ℕ, suc, ◌+◌, ◌-◌, ◌<◌, ◌≤◌, ◌↔◌, List, [], ◌∷◌}
use Rattle.dn_interval.specs.declared.row.End.{End}
use Rattle.dn_interval.specs.declared.row.Row.{Row}
use Rattle.dn_interval.specs.declared.span.TheConstants.{TOP}
use Rattle.dn_interval.specs.Rows.{further_end, AreNormal}
use Rattle.dn_net.specs.declared.node.NodeDecl.{NodeDecl}
use Rattle.dn_flat.specs.Views.{StopsFrom}
use Rattle.dn_place.specs.declared.preimages.Preimages.{Preimages}
use Rattle.dn_place.specs.declared.preimages.Way.{Way}

-- the name is an address of the agent, none past the last, and this address of the unit is a stop of it
pub record IsPreimage (net : List NodeDecl) (agent unit x : ℕ) (z : End) : Type 0 where
  pub node : z.node ≡ agent
  pub low : z.base ≤ TOP
  pub stop : StopsFrom net agent z.base (record { node = unit; base = x })

-- the rows give to each address of the unit the addresses of the agent that reach it
abbrev pub ArePreimages : List NodeDecl → ℕ → Preimages → Type 0
ArePreimages net agent p = AreNormal (IsPreimage net agent p.unit) p.rows

-- the addresses of a way of the agent reach names one after another; those from the one at which a buffer is given reach
-- so many names from this one on
pub record IsWayTo (net : List NodeDecl) (agent : ℕ) (t : End) (size : ℕ) (way : Way) : Type 0 where
  pub from : way.first ≤ way.v
  pub to : way.v + size ≤ suc way.last
  pub within : way.last ≤ TOP
  -- the address, in the unit, of the name that the first one reaches
  pub base : ℕ
  pub wanted : base + (way.v - way.first) ≡ t.base
  pub stops : (a : ℕ) → way.first ≤ a → a ≤ way.last →
      StopsFrom net agent a (record { node = t.node; base = base + (a - way.first) })

-- so many addresses of the agent from one on, and no other address of it, reach the names of the unit from one on, one
-- after another
abbrev pub LeadsAlone : List NodeDecl → ℕ → ℕ → ℕ → ℕ → ℕ → Type 0
LeadsAlone net agent unit x size v = (i : ℕ) (z : End) → i < size →
    IsPreimage net agent unit (x + i) z ↔ (further_end i (record { node = agent; base = v }) ≡ z)

-- The row, of names of a unit, gives one address to each of its names, and has so many names from one on. The way has the
-- addresses of the row, and its `v` is the one of the first of these names.
pub record IsWayBack (r : Row) (x size : ℕ) (way : Way) : Type 0 where
  pub node : ℕ
  pub ends : r.ends ≡ record { node = node; base = way.first } ∷ []
  pub last : way.last ≡ way.first + (r.span.hi - r.span.lo)
  pub at : way.v ≡ way.first + (x - r.span.lo)
  pub within : way.last ≤ TOP
  pub from : r.span.lo ≤ x
  pub to : x + size ≤ suc r.span.hi
