-- What names come to through units, counted by the units.
use Rattle.std.specs.Prelude.{ℕ, zero, suc, ◌⊎◌, List}
use Rattle.dn_net.specs.declared.node.Name.{Name}
use Rattle.dn_net.specs.declared.node.NodeDecl.{NodeDecl}
use Rattle.dn_net.specs.Chain.{Member}
use Rattle.dn_net.specs.Decode.{Resolves, StopsAt}
use Rattle.dn_kind.specs.Tables.{Held, ResolvesUnder}
use Rattle.dn_view.specs.Passes.{outputs}

-- a name in a unit comes to an accepted name through at most so many units, its own the first
abbrev pub Through : List NodeDecl → Held → ℕ → Name → Name → Type 0
Through net h zero s z = ⊥
Through net h (suc n) s z =
    (w : Name) × Member w (outputs net h s)
    × (Resolves net w z ⊎ ((t : Name) × StopsAt net w t × Through net h n t z))

-- a name in a unit comes to an accepted name through a fresh record: after fewer than so many of the
-- first records, one of the fresh ones, and then by all
abbrev pub Newly : List NodeDecl → Held → Held → Held → ℕ → Name → Name → Type 0
Newly net h fresh all zero s z = ⊥
Newly net h fresh all (suc n) s z =
    ((w : Name) × Member w (outputs net fresh s) × ResolvesUnder net all w z)
    ⊎ ((w : Name) × Member w (outputs net h s)
    × ((t : Name) × StopsAt net w t × Newly net h fresh all n t z))

-- a name in a unit comes to an accepted name through at most three units; no search unfolds it
unfoldable pub ComesThrough : List NodeDecl → Held → Name → Name → Type 0
ComesThrough net h s z = Through net h 3 s z

-- a name in a unit comes to an accepted name through a fresh record, after at most two of the first
-- ones; no search unfolds it
unfoldable pub ComesNewly : List NodeDecl → Held → Held → Held → Name → Name → Type 0
ComesNewly net h fresh all s z = Newly net h fresh all 3 s z

-- a name comes so to an accepted name
abbrev pub IsShownNewly : List NodeDecl → Held → Held → Held → Name → Name → Type 0
IsShownNewly net h fresh all x z = (t : Name) × StopsAt net x t × ComesNewly net h fresh all t z

-- a name in a unit is passed on by a fresh record, and then by all; no search unfolds it
unfoldable pub IsPassedOn : List NodeDecl → Held → Held → Name → Name → Type 0
IsPassedOn net fresh all s z =
    (w : Name) × Member w (outputs net fresh s) × ResolvesUnder net all w z
