-- The rules on units that walks meet: `Fork`, on names that reach a unit in several ways, and
-- `Chain`, on units that lead to one another; and the laws that tie them to chains of steps.
use Rattle.std.specs.Prelude.{◌≡◌, ℕ, zero, suc, ◌*◌, ◌^◌, ◌<◌, ◌≤◌, ◌⊎◌, Bool, false, if◌then◌else◌, ◌&&◌, nat_lt, ◌==◌, List, [], ◌∷◌, map, filter, length, Option, Some, None, option_map, IsSome, IsTrue}
use Rattle.std.specs.List.{flat_map, list_any}
use Rattle.std.specs.Option.{is_some}
use Rattle.dn_net.specs.declared.node.Name.{Name}
use Rattle.dn_net.specs.declared.node.NodeDecl.{NodeDecl}
use Rattle.dn_net.specs.declared.node.Unit.{Unit as UnitPart}
use Rattle.dn_net.specs.Chain.{Member, IsChain, Reaches}
use Rattle.dn_net.specs.Decode.{unit_at, is_stop, steps, step_limit, Step}
use Rattle.dn_net.specs.Names.{name_lt, stop_names}
use Rattle.dn_net.specs.Rules.{KeepsNodeRules}
use Rattle.dn_net.specs.Firsts.{or_else, first_below, least_name, first_of}

-- FORK
-- a name with two or more destinations, and a unit that it reaches
pub record Fork : Type 0 where
  pub name : Name
  pub unit : ℕ

-- the name has two or more destinations, and reaches a unit
abbrev pub is_fork : List NodeDecl → Name → Bool
is_fork net x = nat_lt 1 (length (steps net x)) && is_some (first_of (stop_names net x))

-- the fork at a name, with the unit of the name's least stop
abbrev pub fork_at : List NodeDecl → Option Name → Option Fork
fork_at net None = None
fork_at net (Some x) = option_map (λ s. record { name = x; unit = s.node }) (first_of (stop_names net x))

-- Fork: the least name with two or more destinations that reaches a unit, and the least unit that
-- it reaches
unfoldable pub least_fork : List NodeDecl → Option Fork
least_fork net = fork_at net (least_name net (is_fork net))

-- CHAIN
-- the name reaches the unit of this number
abbrev pub reaches_unit : List NodeDecl → ℕ → Name → Bool
reaches_unit net w x = list_any (λ s. s.node == w) (stop_names net x)

-- some address of the port below 2^reach reaches the unit
abbrev pub port_leads : List NodeDecl → ℕ → ℕ → ℕ → Bool
port_leads net w reach port =
    is_some (first_below (λ a. reaches_unit net w (record { node = port; addr = a })) (2 ^ reach))

-- some port of a unit does, where the node is one
abbrev pub unit_part_leads : List NodeDecl → ℕ → Option UnitPart → Bool
unit_part_leads net w None = false
unit_part_leads net w (Some u) = list_any (port_leads net w u.reach) u.ports

-- the unit of one number leads to that of another
abbrev pub unit_leads : List NodeDecl → ℕ → ℕ → Bool
unit_leads net u w = unit_part_leads net w (unit_at net u)

-- the numbers of the units among nodes of which the first has this number
abbrev pub units_from : ℕ → List NodeDecl → List ℕ
units_from number [] = []
units_from number (n ∷ ns) =
    if is_some n.unit then number ∷ units_from (suc number) ns else units_from (suc number) ns

-- the numbers of the units, ascending
abbrev pub unit_numbers : List NodeDecl → List ℕ
unit_numbers net = units_from 0 net

-- the units to which a unit leads, ascending
abbrev pub next_units : List NodeDecl → ℕ → List ℕ
next_units net u = filter (unit_leads net u) (unit_numbers net)

-- the rows of so many units of which the first is one of these and each is one of those next to the
-- one before it, in order of their numbers
unfoldable pub unit_rows_from : (ℕ → List ℕ) → ℕ → List ℕ → List (List ℕ)
unit_rows_from next zero first = [] ∷ []
unit_rows_from next (suc k) first = flat_map (λ u. map (λ us. u ∷ us) (unit_rows_from next k (next u))) first

-- the rows of so many units, each of which leads to the next, in order of their numbers
abbrev pub unit_rows : List NodeDecl → ℕ → List (List ℕ)
unit_rows net k = unit_rows_from (next_units net) k (unit_numbers net)

-- how many slots the unit has; what is no unit counts as one
abbrev pub unit_slots : Option UnitPart → ℕ
unit_slots None = 1
unit_slots (Some u) = u.slots

-- the slots of the units of a row, multiplied
abbrev pub slots_product : List NodeDecl → List ℕ → ℕ
slots_product net [] = 1
slots_product net (u ∷ us) = unit_slots (unit_at net u) * slots_product net us

-- the most that the slots of a row multiply to
unfoldable pub slots_limit : ℕ
slots_limit = 1048576

-- the slots of the row multiply to more
abbrev pub is_large : List NodeDecl → List ℕ → Bool
is_large net us = nat_lt slots_limit (slots_product net us)

-- the first of some rows
abbrev pub first_row : List (List ℕ) → Option (List ℕ)
first_row [] = None
first_row (us ∷ rows) = Some us

-- the first row of so many units whose slots multiply to more than the limit
abbrev pub large_row : List NodeDecl → ℕ → Option (List ℕ)
large_row net k = first_row (filter (is_large net) (unit_rows net k))

-- Chain: the first row of four units; where there is none, the first row of one unit, or else of
-- two, or else of three, whose slots multiply to more than the limit
unfoldable pub first_chain : List NodeDecl → Option (List ℕ)
first_chain net =
    or_else (first_row (unit_rows net 4))
    (or_else (large_row net 1) (or_else (large_row net 2) (large_row net 3)))

-- THE LAWS
-- no chain has 65 steps
abbrev pub IsShallow : List NodeDecl → Type 0
IsShallow net = (x y : Name) → IsChain (Step net) step_limit x y → ⊥

-- the name has two or more destinations, and reaches the unit
pub record IsFork (net : List NodeDecl) (x : Name) (u : ℕ) : Type 0 where
  pub several : 1 < length (steps net x)
  pub reaches : (s : Name) × (s.node ≡ u) × IsTrue (is_stop net s) × Reaches (Step net) x s

-- it is a fork, and no name before it forks, and it reaches no lesser unit
pub record IsLeastFork (net : List NodeDecl) (x : Name) (u : ℕ) : Type 0 where
  pub fork : IsFork net x u
  pub least : (y : Name) (w : ℕ) → IsFork net y w → IsTrue (name_lt x y) ⊎ ((x ≡ y) × (u ≤ w))

-- The fork that is carried is the least, and where there is none no name forks.
abbrev pub ForkIsLeast : Type 0
ForkIsLeast = (net : List NodeDecl) → KeepsNodeRules net → IsShallow net →
    ((f : Fork) → least_fork net ≡ Some f → IsLeastFork net f.name f.unit)
    × (least_fork net ≡ None → (x : Name) (u : ℕ) → IsFork net x u → ⊥)

-- no name forks on its way to a unit: a name that reaches a unit has at most one step
abbrev pub NoFork : List NodeDecl → Type 0
NoFork net = (x s : Name) → IsTrue (is_stop net s) → Reaches (Step net) x s →
    length (steps net x) ≤ 1

-- a unit leads to another: for some port of it and some address below 2^reach, the name of that
-- address in the port's node reaches a name in the other
pub record LeadsTo (net : List NodeDecl) (u w : ℕ) : Type 0 where
  pub part : UnitPart
  pub port : ℕ
  pub addr : ℕ
  pub stop : Name
  pub is_part : unit_at net u ≡ Some part
  pub has_port : Member port part.ports
  pub below : addr < 2 ^ part.reach
  pub reaches : Reaches (Step net) (record { node = port; addr = addr }) stop
  pub is_stop : IsTrue (is_stop net stop)
  pub is_end : stop.node ≡ w

-- the unit leads to the first of a row
abbrev pub LeadsOn : List NodeDecl → ℕ → List ℕ → Type 0
LeadsOn net u [] = Unit {0}
LeadsOn net u (w ∷ ws) = LeadsTo net u w

-- a row of units: each leads to the next; a unit may stand in it several times
abbrev pub IsUnitRow : List NodeDecl → List ℕ → Type 0
IsUnitRow net [] = Unit {0}
IsUnitRow net (u ∷ us) = IsSome (unit_at net u) × LeadsOn net u us × IsUnitRow net us

-- a row comes no later than another, in order of their numbers
abbrev pub NoLaterRow : List ℕ → List ℕ → Type 0
NoLaterRow [] vs = Unit {0}
NoLaterRow (u ∷ us) [] = ⊥
NoLaterRow (u ∷ us) (v ∷ vs) = (u < v) ⊎ ((u ≡ v) × NoLaterRow us vs)

-- the first row of four units
pub record IsFirstOfFour (net : List NodeDecl) (us : List ℕ) : Type 0 where
  pub row : IsUnitRow net us
  pub four : length us ≡ 4
  pub first : (vs : List ℕ) → IsUnitRow net vs → length vs ≡ 4 → NoLaterRow us vs

-- a row of one to three units whose slots multiply to more than the limit
pub record IsLargeRow (net : List NodeDecl) (us : List ℕ) : Type 0 where
  pub row : IsUnitRow net us
  pub some : 1 ≤ length us
  pub short : length us ≤ 3
  pub large : slots_limit < slots_product net us

-- no row of four units is there, and this is the first such row: the shorter first, and then by
-- their numbers
pub record IsFirstLarge (net : List NodeDecl) (us : List ℕ) : Type 0 where
  pub no_four : (vs : List ℕ) → IsUnitRow net vs → length vs ≡ 4 → ⊥
  pub row : IsLargeRow net us
  pub first : (vs : List ℕ) → IsLargeRow net vs →
      (length us < length vs) ⊎ ((length us ≡ length vs) × NoLaterRow us vs)

-- every row has at most three units, whose slots multiply to at most the limit
pub record HasShortRows (net : List NodeDecl) : Type 0 where
  pub short : (us : List ℕ) → IsUnitRow net us → length us ≤ 3
  pub small : (us : List ℕ) → IsUnitRow net us → slots_product net us ≤ slots_limit

-- The row that is carried is the first of four units, or else the first of one to three whose slots
-- multiply to more than the limit; where there is none, every row is short and small.
abbrev pub ChainIsFirst : Type 0
ChainIsFirst = (net : List NodeDecl) → IsShallow net →
    ((us : List ℕ) → first_chain net ≡ Some us → IsFirstOfFour net us ⊎ IsFirstLarge net us)
    × (first_chain net ≡ None → HasShortRows net)
