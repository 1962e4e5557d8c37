-- What rows tell of units: the forks that they show, which units lead to which, and rows of units.
use Rattle.std.specs.Prelude.{◌≡◌, ℕ, ◌+◌, ◌*◌, ◌^◌, ◌<◌, ◌≤◌, ◌⊎◌, Bool, true, false, if◌then◌else◌, ◌&&◌, ◌||◌, nat_lt, ◌==◌, List, [], filter, length, slice_index_or, Option, Some, None, IsTrue}
use Rattle.std.specs.List.{list_any}
use Rattle.std.specs.Option.{is_some}
use Rattle.dn_net.specs.declared.node.NodeDecl.{NodeDecl}
use Rattle.dn_net.specs.declared.node.Unit.{Unit as UnitPart}
use Rattle.dn_net.specs.Chain.{Member}
use Rattle.dn_net.specs.Decode.{steps, unit_at}
use Rattle.dn_net.specs.Names.{name_lt, name_eq}
use Rattle.dn_net.specs.Firsts.{or_else}
use Rattle.dn_net.specs.UnitRules.{unit_numbers, unit_rows_from, slots_product, first_row}
use Rattle.dn_walk.specs.declared.fork.FoundFork.{FoundFork}
use Rattle.dn_walk.specs.Rows.{BareWalk}
use Rattle.dn_walk.specs.Ways.{start_name}

-- the row ends in a unit, and its first name has two or more destinations
abbrev pub shows_fork : List NodeDecl → BareWalk → Bool
shows_fork net t = is_some (unit_at net t.end) && nat_lt 1 (length (steps net (start_name t)))

-- the fork that it shows
abbrev pub fork_shown : BareWalk → FoundFork
fork_shown t = record { name = start_name t; unit = t.end }

-- forks are ordered by their names, and then by their units
abbrev pub fork_before : FoundFork → FoundFork → Bool
fork_before f g = name_lt f.name g.name || (name_eq f.name g.name && nat_lt f.unit g.unit)

-- the lesser of a fork that may be there and another
abbrev pub lesser_fork : Option FoundFork → FoundFork → Option FoundFork
lesser_fork None f = Some f
lesser_fork (Some g) f = Some (if fork_before f g then f else g)

-- the lesser of a fork that may be there and the one that a row shows, if it shows one
abbrev pub with_shown : List NodeDecl → Option FoundFork → BareWalk → Option FoundFork
with_shown net least t = if shows_fork net t then lesser_fork least (fork_shown t) else least

-- one fork does not come after another
abbrev pub NoLaterFork : FoundFork → FoundFork → Type 0
NoLaterFork f g = IsTrue (name_lt f.name g.name) ⊎ ((f.name ≡ g.name) × (f.unit ≤ g.unit))

-- some row shows the fork, and none shows one that comes before it
pub record IsLeastForkOf (net : List NodeDecl) (rows : List BareWalk) (f : FoundFork) : Type 0 where
  pub shown : (t : BareWalk) × Member t rows × (shows_fork net t ≡ true) × (fork_shown t ≡ f)
  pub least : (t : BareWalk) → Member t rows → shows_fork net t ≡ true → NoLaterFork f (fork_shown t)

-- the least fork that rows show; where there is none, no row shows one
abbrev pub IsLeastShown : List NodeDecl → List BareWalk → Option FoundFork → Type 0
IsLeastShown net rows None = (t : BareWalk) → Member t rows → shows_fork net t ≡ false
IsLeastShown net rows (Some f) = IsLeastForkOf net rows f

-- the row leads from a node to another, from an address below the limit on
abbrev pub row_leads : ℕ → ℕ → ℕ → BareWalk → Bool
row_leads port w limit t = (t.start == port) && ((t.end == w) && nat_lt t.lo limit)

-- a number for each two of so many nodes: it is below a limit exactly where a row leads from the one
-- to the other from an address below the limit
pub record AreLows (count : ℕ) (rows : List BareWalk) (lows : List ℕ) : Type 0 where
  pub size : length lows ≡ count * count
  pub lower : (port w limit : ℕ) → port < count → w < count → limit ≤ 2 ^ 56 →
      nat_lt (slice_index_or lows (port * count + w) 0) limit
      ≡ list_any (row_leads port w limit) rows

-- a port of the unit is the other, or its lowest address is below the unit's reach
abbrev pub leads_by_lows : ℕ → List ℕ → UnitPart → ℕ → Bool
leads_by_lows count lows u w =
    list_any (λ p. (p == w) || nat_lt (slice_index_or lows (p * count + w) 0) (2 ^ u.reach)) u.ports

-- a port of the unit is the other, or a row leads from it to the other, from an address below the
-- unit's reach on
abbrev pub leads_by_rows : List BareWalk → UnitPart → ℕ → Bool
leads_by_rows rows u w =
    list_any (λ p. (p == w) || list_any (row_leads p w (2 ^ u.reach)) rows) u.ports

-- those of some units to which a node leads, where it is a unit
abbrev pub next_units_by : (UnitPart → ℕ → Bool) → List ℕ → Option UnitPart → List ℕ
next_units_by leads units None = []
next_units_by leads units (Some u) = filter (leads u) units

-- the units to which the node of a number leads, as rows tell it
abbrev pub next_by_rows : List NodeDecl → List BareWalk → ℕ → List ℕ
next_by_rows net rows u = next_units_by (leads_by_rows rows) (unit_numbers net) (unit_at net u)

-- the first row of so many units whose slots multiply to more than a number: its first unit is one
-- of these, and each other is one of those listed for the one before it
abbrev pub first_over : List NodeDecl → List (List ℕ) → ℕ → ℕ → List ℕ → Option (List ℕ)
first_over net next k most first =
    first_row (filter (λ us. nat_lt most (slots_product net us)) (unit_rows_from (λ u. slice_index_or next u []) k first))

-- the first row of four units; or else of one, or of two, or of three whose slots multiply to more
-- than 1,048,576
abbrev pub chain_by : List NodeDecl → List (List ℕ) → List ℕ → Option (List ℕ)
chain_by net next first =
    or_else (first_over net next 4 0 first)
    (or_else (first_over net next 1 1048576 first)
    (or_else (first_over net next 2 1048576 first) (first_over net next 3 1048576 first)))
