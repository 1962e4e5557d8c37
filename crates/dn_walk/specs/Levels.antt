-- The levels of walks as lists of what is told of each walk.
use Rattle.std.specs.Prelude.{◌≡◌, ℕ, zero, suc, ◌+◌, ◌-◌, ◌<◌, ◌≤◌, Bool, ◌&&◌, ◌||◌, nat_lt, ◌==◌, List, [], ◌∷◌, ◌++◌, map, filter, length, slice_index_or}
use Rattle.std.specs.List.{flat_map}
use Rattle.std.specs.Option.{IfSome}
use Rattle.dn_net.specs.Decode.{top}
use Rattle.dn_net.specs.Walks.{Run, goes_into, cut_run, in_order}
use Rattle.dn_net.specs.WalkRules.{walk_limit, is_wide}
use Rattle.dn_walk.specs.declared.level.WalkLevels.{WalkLevels}
use Rattle.dn_walk.specs.declared.fault.WalkFault.{WalkFault}
use Rattle.dn_walk.specs.Legs.{BareLeg, leg_block}
use Rattle.dn_walk.specs.Rows.{BareWalk, row_view, walk_fault_view}

-- the addresses that follow it, and where the first of them comes out
abbrev pub told_run : BareWalk → Run
told_run t = record { span = record { lo = t.lo; hi = t.hi }; base = t.base }

-- some address at which it comes out goes on by the leg
abbrev pub bare_meets : BareWalk → BareLeg → Bool
bare_meets t l = goes_into (told_run t) (leg_block l)

-- it, with one more leg, for the addresses that go on by it
abbrev pub bare_onto : BareWalk → BareLeg → BareWalk
bare_onto t l = along (cut_run (told_run t) (leg_block l) l.addr)
  where
    along : Run → BareWalk
    along r = record { start = t.start; lo = r.span.lo; hi = r.span.hi; end = l.node; base = r.base; len = t.len + 1 }

-- what goes on by one of the legs
abbrev pub bare_extensions_by : List BareLeg → BareWalk → List BareWalk
bare_extensions_by ls t = map (bare_onto t) (filter (bare_meets t) ls)

-- what goes on from it by the legs of its end node
abbrev pub bare_extensions : List (List BareLeg) → BareWalk → List BareWalk
bare_extensions legs t = bare_extensions_by (slice_index_or legs t.end []) t

-- the walk of no choice from a node
abbrev pub bare_still_walk : ℕ → BareWalk
bare_still_walk n = record { start = n; lo = 0; hi = top; end = n; base = 0; len = 0 }

-- the walks of no choice of so many nodes, from a number on
abbrev pub bare_still_walks : ℕ → ℕ → List BareWalk
bare_still_walks n zero = []
bare_still_walks n (suc k) = bare_still_walk n ∷ bare_still_walks (suc n) k

-- the walks of so many choices, in the order in which they are made from the legs of the nodes
unfoldable pub bare_level : List (List BareLeg) → ℕ → List BareWalk
bare_level legs zero = bare_still_walks 0 (length legs)
bare_level legs (suc k) = flat_map (bare_extensions legs) (bare_level legs k)

-- the order by start, and by the first and the last address
abbrev pub bare_before : BareWalk → BareWalk → Bool
bare_before t u = nat_lt t.start u.start || ((t.start == u.start) && (nat_lt t.lo u.lo || ((t.lo == u.lo) && nat_lt t.hi u.hi)))

-- the walks of 1 to so many choices
unfoldable pub bare_walks : List (List BareLeg) → ℕ → List BareWalk
bare_walks legs zero = []
bare_walks legs (suc k) = bare_walks legs k ++ in_order bare_before (bare_level legs (suc k))

-- the levels from that of no choice on, each in order
unfoldable pub bare_levels : List (List BareLeg) → ℕ → List (List BareWalk)
bare_levels legs zero = []
bare_levels legs (suc k) = bare_levels legs k ++ in_order bare_before (bare_level legs k) ∷ []

-- the levels that have been made, from the legs of the nodes
pub record AreWalkLevels (legs : List (List BareLeg)) (l : WalkLevels) : Type 0 where
  pub sorted : map (map row_view) l.sorted.items ≡ bare_levels legs (length l.sorted.items)
  pub newest : map row_view l.newest.items ≡ bare_level legs (length l.sorted.items)
  pub room : l.room + length (bare_walks legs (length l.sorted.items)) ≡ walk_limit

-- the rule that a fault says is `Wide`, and then the fact holds
abbrev pub IsWideWhere : Type 0 → WalkFault → Type 0
IsWideWhere P fault = IfSome (walk_fault_view fault) (λ broken. (broken ≡ is_wide) × P)

-- a row of a net of so many nodes, with at most so many choices
pub record IsRowOf (count most : ℕ) (t : BareWalk) : Type 0 where
  pub order : t.lo ≤ t.hi
  pub low : t.hi ≤ top
  pub start : t.start < count
  pub end : t.end < count
  pub reach : t.base + (t.hi - t.lo) ≤ top
  pub len : t.len ≤ most
