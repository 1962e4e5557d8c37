-- The least names that follow rows, and where rows lead.
use Rattle.std.specs.Prelude.{ℕ, ◌+◌, ◌-◌, Bool, true, false, if◌then◌else◌, ◌&&◌, ◌||◌, not, nat_le, ◌==◌, List, [], ◌∷◌, map, filter, slice_index_or, length, Option, Some, None, option_map}
use Rattle.std.specs.List.{list_any}
use Rattle.dn_net.specs.declared.node.Name.{Name}
use Rattle.dn_net.specs.Names.{name_lt, sorted_names}
use Rattle.dn_net.specs.WalkRules.{Broken, first_of, has_loop, is_deep, way_by}
use Rattle.dn_net.specs.declared.node.NodeDecl.{NodeDecl}
use Rattle.dn_net.specs.Decode.{steps}
use Rattle.dn_walk.specs.declared.way.Goal.{Goal}
use Rattle.dn_walk.specs.declared.way.Goal.TheVariants.{Anywhere, To}
use Rattle.dn_walk.specs.Rows.{BareWalk}

-- the least of names
abbrev pub least_of : List Name → Option Name
least_of names = first_of (sorted_names names)

-- the lesser of a name that may be there and another
abbrev pub lesser_name : Option Name → Name → Option Name
lesser_name None x = Some x
lesser_name (Some y) x = Some (if name_lt x y then x else y)

-- each address of the walk comes to itself
abbrev pub is_cyclic : BareWalk → Bool
is_cyclic t = (t.start == t.end) && (t.base == t.lo)

-- the first name that follows it
abbrev pub start_name : BareWalk → Name
start_name t = record { node = t.start; addr = t.lo }

-- the first names that follow the walks; where `back` is set, those that come back
abbrev pub start_names : Bool → List BareWalk → List Name
start_names back rows = map start_name (filter (λ t. not back || is_cyclic t) rows)

-- the address follows it
abbrev pub has_addr : BareWalk → ℕ → Bool
has_addr t a = nat_le t.lo a && nat_le a t.hi

-- the address comes to the goal
abbrev pub meets_goal : Goal → ℕ → BareWalk → Bool
meets_goal Anywhere a t = true
meets_goal (To y) a t = (t.end == y.node) && ((t.base + (a - t.lo)) == y.addr)

-- the walk leads from the name to the goal
abbrev pub bare_leads : Goal → Name → BareWalk → Bool
bare_leads goal x t = (t.start == x.node) && (has_addr t x.addr && meets_goal goal x.addr t)

-- a walk of the level leads from the name to the goal
abbrev pub level_leads : Goal → List BareWalk → Name → Bool
level_leads goal level x = list_any (bare_leads goal x) level

-- a walk of the level of so many choices leads from the name to the goal
abbrev pub walk_levels_lead : Goal → List (List BareWalk) → ℕ → Name → Bool
walk_levels_lead goal levels k x = level_leads goal (slice_index_or levels k []) x

-- the names of the cycle, or of the path, that these levels show: the newest has one more choice than there are sorted levels before it
abbrev pub shown_cycle : List NodeDecl → List (List BareWalk) → List BareWalk → Option (List Name)
shown_cycle net sorted newest = option_map (λ x. x ∷ way_by (steps net) (walk_levels_lead (To x) sorted) (length sorted) x) (least_of (start_names true newest))

-- the names of the path that these levels show
abbrev pub shown_path : List NodeDecl → List (List BareWalk) → List BareWalk → Option (List Name)
shown_path net sorted newest = option_map (λ x. x ∷ way_by (steps net) (walk_levels_lead Anywhere sorted) (length sorted) x) (least_of (start_names false newest))

-- the rule that these levels break: on cycles where `back` is set, and else on how deep a walk goes
abbrev pub shown_fault : Bool → List NodeDecl → List (List BareWalk) → List BareWalk → Option Broken
shown_fault true net sorted newest = option_map has_loop (shown_cycle net sorted newest)
shown_fault false net sorted newest = option_map is_deep (shown_path net sorted newest)
