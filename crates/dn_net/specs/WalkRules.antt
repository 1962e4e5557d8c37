-- The rules on walks, in their order: `Wide`, `Loop`, `Deep`, and then those on units; and the laws that tie walks to chains of steps.
use Rattle.std.specs.Prelude.{◌≡◌, ℕ, zero, suc, ◌-◌, ◌<◌, ◌≤◌, ◌↔◌, ◌⊎◌, Bool, if◌then◌else◌, nat_lt, List, [], ◌∷◌, length, filter, slice_get, Option, Some, None, option_map, IsSome, IsTrue}
use Rattle.std.specs.List.{list_any}
use Rattle.std.specs.Option.{is_some}
use Rattle.dn_net.specs.declared.node.Name.{Name}
use Rattle.dn_net.specs.declared.node.NodeDecl.{NodeDecl}
use Rattle.dn_net.specs.Chain.{Member, IsChain, Reaches, ReachesWithin}
use Rattle.dn_net.specs.Decode.{top, within, steps, step_limit, Step}
use Rattle.dn_net.specs.Names.{name_lt, name_eq, sorted_names, after_steps}
use Rattle.dn_net.specs.Rules.{KeepsNodeRules}
pub use Rattle.dn_net.specs.Firsts.{or_else, first_below, least_in, least_below, least_name, first_of}
use Rattle.dn_net.specs.UnitRules.{Fork, least_fork, first_chain}
use Rattle.dn_net.specs.Walks.{Choice, Follows, IsLive, IsGap, gaps, Walk, moved_name, live_walks, level, Precedes}

-- so many steps can be taken from a name
abbrev pub goes_on : List NodeDecl → ℕ → Name → Bool
goes_on net k x = is_some (first_of (after_steps (steps net) k (x ∷ [])))

-- so many steps can lead from a name to another
abbrev pub comes_to : List NodeDecl → Name → ℕ → Name → Bool
comes_to net y k x = list_any (name_eq y) (after_steps (steps net) k (x ∷ []))

-- a name comes to itself in so many steps, at least one
abbrev pub comes_back : List NodeDecl → ℕ → Name → Bool
comes_back net k x = comes_to net x k x

-- some name comes to itself in so many steps
abbrev pub has_cycle : List NodeDecl → ℕ → Bool
has_cycle net k = is_some (least_name net (comes_back net k))

-- the least number of steps, from 1 to a bound, in which some name comes to itself
abbrev pub shortest_within : List NodeDecl → ℕ → Option ℕ
shortest_within net zero = None
shortest_within net (suc k) = or_else (shortest_within net k) (if has_cycle net (suc k) then Some (suc k) else None)

-- the shortest cycle is looked for up to one step fewer than resolution follows: up to 64
unfoldable pub shortest_cycle : List NodeDecl → Option ℕ
shortest_cycle net = shortest_within net (step_limit - 1)

-- the names behind a name, one step after another: at each place the least step from which the rest can be taken
abbrev pub names_behind : Option Name → (Name → List Name) → List Name
names_behind None rest = []
names_behind (Some z) rest = z ∷ rest z

-- the names behind a name, each the least step from which the rest can be taken
abbrev pub way_by : (Name → List Name) → (ℕ → Name → Bool) → ℕ → Name → List Name
way_by f leads zero x = []
way_by f leads (suc k) x = names_behind (first_of (sorted_names (filter (leads k) (f x)))) (λ z. way_by f leads k z)

-- the names of the cycle of so many steps from the least name that has one
abbrev pub cycle_from : List NodeDecl → ℕ → Option Name → List Name
cycle_from net c None = []
cycle_from net c (Some x) = x ∷ way_by (steps net) (comes_to net x) c x

-- the names of the least cycle of so many steps
abbrev pub cycle_names : List NodeDecl → ℕ → List Name
cycle_names net c = cycle_from net c (least_name net (comes_back net c))

-- the names of the path of so many steps from the least name that has one
abbrev pub path_from : List NodeDecl → ℕ → Option Name → Option (List Name)
path_from net k None = None
path_from net k (Some x) = Some (x ∷ way_by (steps net) (goes_on net) k x)

-- the names of the least path of so many steps
abbrev pub path_names : List NodeDecl → ℕ → Option (List Name)
path_names net k = path_from net k (least_name net (goes_on net k))

-- the most rows of live walks
unfoldable pub walk_limit : ℕ
walk_limit = 1048576

-- a broken rule on walks, with what it carries
pub data Broken : Type 0 where
  is_wide : Broken
  has_loop : List Name → Broken
  is_deep : List Name → Broken
  has_fork : Name → ℕ → Broken
  has_chain : List ℕ → Broken

-- how many choices the counted walks have: up to the shortest cycle, or to the 65th step
abbrev pub counted_length : Option ℕ → ℕ
counted_length (Some c) = c
counted_length None = step_limit

-- Loop and then Deep, where the shortest cycle is known
abbrev pub cycle_or_path : List NodeDecl → Option ℕ → Option Broken
cycle_or_path net (Some c) = Some (has_loop (cycle_names net c))
cycle_or_path net None = option_map is_deep (path_names net step_limit)

-- the first part, on walks that have no end: Wide, Loop and Deep, in this order
unfoldable pub endless_fault : List NodeDecl → Option Broken
endless_fault net = if nat_lt walk_limit (length (live_walks net (counted_length (shortest_cycle net)))) then Some is_wide else cycle_or_path net (shortest_cycle net)

-- the broken rule of a fork
abbrev pub fork_broken : Fork → Broken
fork_broken f = has_fork f.name f.unit

-- the second part, on the units that walks meet: Fork, and then Chain
unfoldable pub unit_fault : List NodeDecl → Option Broken
unit_fault net = or_else (option_map fork_broken (least_fork net)) (option_map has_chain (first_chain net))

-- the first rule on walks that is broken: of the first part, or else of the second
abbrev pub walk_fault : List NodeDecl → Option Broken
walk_fault net = or_else (endless_fault net) (unit_fault net)

-- THE LAWS
-- The list has exactly the live walks of 1 to k choices: the walks in it are live, and their spans end at or below the top and have exactly the addresses that follow them, each to where the walk says.
pub record IsListed (net : List NodeDecl) (w : Walk) : Type 0 where
  pub live : IsLive net w.start w.choices
  pub high : w.span.hi ≤ top
  pub follows : (a : ℕ) (y : Name) → a ≤ top → Follows net (record { node = w.start; addr = a }) w.choices y ↔ (IsTrue (within a w.span) × (moved_name (a - w.span.lo) w.to ≡ y))

-- What is listed is a live walk of 1 to k choices, and each such walk is listed.
abbrev pub LiveWalksAreAll : Type 0
LiveWalksAreAll = (net : List NodeDecl) → KeepsNodeRules net → (k : ℕ) →
    ((w : Walk) → Member w (live_walks net k) → IsListed net w × (1 ≤ length w.choices) × (length w.choices ≤ k))
    × ((start : ℕ) (choices : List Choice) → IsLive net start choices → 1 ≤ length choices → length choices ≤ k → (w : Walk) × Member w (live_walks net k) × (w.start ≡ start) × (w.choices ≡ choices))

-- Each comes before those behind it, in the order of length, start, span and choices; so each stands once.
abbrev pub LiveWalksAreInOrder : Type 0
LiveWalksAreInOrder = (net : List NodeDecl) → KeepsNodeRules net → (k i j : ℕ) (w v : Walk) → slice_get (live_walks net k) i ≡ Some w → slice_get (live_walks net k) j ≡ Some v → i < j → Precedes w v

-- A chain of k steps is a live walk of k choices that its first name follows, and back.
abbrev pub ChainIsWalk : Type 0
ChainIsWalk = (net : List NodeDecl) → KeepsNodeRules net → (k : ℕ) (x y : Name) → IsChain (Step net) k x y ↔ ((choices : List Choice) × (length choices ≡ k) × Follows net x choices y)

-- A cycle of k steps is a row of the walks of k choices whose base is its own start.
abbrev pub CycleIsRow : Type 0
CycleIsRow = (net : List NodeDecl) → KeepsNodeRules net → (k : ℕ) (x : Name) → 1 ≤ k → IsChain (Step net) k x x ↔ ((w : Walk) × Member w (level net k) × (w.start ≡ x.node) × IsTrue (within x.addr w.span) × (w.to ≡ record { node = w.start; addr = w.span.lo }))

-- The shortest cycle is the least number of steps, from 1 to 64, in which a name comes to itself.
pub record IsShortestCycle (net : List NodeDecl) (c : ℕ) : Type 0 where
  pub least : 1 ≤ c
  pub most : c < step_limit
  pub cycle : (x : Name) × IsChain (Step net) c x x
  pub none_less : (k : ℕ) (x : Name) → 1 ≤ k → k < c → IsChain (Step net) k x x → ⊥

-- The shortest cycle is the least, and where there is none no name comes to itself.
abbrev pub ShortestCycleIsShortest : Type 0
ShortestCycleIsShortest = (net : List NodeDecl) → KeepsNodeRules net → ((c : ℕ) → shortest_cycle net ≡ Some c → IsShortestCycle net c) × (shortest_cycle net ≡ None → (k : ℕ) (x : Name) → 1 ≤ k → k < step_limit → IsChain (Step net) k x x → ⊥)

-- lists of names are compared from the front
abbrev pub NotAfter : List Name → List Name → Type 0
NotAfter [] ys = Unit {0}
NotAfter (x ∷ xs) [] = ⊥
NotAfter (x ∷ xs) (y ∷ ys) = IsTrue (name_lt x y) ⊎ ((x ≡ y) × NotAfter xs ys)

-- the names follow one another by steps, so many, from the first to the last
abbrev pub Along : List NodeDecl → ℕ → List Name → Name → Type 0
Along net k [] y = ⊥
Along net zero (x ∷ []) y = x ≡ y
Along net zero (x ∷ xs) y = ⊥
Along net (suc k) (x ∷ xs) y = Next (first_of xs) × Along net k xs y
  where
    Next : Option Name → Type 0
    Next None = ⊥
    Next (Some z) = Step net x z

-- the names are a cycle of so many steps, and no such list of names comes before them
pub record IsLeastCycle (net : List NodeDecl) (c : ℕ) (xs : List Name) : Type 0 where
  pub along : (x : Name) × (first_of xs ≡ Some x) × Along net c xs x
  pub least : (ys : List Name) (y : Name) → first_of ys ≡ Some y → Along net c ys y → NotAfter xs ys

-- The names that `Loop` carries are a cycle of the shortest length, and of all such lists the least.
abbrev pub CycleIsLeast : Type 0
CycleIsLeast = (net : List NodeDecl) → KeepsNodeRules net → (c : ℕ) → shortest_cycle net ≡ Some c → IsLeastCycle net c (cycle_names net c)

-- The names that `Deep` carries are a path of 65 steps, and of all such lists the least; there are none exactly where there is no chain of 65 steps.
pub record IsLeastPath (net : List NodeDecl) (k : ℕ) (xs : List Name) : Type 0 where
  pub along : (y : Name) × Along net k xs y
  pub least : (ys : List Name) (y : Name) → Along net k ys y → NotAfter xs ys

-- The names of a path are the least such list; where there are none, there is no chain of that length.
abbrev pub PathIsLeast : Type 0
PathIsLeast = (net : List NodeDecl) → KeepsNodeRules net → (k : ℕ) → ((xs : List Name) → path_names net k ≡ Some xs → IsLeastPath net k xs) × (path_names net k ≡ None → (x y : Name) → IsChain (Step net) k x y → 1 ≤ k → ⊥)

-- A name with a chain that never ends breaks a rule of the first part.
abbrev pub EndlessIsRefused : Type 0
EndlessIsRefused = (net : List NodeDecl) → KeepsNodeRules net → (f : ℕ → Name) → ((i : ℕ) → Step net (f i) (f (suc i))) → IsSome (endless_fault net)

-- The gaps of a node are exactly the gaps that are listed.
abbrev pub GapsAreAll : Type 0
GapsAreAll = (net : List NodeDecl) → KeepsNodeRules net → (i : ℕ) (n : NodeDecl) → slice_get net i ≡ Some n → (lo hi : ℕ) → Member (record { lo = lo; hi = hi }) (gaps n) ↔ IsGap n lo hi

-- In a net that breaks no rule of the first part what is reached at all is reached within 65 steps, so that the bound of resolution cuts nothing.
abbrev pub ReachIsWithin : Type 0
ReachIsWithin = (net : List NodeDecl) → KeepsNodeRules net → endless_fault net ≡ None → (x y : Name) → Reaches (Step net) x y → ReachesWithin (Step net) step_limit x y

-- In a net that breaks no rule of the first part no chain has 65 steps.
abbrev pub NoFaultIsShallow : Type 0
NoFaultIsShallow = (net : List NodeDecl) → KeepsNodeRules net → endless_fault net ≡ None → (x y : Name) → IsChain (Step net) step_limit x y → ⊥
