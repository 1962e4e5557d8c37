-- Answers of the search among the placements whose keys begin so.
use Rattle.std.specs.Prelude.{◌≡◌, ℕ, ◌+◌, ◌<◌, ◌≤◌, false, List, [], ◌∷◌, ◌++◌, length, slice_get, Option, Some, None}
use Rattle.dn_net.specs.Decode.{top}
use Rattle.dn_tables.specs.declared.placement.Hop.{Hop}
use Rattle.dn_tables.specs.Placement.{Place}
use Rattle.dn_placement.specs.Keys.{Begins}
use Rattle.dn_placement.specs.Order.{IsAt, IsSuited, hop_page, hops_key, key_of, precedes}
use Rattle.dn_placement.specs.Placement.{IsFreeHop, Leads, Meets}
use Rattle.dn_place.specs.Sought.{Sought}

-- a placement that is looked for, and whose key begins so
pub record IsUnder (s : Sought) (front : List ℕ) (p : Place) : Type 0 where
  pub is : IsSuited s.net s.slots s.request s.at p
  pub begins : Begins front (key_of s.net p)

-- there is none
pub record NoneUnder (s : Sought) (front : List ℕ) : Type 0 where
  pub none : (q : Place) → IsUnder s front q → ⊥

-- it is the first of them
pub record IsFirstUnder (s : Sought) (front : List ℕ) (p : Place) : Type 0 where
  pub is : IsUnder s front p
  pub least : (q : Place) → IsUnder s front q → precedes s.net q p ≡ false

-- the first of them, or none
abbrev pub IsFirstOrNone : Sought → List ℕ → Option Place → Type 0
IsFirstOrNone s front None = NoneUnder s front
IsFirstOrNone s front (Some p) = IsFirstUnder s front p

-- how the keys begin of placements of so many hops that end with these
abbrev pub key_of_hops : ℕ → List Hop → List ℕ
key_of_hops count hops = count ∷ hops_key hops

-- and whose next hop is of this unit
abbrev pub to_unit : ℕ → List Hop → ℕ → List ℕ
to_unit count hops unit = key_of_hops count hops ++ unit ∷ []

-- and of this port
abbrev pub to_port : ℕ → List Hop → ℕ → ℕ → List ℕ
to_port count hops unit port = to_unit count hops unit ++ port ∷ []

-- and has this output
abbrev pub to_output : ℕ → List Hop → ℕ → ℕ → ℕ → List ℕ
to_output count hops unit port y = to_port count hops unit port ++ y ∷ []

-- of placements of just these hops, those at an address of the agent
abbrev pub to_address : ℕ → List Hop → ℕ → List ℕ
to_address count hops v = key_of_hops count hops ++ v ∷ []

-- and with an own hop of this page
abbrev pub to_page : ℕ → List Hop → ℕ → ℕ → List ℕ
to_page count hops v page = to_address count hops v ++ page ∷ []

-- the hops that are chosen so far
pub record IsChosen (s : Sought) (count : ℕ) (hops : List Hop) : Type 0 where
  pub leads : Leads s.net s.slots s.request hops
  pub most : count ≤ 3
  pub within : length hops ≤ count

-- all hops are chosen, and the agent meets them from this address, which is the one that is asked for, if
-- one is
pub record IsAddressed (s : Sought) (hops : List Hop) (v : ℕ) : Type 0 where
  pub chosen : IsChosen s (length hops) hops
  pub some : 1 ≤ length hops
  pub fits : v + s.request.size ≤ top + 1
  pub at : IsAt s.at v
  pub meets : Meets s.net s.request s.request.agent v hops

-- each page of the hops that is at least this one is at least that one
abbrev pub PagesFrom : Sought → List Hop → ℕ → ℕ → Type 0
PagesFrom s hops from page = (k : ℕ) (h : Hop) → slice_get hops k ≡ Some h →
    from ≤ hop_page s.net (Some h) → page ≤ hop_page s.net (Some h)

-- each page of the hops is below this one
abbrev pub PagesBelow : Sought → List Hop → ℕ → Type 0
PagesBelow s hops from = (k : ℕ) (h : Hop) → slice_get hops k ≡ Some h →
    hop_page s.net (Some h) < from

-- the hop at the place has the page, and its slots are free
pub record CanOwn (s : Sought) (hops : List Hop) (own page : ℕ) : Type 0 where
  pub hop : Hop
  pub is_hop : slice_get hops own ≡ Some hop
  pub has_page : hop_page s.net (Some hop) ≡ page
  pub free : IsFreeHop s.net s.slots s.request hop
