-- A book of live grants: the records that they put into slots, when it is sound, and which names it
-- owes to agents.
use Rattle.std.specs.Prelude.{◌≡◌, ◌≢◌, ℕ, ◌+◌, ◌-◌, ◌≤◌, ◌⊎◌, ◌↔◌, Bool, false, if◌then◌else◌, ◌&&◌, ◌==◌, not, nat_eq, nat_le, nat_lt, is_some, List, [], ◌∷◌, ◌++◌, length, filter, slice_get, Option, Some, None, IsTrue}
use Rattle.std.specs.List.{list_any, AllPairs}
use Rattle.dn_net.specs.declared.node.Name.{Name}
use Rattle.dn_net.specs.declared.node.NodeDecl.{NodeDecl}
use Rattle.dn_net.specs.Chain.{Member}
use Rattle.dn_net.specs.Decode.{is_agent_at, Resolves}
use Rattle.dn_net.specs.Names.{resolved_names, sorted_names}
use Rattle.dn_kind.specs.declared.rights.Access.{Access}
use Rattle.dn_kind.specs.declared.unit_kind.Record.{Record}
use Rattle.dn_kind.specs.Rights.{allows, are_rights, both_rights}
use Rattle.dn_kind.specs.Tables.{Held, ResolvesUnder, allowing}
use Rattle.dn_tables.specs.declared.placement.Hop.{Hop}
use Rattle.dn_placement.specs.Exposure.{Adds}
use Rattle.dn_placement.specs.Placement.{IsPlacement, name_on}
use Rattle.dn_placement.specs.Records.{hop_record, hop_rights, or_record, placed_records}
use Rattle.dn_placement.specs.Slots.{Slots}
use Rattle.dn_book.specs.declared.grant.Grant.{Grant}

-- a book is the list of its live grants, in the order in which they were granted

-- the records of a grant
abbrev pub grant_records : List NodeDecl → Grant → Held
grant_records net g = placed_records net g.request g.placement

-- the records of all grants of a book
abbrev pub records_of : List NodeDecl → List Grant → Held
records_of net [] node slot = None
records_of net (g ∷ gs) node slot =
    or_record (grant_records net g node slot) (records_of net gs node slot)

-- the hop takes the slot for so many addresses
abbrev pub is_taken : List NodeDecl → ℕ → ℕ → ℕ → Hop → Bool
is_taken net size node slot hop = is_some (hop_record net size both_rights hop node slot)

-- one of the grant's hops takes the slot
abbrev pub uses_slot : List NodeDecl → ℕ → ℕ → Grant → Bool
uses_slot net node slot g = list_any (is_taken net g.request.size node slot) g.placement.hops

-- a hop is there, and it takes the slot
abbrev pub is_taken_by_own : List NodeDecl → ℕ → ℕ → ℕ → Option Hop → Bool
is_taken_by_own net size node slot None = false
is_taken_by_own net size node slot (Some hop) = is_taken net size node slot hop

-- the grant's own hop takes the slot
abbrev pub owns_slot : List NodeDecl → ℕ → ℕ → Grant → Bool
owns_slot net node slot g =
    is_taken_by_own net g.request.size node slot (slice_get g.placement.hops g.placement.own)

-- how many grants use a slot
abbrev pub uses_of : List NodeDecl → List Grant → ℕ → ℕ → ℕ
uses_of net book node slot = length (filter (uses_slot net node slot) book)

-- the id of the first grant that owns the slot
abbrev pub owner_of : List NodeDecl → List Grant → ℕ → ℕ → Option ℕ
owner_of net [] node slot = None
owner_of net (g ∷ gs) node slot =
    if owns_slot net node slot g then Some g.id else owner_of net gs node slot

-- the slots as a book leaves them: those that no grant uses are free
abbrev pub slots_of : List NodeDecl → List Grant → Slots
slots_of net book = record {
  held = records_of net book;
  is_free = λ node slot. not (list_any (uses_slot net node slot) book);
  has_owner = λ node slot. list_any (owns_slot net node slot) book;
}

-- slots of which none holds a record: a placement for them is one whatever tables hold
abbrev pub open_slots : Slots
open_slots = slots_of [] []

-- some hop of some grant of the book gives the record to the slot
pub record IsGiven (net : List NodeDecl) (book : List Grant) (node slot : ℕ) (r : Record)
    : Type 0 where
  pub grant : Grant
  pub is_grant : Member grant book
  pub place : ℕ
  pub hop : Hop
  pub is_hop : slice_get grant.placement.hops place ≡ Some hop
  pub gives : hop_record net grant.request.size
      (hop_rights grant.request.rights grant.placement.own place) hop node slot ≡ Some r

-- no other grant uses a slot of a grant's own hop
abbrev pub AreOwnAlone : List NodeDecl → List Grant → Type 0
AreOwnAlone net book = (g k : Grant) → Member g book → Member k book → g.id ≢ k.id →
    (node slot : ℕ) → IsTrue (owns_slot net node slot g) → uses_slot net node slot k ≡ false

-- what is true of a grant by itself
pub record IsGrant (net : List NodeDecl) (g : Grant) : Type 0 where
  pub agent : IsTrue (is_agent_at (slice_get net g.request.agent))
  pub rights : IsTrue (are_rights g.request.rights)
  pub placed : IsPlacement net open_slots g.request g.placement

-- A sound book: at most 4,096 grants with different ids, each a placement, that agree on the record of
-- each slot, and of which none uses a slot that another owns.
pub record IsSound (net : List NodeDecl) (book : List Grant) : Type 0 where
  pub few : length book ≤ 4096
  pub ids : AllPairs (λ (g k : Grant). g.id ≢ k.id) book
  pub grants : (g : Grant) → Member g book → IsGrant net g
  pub agree : (node slot : ℕ) (r s : Record) → IsGiven net book node slot r →
      IsGiven net book node slot s → r ≡ s
  pub alone : AreOwnAlone net book

-- a live grant gives the one name at the other for an access
pub record IsGrantedName (book : List Grant) (access : Access) (x y : Name) : Type 0 where
  pub grant : Grant
  pub is_grant : Member grant book
  pub allowed : IsTrue (allows grant.request.rights access)
  pub adds : Adds grant.request grant.placement.v x y

-- A book owes to a name for an access what it resolves to in the net, and what live grants whose
-- rights allow the access give there.
abbrev pub Owes : List NodeDecl → List Grant → Access → Name → Name → Type 0
Owes net book access x y = Resolves net x y ⊎ IsGrantedName book access x y

-- the name that a grant gives at a name for an access
abbrev pub granted_by : Access → Name → Grant → List Name
granted_by access x g =
    if nat_eq x.node g.request.agent && (allows g.request.rights access
    && (nat_le g.placement.v x.addr && nat_lt x.addr (g.placement.v + g.request.size)))
    then name_on g.request.node g.request.base (x.addr - g.placement.v) ∷ [] else []

-- the names that the grants of a book give at a name for an access
abbrev pub granted_names : List Grant → Access → Name → List Name
granted_names [] access x = []
granted_names (g ∷ gs) access x = granted_by access x g ++ granted_names gs access x

-- the names that a book owes to a name for an access, ascending
abbrev pub owed_names : List NodeDecl → List Grant → Access → Name → List Name
owed_names net book access x =
    sorted_names (resolved_names net x ++ granted_names book access x)

-- A faithful book: under its records each agent resolves each address, for each access, to exactly
-- the names that the book owes.
abbrev pub IsFaithful : List NodeDecl → List Grant → Type 0
IsFaithful net book = (access : Access) (x y : Name) →
    IsTrue (is_agent_at (slice_get net x.node)) →
    ResolvesUnder net (allowing access (records_of net book)) x y ↔ Owes net book access x y

-- a grant of this id is live
abbrev pub has_id : ℕ → List Grant → Bool
has_id id book = list_any (λ g. g.id == id) book

-- the book has no room for a further grant
abbrev pub is_full : List Grant → Bool
is_full book = nat_le 4096 (length book)

-- the book without the grants of an id
abbrev pub without_id : ℕ → List Grant → List Grant
without_id id book = filter (λ g. not (g.id == id)) book
