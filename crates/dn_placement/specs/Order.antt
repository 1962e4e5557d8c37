-- The order of placements, and the first admissible one.
use Rattle.std.specs.Prelude.{◌≡◌, ℕ, ◌-◌, Bool, true, false, not, List, [], ◌∷◌, ◌++◌, length, slice_get, Option, Some, None, IsTrue}
use Rattle.dn_net.specs.declared.node.NodeDecl.{NodeDecl}
use Rattle.dn_net.specs.declared.node.Unit.{Unit as UnitPart}
use Rattle.dn_net.specs.Decode.{unit_at}
use Rattle.dn_tables.specs.declared.placement.Hop.{Hop}
use Rattle.dn_tables.specs.Placement.{Place}
use Rattle.dn_placement.specs.declared.request.Request.{Request}
use Rattle.dn_placement.specs.Exposure.{IsAdmissible}
use Rattle.dn_placement.specs.Keys.{comes_before}
use Rattle.dn_placement.specs.Placement.{IsPlacement}
use Rattle.dn_placement.specs.Slots.{Slots}

-- the page of a unit, as a power of two, where there is one
abbrev pub page_by : Option UnitPart → ℕ
page_by None = 0
page_by (Some u) = u.page

-- the page of the hop's unit, where there is a hop
abbrev pub hop_page : List NodeDecl → Option Hop → ℕ
hop_page net None = 0
hop_page net (Some hop) = page_by (unit_at net hop.unit)

-- the numbers of hops, from memory's end to the agent's
abbrev pub hops_key : List Hop → List ℕ
hops_key [] = []
hops_key (hop ∷ hops) = hops_key hops ++ (hop.unit ∷ hop.port ∷ hop.y ∷ hop.x ∷ [])

-- the key of a placement: the number of hops; hop by hop from memory's end its unit, port, `y` and
-- `x`; the agent's address; the page of the own hop, and how far it is from memory's end
abbrev pub key_of : List NodeDecl → Place → List ℕ
key_of net p =
    length p.hops
    ∷ (hops_key p.hops
    ++ (p.v ∷ hop_page net (slice_get p.hops p.own) ∷ (length p.hops - p.own) ∷ []))

-- the one placement comes before the other
abbrev pub precedes : List NodeDecl → Place → Place → Bool
precedes net p q = comes_before (key_of net p) (key_of net q)

-- the address is the one that is asked for, where one is
abbrev pub IsAt : Option ℕ → ℕ → Type 0
IsAt None v = Unit {0}
IsAt (Some at) v = v ≡ at

-- a placement that is looked for: one of the request, at the address where one is asked for, and
-- admissible
pub record IsSuited (net : List NodeDecl) (slots : Slots) (rq : Request) (at : Option ℕ) (p : Place)
    : Type 0 where
  pub is_placement : IsPlacement net slots rq p
  pub is_at : IsAt at p.v
  pub admissible : IsAdmissible net slots.held rq p

-- the placement is looked for, and none that is looked for comes before it
pub record IsFirst (net : List NodeDecl) (slots : Slots) (rq : Request) (at : Option ℕ) (p : Place)
    : Type 0 where
  pub suited : IsSuited net slots rq at p
  pub least : (q : Place) → IsSuited net slots rq at q → IsTrue (not (precedes net q p))

-- no placement is what is looked for
abbrev pub NoneSuited : List NodeDecl → Slots → Request → Option ℕ → Type 0
NoneSuited net slots rq at = (p : Place) → IsSuited net slots rq at p → ⊥

-- The order is strict, and of two different placements of one request one comes before the other.
pub record PlacementsAreOrdered : Type 0 where
  pub irreflexive : (net : List NodeDecl) (p : Place) → precedes net p p ≡ false
  pub transitive : (net : List NodeDecl) (p q r : Place) → precedes net p q ≡ true →
      precedes net q r ≡ true → precedes net p r ≡ true
  pub total : (net : List NodeDecl) (slots : Slots) (rq : Request) (p q : Place) →
      IsPlacement net slots rq p → IsPlacement net slots rq q → precedes net p q ≡ false →
      precedes net q p ≡ false → p ≡ q

-- Two placements of one request, of which each is the first, are one.
abbrev pub FirstIsOne : Type 0
FirstIsOne = (net : List NodeDecl) (slots : Slots) (rq : Request) (at : Option ℕ) (p q : Place) →
    IsFirst net slots rq at p → IsFirst net slots rq at q → p ≡ q
