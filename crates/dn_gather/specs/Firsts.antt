-- Hops of one unit that serve pieces, and the first of them for each piece.
use Rattle.std.specs.Prelude.{◌≡◌, ℕ, ◌+◌, ◌<◌, false, List, [], ◌∷◌, None, IsTrue}
use Rattle.dn_net.specs.declared.node.NodeDecl.{NodeDecl}
use Rattle.dn_net.specs.Legal.{IsLegalNet}
use Rattle.dn_kind.specs.declared.rights.Rights.{Rights}
use Rattle.dn_kind.specs.Rights.{are_rights}
use Rattle.dn_kind.specs.Tables.{AreHeld}
use Rattle.dn_tables.specs.declared.placement.Hop.{Hop}
use Rattle.dn_placement.specs.declared.request.Request.{Request}
use Rattle.dn_placement.specs.Exposure.{IsAdmissible}
use Rattle.dn_placement.specs.Keys.{comes_before}
use Rattle.dn_placement.specs.Placement.{IsPlacement}
use Rattle.dn_placement.specs.Slots.{Slots}
use Rattle.dn_gather.specs.declared.piece.Piece.{Piece}
use Rattle.dn_gather.specs.declared.scatter.Scatter.{Scatter}
use Rattle.dn_gather.specs.Scattered.{IsApart, IsFirstScatter, NoneScattered, at_hop, piece_request}

-- a hop of a unit serves a request at an address of its agent: it is a placement, and admissible by itself
pub record IsSuitedHop (net : List NodeDecl) (slots : Slots) (rq : Request) (unit v : ℕ) (hop : Hop) : Type 0 where
  pub placed : IsPlacement net slots rq (at_hop v hop)
  pub in_unit : hop.unit ≡ unit
  pub admissible : IsAdmissible net slots.held rq (at_hop v hop)

-- the port, the output and the input of a hop
abbrev pub hop_key : Hop → List ℕ
hop_key hop = hop.port ∷ hop.y ∷ hop.x ∷ []

-- a hop serves, and none that serves comes before it by its port, output and input
pub record IsFirstHop (net : List NodeDecl) (slots : Slots) (rq : Request) (unit v : ℕ) (hop : Hop) : Type 0 where
  pub suited : IsSuitedHop net slots rq unit v hop
  pub least : (k : Hop) → IsSuitedHop net slots rq unit v k → comes_before (hop_key k) (hop_key hop) ≡ false

-- it is so of the request of each piece with its address and its hop, one after another from an address of the agent
-- on, and no two hops take the same slot
abbrev pub AreHopsBy : (Request → ℕ → Hop → Type 0) → List NodeDecl → ℕ → Rights → ℕ → List Piece → List Hop → Type 0
AreHopsBy Is net agent rights v [] [] = Unit {0}
AreHopsBy Is net agent rights v (p ∷ ps) (hop ∷ hops) =
    Is (piece_request agent rights p) v hop × IsApart net p.size hop ps hops
    × AreHopsBy Is net agent rights (v + p.size) ps hops
AreHopsBy Is net agent rights v _ _ = ⊥

-- each hop serves its piece
abbrev pub AreSuitedHops : List NodeDecl → Slots → ℕ → Rights → ℕ → ℕ → List Piece → List Hop → Type 0
AreSuitedHops net slots agent rights unit v ps hops =
    AreHopsBy (λ rq a hop. IsSuitedHop net slots rq unit a hop) net agent rights v ps hops

-- each is the first that serves its piece
abbrev pub AreFirstHops : List NodeDecl → Slots → ℕ → Rights → ℕ → ℕ → List Piece → List Hop → Type 0
AreFirstHops net slots agent rights unit v ps hops =
    AreHopsBy (λ rq a hop. IsFirstHop net slots rq unit a hop) net agent rights v ps hops

-- no hops of the unit serve the pieces from an address of the agent on
abbrev pub NoneAt : List NodeDecl → Slots → ℕ → Rights → List Piece → ℕ → ℕ → Type 0
NoneAt net slots agent rights ps unit v = (hops : List Hop) → AreSuitedHops net slots agent rights unit v ps hops → ⊥

-- Where free slots hold no record, the first hops of all pieces are the first scattered placement, if no hops
-- serve from a lesser address in their unit, nor in a lesser unit; and if no hops serve, none is admissible.
pub record FirstHopsAreFirst : Type 0 where
  pub first : (net : List NodeDecl) (slots : Slots) (agent : ℕ) (rights : Rights) (ps : List Piece) (s : Scatter) →
      IsLegalNet net → AreHeld net slots.held →
      ((node slot : ℕ) → IsTrue (slots.is_free node slot) → slots.held node slot ≡ None) →
      IsTrue (are_rights rights) → AreFirstHops net slots agent rights s.unit s.v ps s.hops →
      ((v : ℕ) → v < s.v → NoneAt net slots agent rights ps s.unit v) →
      ((unit v : ℕ) → unit < s.unit → NoneAt net slots agent rights ps unit v) →
      IsFirstScatter net slots agent rights ps s
  pub none : (net : List NodeDecl) (slots : Slots) (agent : ℕ) (rights : Rights) (ps : List Piece) →
      IsLegalNet net → AreHeld net slots.held →
      ((node slot : ℕ) → IsTrue (slots.is_free node slot) → slots.held node slot ≡ None) →
      IsTrue (are_rights rights) → ((unit v : ℕ) → NoneAt net slots agent rights ps unit v) →
      NoneScattered net slots agent rights ps
