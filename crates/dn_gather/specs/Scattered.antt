-- Scattered placements: pieces at consecutive addresses of an agent, in different slots of one unit.
use Rattle.std.specs.Prelude.{◌≡◌, ℕ, ◌+◌, ◌⊎◌, ◌↔◌, true, false, not, List, [], ◌∷◌, None, slice_get, IsTrue}
use Rattle.std.specs.List.{flat_map}
use Rattle.dn_net.specs.declared.node.Name.{Name}
use Rattle.dn_net.specs.declared.node.NodeDecl.{NodeDecl}
use Rattle.dn_net.specs.Decode.{is_agent_at}
use Rattle.dn_kind.specs.declared.rights.Access.{Access}
use Rattle.dn_kind.specs.declared.rights.Rights.{Rights}
use Rattle.dn_net.specs.Legal.{IsLegalNet}
use Rattle.dn_kind.specs.Rights.{allows, are_rights}
use Rattle.dn_kind.specs.Tables.{AreHeld, Held, ResolvesUnder, allowing}
use Rattle.dn_tables.specs.declared.placement.Hop.{Hop}
use Rattle.dn_tables.specs.Placement.{Place}
use Rattle.dn_placement.specs.declared.request.Request.{Request}
use Rattle.dn_placement.specs.Exposure.{Adds, IsAdmissible}
use Rattle.dn_placement.specs.Keys.{comes_before}
use Rattle.dn_placement.specs.Placement.{IsPlacement}
use Rattle.dn_placement.specs.Records.{joined_records, or_record, placed_records}
use Rattle.dn_placement.specs.Slots.{Slots}
use Rattle.dn_book.specs.Book.{is_taken}
use Rattle.dn_gather.specs.declared.piece.Piece.{Piece}
use Rattle.dn_gather.specs.declared.scatter.Scatter.{Scatter}

-- what an agent asks for in a piece
abbrev pub piece_request : ℕ → Rights → Piece → Request
piece_request agent rights p =
    record { agent = agent; node = p.node; base = p.base; size = p.size; rights = rights }

-- the placement of one hop at an address of an agent
abbrev pub at_hop : ℕ → Hop → Place
at_hop v hop = record { v = v; hops = hop ∷ []; own = 0 }

-- no slot that a hop takes for so many addresses is taken by a hop of these pieces
abbrev pub IsApart : List NodeDecl → ℕ → Hop → List Piece → List Hop → Type 0
IsApart net size hop [] [] = Unit {0}
IsApart net size hop (q ∷ qs) (k ∷ ks) = ((node slot : ℕ) → is_taken net size node slot hop ≡ true →
    is_taken net q.size node slot k ≡ false) × IsApart net size hop qs ks
IsApart net size hop _ _ = ⊥

-- The hops place the pieces in one unit, one after another from an address of the agent on, and no two of them take
-- the same slot.
abbrev pub ArePlaced : List NodeDecl → Slots → ℕ → Rights → ℕ → ℕ → List Piece → List Hop → Type 0
ArePlaced net slots agent rights unit v [] [] = Unit {0}
ArePlaced net slots agent rights unit v (p ∷ ps) (hop ∷ hops) =
    IsPlacement net slots (piece_request agent rights p) (at_hop v hop) × (hop.unit ≡ unit)
    × IsApart net p.size hop ps hops × ArePlaced net slots agent rights unit (v + p.size) ps hops
ArePlaced net slots agent rights unit v _ _ = ⊥

-- the records of the hops of all pieces
abbrev pub scattered_records : List NodeDecl → ℕ → Rights → ℕ → List Piece → List Hop → Held
scattered_records net agent rights v [] hops node slot = None
scattered_records net agent rights v (p ∷ ps) [] node slot = None
scattered_records net agent rights v (p ∷ ps) (hop ∷ hops) node slot =
    or_record (placed_records net (piece_request agent rights p) (at_hop v hop) node slot)
    (scattered_records net agent rights (v + p.size) ps hops node slot)

-- what all pieces add, one after another from an address of the agent on
abbrev pub AddsPieces : ℕ → Rights → ℕ → List Piece → Name → Name → Type 0
AddsPieces agent rights v [] x y = ⊥
AddsPieces agent rights v (p ∷ ps) x y =
    Adds (piece_request agent rights p) v x y ⊎ AddsPieces agent rights (v + p.size) ps x y

-- With the records of all pieces added every agent resolves every address for each access as before; and for each
-- access that the rights allow all pieces are added at their addresses.
abbrev pub AreAdmissible : List NodeDecl → Held → ℕ → Rights → ℕ → List Piece → List Hop → Type 0
AreAdmissible net h agent rights v ps hops = (access : Access) (x y : Name) →
    IsTrue (is_agent_at (slice_get net x.node)) →
    ResolvesUnder net (allowing access (joined_records h (scattered_records net agent rights v ps hops))) x y
    ↔ (ResolvesUnder net (allowing access h) x y ⊎ (IsTrue (allows rights access) × AddsPieces agent rights v ps x y))

-- the key of a scattered placement: its unit, its address, and piece by piece the port, the output and the input
abbrev pub scatter_key : ℕ → ℕ → List Hop → List ℕ
scatter_key unit v hops = unit ∷ v ∷ flat_map (λ h. h.port ∷ h.y ∷ h.x ∷ []) hops

-- a scattered placement that is looked for: it places the pieces, and is admissible
pub record IsSuitedScatter (net : List NodeDecl) (slots : Slots) (agent : ℕ) (rights : Rights) (ps : List Piece)
    (s : Scatter) : Type 0 where
  pub are_placed : ArePlaced net slots agent rights s.unit s.v ps s.hops
  pub are_admissible : AreAdmissible net slots.held agent rights s.v ps s.hops

-- the scattered placement is looked for, and none that is looked for comes before it
pub record IsFirstScatter (net : List NodeDecl) (slots : Slots) (agent : ℕ) (rights : Rights) (ps : List Piece)
    (s : Scatter) : Type 0 where
  pub suited : IsSuitedScatter net slots agent rights ps s
  pub least : (q : Scatter) → IsSuitedScatter net slots agent rights ps q →
      IsTrue (not (comes_before (scatter_key q.unit q.v q.hops) (scatter_key s.unit s.v s.hops)))

-- Two scattered placements of the same pieces, of which each is the first, are one.
abbrev pub FirstScatterIsOne : Type 0
FirstScatterIsOne = (net : List NodeDecl) (slots : Slots) (agent : ℕ) (rights : Rights) (ps : List Piece)
    (p q : Scatter) → IsFirstScatter net slots agent rights ps p → IsFirstScatter net slots agent rights ps q →
    p ≡ q

-- no scattered placement is what is looked for
abbrev pub NoneScattered : List NodeDecl → Slots → ℕ → Rights → List Piece → Type 0
NoneScattered net slots agent rights ps = (s : Scatter) → IsSuitedScatter net slots agent rights ps s → ⊥

-- each piece is admissible by itself, one after another from an address of the agent on
abbrev pub AreEachAdmissible : List NodeDecl → Held → ℕ → Rights → ℕ → List Piece → List Hop → Type 0
AreEachAdmissible net h agent rights v [] hops = Unit {0}
AreEachAdmissible net h agent rights v (p ∷ ps) [] = Unit {0}
AreEachAdmissible net h agent rights v (p ∷ ps) (hop ∷ hops) =
    IsAdmissible net h (piece_request agent rights p) (at_hop v hop)
    × AreEachAdmissible net h agent rights (v + p.size) ps hops

-- Where free slots hold no record, a scattered placement is admissible exactly where each piece is so by itself.
abbrev pub WholeIsPieceByPiece : Type 0
WholeIsPieceByPiece = (net : List NodeDecl) (slots : Slots) (agent : ℕ) (rights : Rights) (unit v : ℕ)
    (ps : List Piece) (hops : List Hop) → IsLegalNet net → AreHeld net slots.held →
    ((node slot : ℕ) → IsTrue (slots.is_free node slot) → slots.held node slot ≡ None) →
    IsTrue (are_rights rights) → ArePlaced net slots agent rights unit v ps hops →
    AreAdmissible net slots.held agent rights v ps hops
    ↔ AreEachAdmissible net slots.held agent rights v ps hops
