-- What granting a buffer in pieces comes to for C.
use Rattle.std.specs.Prelude.{◌≡◌, ℕ, ◌≤◌, ◌&&◌, Bool, nat_le, List, length, map, Option, Some, None}
use Rattle.dn_kind.specs.declared.rights.Rights.{Rights}
use Rattle.dn_gather.specs.declared.piece.Piece.{Piece}
use Rattle.dn_gather.specs.declared.refusal.GatherRefusal.{GatherRefusal}
use Rattle.dn_gather.specs.declared.refusal.GatherRefusal.TheVariants.{IdUsed, NoAgent, NoTarget, NotAccepted, BookFull, NoPlacement}
use Rattle.dn_gather.specs.Gather.{IsGatherRefused}
use Rattle.dn_gather.specs.Refusal.{gather_refusal}
use Rattle.dn_session.specs.Gathering.{IsGathered}
use Rattle.dn_session.specs.Open.{SessionState}
use Rattle.netconf_c.specs.declared.pieces.BufferPiece.{BufferPiece}
use Rattle.netconf_c.specs.Calls.{is_rights_number}

-- a piece that C has
abbrev pub piece_of : BufferPiece → Piece
piece_of p = record { id = p.id; node = p.node; base = p.base; size = p.size }

-- rights by their number
abbrev pub rights_by : ℕ → Rights
rights_by number = record { 0 = number }

-- the number is that of rights, and so many pieces may be asked for: one to eight
abbrev pub are_asked : ℕ → ℕ → Bool
are_asked number count = is_rights_number number && (nat_le 1 count && nat_le count 8)

-- the handle had a session and has it still, which granted the pieces from an address of the agent
-- on
abbrev pub IsGatheredIn : Option SessionState → ℕ → Rights → List Piece → ℕ →
    Option SessionState → Type 0
IsGatheredIn (Some s) agent rights ps v (Some s') = IsGathered s agent rights ps v s'
IsGatheredIn (Some s) agent rights ps v None = ⊥
IsGatheredIn None agent rights ps v held' = ⊥

-- the status of a refusal
abbrev pub gather_status : GatherRefusal → ℕ
gather_status (IdUsed piece) = 16
gather_status NoAgent = 17
gather_status (NoTarget piece) = 18
gather_status (NotAccepted piece first) = 19
gather_status BookFull = 20
gather_status NoPlacement = 21

-- a refusal that is of a piece tells its number, and one of an address the address
abbrev pub IsToldOf : GatherRefusal → ℕ → ℕ → Type 0
IsToldOf (IdUsed piece) number address = number ≡ piece
IsToldOf (NoTarget piece) number address = number ≡ piece
IsToldOf (NotAccepted piece first) number address = (number ≡ piece) × (address ≡ first)
IsToldOf _ number address = Unit {0}

-- the handle has a session, which refuses the pieces for this reason
abbrev pub IsGatherRefusedIn : Option SessionState → ℕ → Rights → List Piece → GatherRefusal →
    Type 0
IsGatherRefusedIn (Some s) agent rights ps why =
    IsGatherRefused s.net s.book.grants agent rights ps why
IsGatherRefusedIn None agent rights ps why = ⊥

-- the pieces are refused for a reason that has this status and tells this piece and address
pub record IsGatherRefusedBy (held : Option SessionState) (agent : ℕ) (rights : Rights)
    (ps : List Piece)
    (status number address : ℕ) : Type 0 where
  pub why : GatherRefusal
  pub is : status ≡ gather_status why
  pub refused : IsGatherRefusedIn held agent rights ps why
  pub told : IsToldOf why number address

-- the handle has a session, and the pieces have no refusal that needs no search
abbrev pub IsGatherUnrefusedIn : Option SessionState → ℕ → List Piece → Type 0
IsGatherUnrefusedIn (Some s) agent ps = gather_refusal s.net s.book.grants agent ps ≡ None
IsGatherUnrefusedIn None agent ps = ⊥
