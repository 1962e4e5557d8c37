-- The refusals of a buffer in pieces that need no search.
use Rattle.std.specs.Prelude.{ℕ, suc, ◌+◌, Bool, if◌then◌else◌, ◌||◌, ◌==◌, nat_lt, List, [], ◌∷◌, length, slice_get, take, Option, Some, None}
use Rattle.std.specs.List.{list_any}
use Rattle.std.specs.Option.{option_map}
use Rattle.dn_net.specs.declared.node.NodeDecl.{NodeDecl}
use Rattle.dn_net.specs.Decode.{is_agent_at}
use Rattle.dn_book.specs.declared.grant.Grant.{Grant}
use Rattle.dn_book.specs.Book.{has_id}
use Rattle.dn_place.specs.Targets.{is_target_at, refused_address}
use Rattle.dn_gather.specs.declared.piece.Piece.{Piece}
use Rattle.dn_gather.specs.declared.refusal.GatherRefusal.{GatherRefusal}
use Rattle.dn_gather.specs.declared.refusal.GatherRefusal.TheVariants.{IdUsed, NoAgent, NoTarget, NotAccepted, BookFull}

-- a live grant has the id, or one of the earlier pieces has it
abbrev pub is_used : List Grant → List Piece → ℕ → Bool
is_used book earlier id = has_id id book || list_any (λ q. q.id == id) earlier

-- the first of two refusals, where there is one
abbrev pub first_refusal : Option GatherRefusal → Option GatherRefusal → Option GatherRefusal
first_refusal (Some why) rest = Some why
first_refusal None rest = rest

-- the first refusal that a test finds among pieces, of which the first has this number
abbrev pub first_refused : (ℕ → Piece → Option GatherRefusal) → ℕ → List Piece → Option GatherRefusal
first_refused test i [] = None
first_refused test i (p ∷ ps) = first_refusal (test i p) (first_refused test (suc i) ps)

-- the refusal of a piece whose id is used, where these are all pieces
abbrev pub used_refusal : List Grant → List Piece → ℕ → Piece → Option GatherRefusal
used_refusal book all i p = if is_used book (take i all) p.id then Some (IdUsed i) else None

-- the refusal of a piece whose node is none or has interrupt vectors
abbrev pub target_refusal : List NodeDecl → ℕ → Piece → Option GatherRefusal
target_refusal net i p = if is_target_at (slice_get net p.node) then None else Some (NoTarget i)

-- the refusal of a piece that is empty, or of which its node does not accept an address
abbrev pub address_refusal : List NodeDecl → ℕ → Piece → Option GatherRefusal
address_refusal net i p = option_map (NotAccepted i) (refused_address (slice_get net p.node) p.base p.size)

-- the first refusal of pieces that holds, of those that need no search, each over all pieces: an id is used; the agent is
-- none; a node is none or has interrupt vectors; a node does not accept all of its piece; the book has no room for all
abbrev pub gather_refusal : List NodeDecl → List Grant → ℕ → List Piece → Option GatherRefusal
gather_refusal net book agent ps =
    first_refusal (first_refused (used_refusal book ps) 0 ps)
    (first_refusal (if is_agent_at (slice_get net agent) then None else Some NoAgent)
    (first_refusal (first_refused (target_refusal net) 0 ps)
    (first_refusal (first_refused (address_refusal net) 0 ps)
    (if nat_lt 4096 (length book + length ps) then Some BookFull else None))))
