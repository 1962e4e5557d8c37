-- The grants of pieces, what they do to a book, and what a fault of the device leaves of them.
use Rattle.std.specs.Prelude.{◌≡◌, ◌≢◌, ℕ, suc, ◌+◌, ◌≤◌, Bool, false, List, [], ◌∷◌, ◌++◌, length, slice_get, take, IsTrue}
use Rattle.dn_base.specs.declared.device.TableEvent.{TableEvent}
use Rattle.dn_net.specs.declared.node.NodeDecl.{NodeDecl}
use Rattle.dn_net.specs.Decode.{is_agent_at}
use Rattle.dn_net.specs.Legal.{IsLegalNet}
use Rattle.dn_kind.specs.declared.rights.Rights.{Rights}
use Rattle.dn_kind.specs.Kind.{Meaning}
use Rattle.dn_kind.specs.Rights.{are_rights}
use Rattle.dn_kind.specs.Tables.{Held}
use Rattle.dn_tables.specs.declared.placement.Hop.{Hop}
use Rattle.dn_book.specs.declared.grant.Grant.{Grant}
use Rattle.dn_book.specs.Between.{IsOneOrOther}
use Rattle.dn_book.specs.Book.{IsFaithful, IsSound, has_id, records_of, slots_of}
use Rattle.dn_book.specs.Laws.{IsGrantFor}
use Rattle.dn_book.specs.Writes.{grant_events}
use Rattle.dn_gather.specs.declared.piece.Piece.{Piece}
use Rattle.dn_gather.specs.Scattered.{AreAdmissible, ArePlaced, at_hop, piece_request}

-- the grant of a piece at a hop, from an address of the agent on
abbrev pub piece_grant : ℕ → Rights → ℕ → Piece → Hop → Grant
piece_grant agent rights v p hop =
    record { id = p.id; request = piece_request agent rights p; placement = at_hop v hop }

-- the grants of pieces at their hops, one after another from an address of the agent on
abbrev pub grants_at : ℕ → Rights → ℕ → List Piece → List Hop → List Grant
grants_at agent rights v [] hops = []
grants_at agent rights v (p ∷ ps) [] = []
grants_at agent rights v (p ∷ ps) (hop ∷ hops) =
    piece_grant agent rights v p hop ∷ grants_at agent rights (v + p.size) ps hops

-- none of the pieces has the id
abbrev pub AreOtherIds : ℕ → List Piece → Type 0
AreOtherIds id [] = Unit {0}
AreOtherIds id (p ∷ ps) = (id ≢ p.id) × AreOtherIds id ps

-- no live grant has the id of a piece, and no two pieces have one id
abbrev pub AreNewIds : List Grant → List Piece → Type 0
AreNewIds book [] = Unit {0}
AreNewIds book (p ∷ ps) = (has_id p.id book ≡ false) × AreOtherIds p.id ps × AreNewIds book ps

-- What pieces must be to come into a book: their ids are new and differ, there is room for all, and they are
-- placed in the slots as the book leaves them.
pub record AreGrantsFor (net : List NodeDecl) (book : List Grant) (agent : ℕ) (rights : Rights) (unit v : ℕ)
    (ps : List Piece) (hops : List Hop) : Type 0 where
  pub few : length book + length ps ≤ 4096
  pub new : AreNewIds book ps
  pub by_agent : IsTrue (is_agent_at (slice_get net agent))
  pub with_rights : IsTrue (are_rights rights)
  pub placed : ArePlaced net (slots_of net book) agent rights unit v ps hops

-- The first of pieces that may come into a book is a grant that may, and once it is in the others may.
pub record PiecesComeInTurn : Type 0 where
  pub first : (net : List NodeDecl) (book : List Grant) (agent : ℕ) (rights : Rights) (unit v : ℕ) (p : Piece)
      (ps : List Piece) (hop : Hop) (hops : List Hop) →
      AreGrantsFor net book agent rights unit v (p ∷ ps) (hop ∷ hops) →
      IsGrantFor net book (piece_grant agent rights v p hop)
  pub others : (net : List NodeDecl) (book : List Grant) (agent : ℕ) (rights : Rights) (unit v : ℕ) (p : Piece)
      (ps : List Piece) (hop : Hop) (hops : List Hop) →
      AreGrantsFor net book agent rights unit v (p ∷ ps) (hop ∷ hops) →
      AreGrantsFor net (book ++ piece_grant agent rights v p hop ∷ []) agent rights unit (v + p.size) ps hops

-- A sound book is sound with the grants of pieces that may come into it, and faithful where it was so and the
-- scattered placement is admissible.
abbrev pub PiecesKeepBook : Type 0
PiecesKeepBook = (net : List NodeDecl) (book : List Grant) (agent : ℕ) (rights : Rights) (unit v : ℕ)
    (ps : List Piece) (hops : List Hop) → IsLegalNet net → IsSound net book →
    AreGrantsFor net book agent rights unit v ps hops →
    IsSound net (book ++ grants_at agent rights v ps hops)
    × (IsFaithful net book → AreAdmissible net (records_of net book) agent rights v ps hops →
    IsFaithful net (book ++ grants_at agent rights v ps hops))

-- Where under some records each name resolves as with so many of some grants beside a book or as with one more of
-- them, it resolves as with none of them or as with all.
abbrev pub PiecesAreCaught : Type 0
PiecesAreCaught = (net : List NodeDecl) (book gs : List Grant) (count : ℕ) (h : Held) → IsLegalNet net →
    IsOneOrOther net h (records_of net (book ++ take count gs)) (records_of net (book ++ take (suc count) gs)) →
    IsOneOrOther net h (records_of net book) (records_of net (book ++ gs))

-- the events of grants over a book, in order: where a fence is due, it comes before the first alone
abbrev pub gather_events : List NodeDecl → List Meaning → List Grant → Bool → List Grant → List TableEvent
gather_events net kinds book cleared [] = []
gather_events net kinds book cleared (g ∷ gs) =
    grant_events net kinds book cleared g ++ gather_events net kinds (book ++ g ∷ []) false gs
