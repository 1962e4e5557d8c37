-- What a request for pieces comes to: a refusal, or a grant for each piece at the first admissible scattered placement.
use Rattle.std.specs.Prelude.{◌≡◌, ℕ, Bool, List, ◌++◌, Option, Some, None, Result, Ok, Err}
use Rattle.dn_base.specs.declared.device.TableEvent.{TableEvent}
use Rattle.dn_net.specs.declared.node.NodeDecl.{NodeDecl}
use Rattle.dn_kind.specs.declared.rights.Rights.{Rights}
use Rattle.dn_kind.specs.Kind.{Meaning}
use Rattle.dn_book.specs.declared.grant.Grant.{Grant}
use Rattle.dn_book.specs.Book.{slots_of}
use Rattle.dn_gather.specs.declared.piece.Piece.{Piece}
use Rattle.dn_gather.specs.declared.scatter.Scatter.{Scatter}
use Rattle.dn_gather.specs.Commits.{AreCommitted}
use Rattle.dn_gather.specs.Grants.{grants_at}
use Rattle.dn_gather.specs.declared.refusal.GatherRefusal.{GatherRefusal}
use Rattle.dn_gather.specs.declared.refusal.GatherRefusal.TheVariants.{NoPlacement}
use Rattle.dn_gather.specs.Refusal.{gather_refusal}
use Rattle.dn_gather.specs.Scattered.{IsFirstScatter, NoneScattered}

-- the grants of pieces at a scattered placement
abbrev pub grants_of : ℕ → Rights → List Piece → Scatter → List Grant
grants_of agent rights ps s = grants_at agent rights s.v ps s.hops

-- no refusal holds, and the scattered placement is the first that is admissible
pub record IsScattered (net : List NodeDecl) (book : List Grant) (agent : ℕ) (rights : Rights) (ps : List Piece)
    (s : Scatter) : Type 0 where
  pub allowed : gather_refusal net book agent ps ≡ None
  pub first : IsFirstScatter net (slots_of net book) agent rights ps s

-- no refusal holds that needs no search, and no scattered placement is admissible
pub record IsUnscattered (net : List NodeDecl) (book : List Grant) (agent : ℕ) (rights : Rights) (ps : List Piece)
    : Type 0 where
  pub allowed : gather_refusal net book agent ps ≡ None
  pub none : NoneScattered net (slots_of net book) agent rights ps

-- the pieces are granted from an address of the agent on: at the first admissible scattered placement
pub record IsGatherMade (net : List NodeDecl) (book : List Grant) (agent : ℕ) (rights : Rights) (ps : List Piece)
    (v : ℕ) (next : List Grant) : Type 0 where
  pub place : Scatter
  pub placed : IsScattered net book agent rights ps place
  pub address : v ≡ place.v
  pub appended : next ≡ book ++ grants_of agent rights ps place

-- the refusal is the first that holds; that no scattered placement is admissible is the last
abbrev pub IsGatherRefused : List NodeDecl → List Grant → ℕ → Rights → List Piece → GatherRefusal → Type 0
IsGatherRefused net book agent rights ps NoPlacement = IsUnscattered net book agent rights ps
IsGatherRefused net book agent rights ps why = gather_refusal net book agent ps ≡ Some why

-- A turn of `gather`: the first refusal that holds, and the book stays; or the agent's address of the first admissible
-- scattered placement, and a grant for each piece is appended, in order.
abbrev pub IsGatherAnswer : List NodeDecl → List Grant → ℕ → Rights → List Piece → Result ℕ GatherRefusal →
    List Grant → Type 0
IsGatherAnswer net book agent rights ps (Ok v) next = IsGatherMade net book agent rights ps v next
IsGatherAnswer net book agent rights ps (Err why) next =
    IsGatherRefused net book agent rights ps why × (next ≡ book)

-- What a call of `gather` comes to: a turn; or it fails, where no refusal holds that needs no search. What the book is
-- after it has failed is said beside this, since a fault of the device leaves some of the grants in it.
abbrev pub IsGatherOutcome : List NodeDecl → List Grant → ℕ → Rights → List Piece →
    Option (Result ℕ GatherRefusal) → List Grant → Type 0
IsGatherOutcome net book agent rights ps (Some made) next = IsGatherAnswer net book agent rights ps made next
IsGatherOutcome net book agent rights ps None next = gather_refusal net book agent ps ≡ None

-- The grants at the first admissible scattered placement were committed one after another: all of them, or those
-- before the one at which the device failed.
pub record IsGatherLogged (net : List NodeDecl) (kinds : List Meaning) (book : List Grant) (cleared : Bool)
    (agent : ℕ) (rights : Rights) (ps : List Piece) (failed : Bool) (log log' : Option (List TableEvent))
    (words : List (List ℕ)) (next : List Grant) : Type 0 where
  pub place : Scatter
  pub placed : IsScattered net book agent rights ps place
  pub committed : AreCommitted net kinds book cleared (grants_of agent rights ps place) failed log log'
      words next
