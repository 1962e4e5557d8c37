-- What granting a buffer in pieces comes to in a session.
use Rattle.std.specs.Prelude.{◌≡◌, ℕ, false, List, ◌++◌}
use Rattle.dn_net.specs.declared.node.NodeDecl.{NodeDecl}
use Rattle.dn_kind.specs.declared.rights.Rights.{Rights}
use Rattle.dn_kind.specs.Kind.{Meaning}
use Rattle.dn_book.specs.State.{BookState}
use Rattle.dn_gather.specs.declared.piece.Piece.{Piece}
use Rattle.dn_gather.specs.declared.scatter.Scatter.{Scatter}
use Rattle.dn_gather.specs.Gather.{IsScattered, grants_of}
use Rattle.dn_gather.specs.Grants.{gather_events}
use Rattle.dn_queue.specs.Changing.{IsBookChanged}
use Rattle.dn_queue.specs.Queue.{QueueState}
use Rattle.dn_session.specs.Changing.{IsSessionChanged}
use Rattle.dn_session.specs.Open.{SessionState}
use Rattle.dn_session.specs.Shipped.{shipped_kinds}

-- the session granted the pieces from an address of the agent on, at the first admissible scattered
-- placement: a grant of each piece lives, and their events are pending after those that were
pub record IsGathered (s : SessionState) (agent : ℕ) (rights : Rights) (ps : List Piece) (v : ℕ)
    (s' : SessionState) : Type 0 where
  pub place : Scatter
  pub placed : IsScattered s.net s.book.grants agent rights ps place
  pub address : v ≡ place.v
  pub changed : IsSessionChanged (s.book.grants ++ grants_of agent rights ps place) false
      (gather_events s.net shipped_kinds s.book.grants s.book.cleared
      (grants_of agent rights ps place)) s s'

-- so it is with a book whose events a queue keeps
pub record IsBookGathered (net : List NodeDecl) (kinds : List Meaning) (agent : ℕ) (rights : Rights)
    (ps : List Piece) (v : ℕ) (book book' : BookState) (queue queue' : QueueState) : Type 0 where
  pub place : Scatter
  pub placed : IsScattered net book.grants agent rights ps place
  pub address : v ≡ place.v
  pub changed : IsBookChanged net kinds (book.grants ++ grants_of agent rights ps place) false
      (gather_events net kinds book.grants book.cleared (grants_of agent rights ps place))
      book book' queue queue'
