-- A session: a net with its live grants, their tables, and what is to be done to the hardware for them.
use Rattle.std.specs.Prelude.{◌≡◌, true, List, None}
use Rattle.dn_base.specs.declared.device.TableEvent.{TableEvent}
use Rattle.dn_base.specs.Device.{UnitSize}
use Rattle.dn_net.specs.declared.node.NodeDecl.{NodeDecl}
use Rattle.dn_kind.specs.Units.{IsLegalWith}
use Rattle.dn_flat.specs.Levels.{AreFlats, FlatsView}
use Rattle.dn_tables.specs.Set.{IsOnDevice}
use Rattle.dn_book.specs.Book.{IsFaithful}
use Rattle.dn_book.specs.State.{BookState}
use Rattle.dn_book.specs.Tables.{IsKept}
use Rattle.dn_session.specs.Shipped.{shipped_kinds}

-- the net, the live grants with their tables, and the events that are to be done, in order
pub record SessionState : Type 0 where
  pub net : List NodeDecl
  pub book : BookState
  pub pending : List TableEvent

-- What every session is, whatever calls were made of it: the net is legal with the shipped kinds; under the records of
-- the live grants each agent resolves each address to exactly what the book owes; and the tables hold these records.
pub record IsSession (s : SessionState) : Type 0 where
  pub legal : IsLegalWith shipped_kinds s.net
  pub faithful : IsFaithful s.net s.book.grants
  pub kept : IsKept s.net shipped_kinds s.book.grants s.book.set

-- what is true of the parts of a session: what is told of the nodes of its net is what they see, no event was lost, and
-- the queue has the units
pub record IsOpen (net : List NodeDecl) (flats : FlatsView) (book : BookState) (units : List UnitSize)
    : Type 0 where
  pub legal : IsLegalWith shipped_kinds net
  pub flat : AreFlats net flats
  pub faithful : IsFaithful net book.grants
  pub unfailed : book.unfailed ≡ true
  pub kept : IsKept net shipped_kinds book.grants book.set
  pub on_device : IsOnDevice book.set units None
