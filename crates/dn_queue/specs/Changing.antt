-- What a change of a book leaves, whose events a queue keeps.
use Rattle.std.specs.Prelude.{◌≡◌, Bool, true, List, ◌++◌, None}
use Rattle.dn_base.specs.declared.device.TableEvent.{TableEvent}
use Rattle.dn_net.specs.declared.node.NodeDecl.{NodeDecl}
use Rattle.dn_kind.specs.Kind.{Meaning}
use Rattle.dn_tables.specs.Set.{IsOnDevice}
use Rattle.dn_book.specs.declared.grant.Grant.{Grant}
use Rattle.dn_book.specs.State.{BookState}
use Rattle.dn_book.specs.Tables.{IsKept}
use Rattle.dn_queue.specs.Queue.{QueueState}

-- The book has these grants now, its tables keep them, the queue has the units still, and the events of the change are
-- kept after those that were there.
pub record IsBookChanged (net : List NodeDecl) (kinds : List Meaning) (next : List Grant) (cleared : Bool)
    (events : List TableEvent) (book book' : BookState) (queue queue' : QueueState) : Type 0 where
  pub grants : book'.grants ≡ next
  pub fenced : book'.cleared ≡ cleared
  pub unfailed : book'.unfailed ≡ true
  pub kept : IsKept net kinds next book'.set
  pub on_device : IsOnDevice book'.set queue'.units None
  pub pending : queue'.events ≡ queue.events ++ events

-- nothing was changed: at most the queue has more room
pub record AreUnchanged (book book' : BookState) (queue queue' : QueueState) : Type 0 where
  pub stays : book' ≡ book
  pub units : queue'.units ≡ queue.units
  pub events : queue'.events ≡ queue.events
