-- What committing grants one after another leaves: the events, the live grants, and what each name resolves to.
use Rattle.std.specs.Prelude.{◌≡◌, ℕ, suc, ◌<◌, ◌≤◌, Bool, true, false, List, ◌++◌, length, take, Option}
use Rattle.dn_base.specs.declared.device.TableEvent.{TableEvent}
use Rattle.dn_net.specs.declared.node.NodeDecl.{NodeDecl}
use Rattle.dn_kind.specs.Kind.{Meaning}
use Rattle.dn_book.specs.declared.grant.Grant.{Grant}
use Rattle.dn_book.specs.Between.{IsCaught}
use Rattle.dn_book.specs.Writes.{AreAdded}
use Rattle.dn_gather.specs.Grants.{gather_events}

-- The events of grants were added to a log in order: all of them, or those before one that failed. The grants
-- whose events all came are live, and no others, less than all after a failure. After a failure each name
-- resolves for each access, under the words that stand then, as before the grants or as with all of them.
pub record AreCommitted (net : List NodeDecl) (kinds : List Meaning) (book : List Grant) (cleared : Bool)
    (gs : List Grant) (failed : Bool) (log log' : Option (List TableEvent)) (words : List (List ℕ))
    (next : List Grant) : Type 0 where
  pub live : ℕ
  pub all : failed ≡ false → live ≡ length gs
  pub less : failed ≡ true → live < length gs
  pub appended : next ≡ book ++ take live gs
  pub added : AreAdded (gather_events net kinds book cleared gs) failed log log'
  pub whole : length (gather_events net kinds book cleared (take live gs)) ≤ added.made
  pub within : failed ≡ true →
      added.made < length (gather_events net kinds book cleared (take (suc live) gs))
  pub caught : failed ≡ true → IsCaught net kinds words book (book ++ gs)
