-- Logs in which a fence stands before the first record that is added after a clear.
use Rattle.std.specs.Prelude.{◌≡◌, ℕ, Bool, true, false, List, [], ◌∷◌}
use Rattle.dn_base.specs.declared.device.TableEvent.{TableEvent}
use Rattle.dn_base.specs.declared.device.TableEvent.TheVariants.{Fence}
use Rattle.dn_net.specs.declared.node.NodeDecl.{NodeDecl}
use Rattle.dn_kind.specs.Kind.{Meaning}
use Rattle.dn_kind.specs.Tables.{Extends, record_held}
use Rattle.dn_book.specs.Events.{after_event}

-- What an event does to tables, where it is told before and after it whether a record was cleared since
-- the last fence: it is a fence; or none was, and records are only added; or they are only cleared.
pub data Goes (net : List NodeDecl) (kinds : List Meaning) (words : List (List ℕ)) (cleared : Bool)
    (e : TableEvent) (cleared' : Bool) : Type 0 where
  waits : e ≡ Fence → Goes net kinds words cleared e cleared'
  rises : cleared ≡ false → cleared' ≡ false →
      Extends (record_held net kinds words) (record_held net kinds (after_event e words)) →
      Goes net kinds words cleared e cleared'
  falls : cleared' ≡ true →
      Extends (record_held net kinds (after_event e words)) (record_held net kinds words) →
      Goes net kinds words cleared e cleared'

-- So do events, one after the other. After the last it may be told that a record was cleared, though
-- none was.
abbrev pub AreGoing : List NodeDecl → List Meaning → List (List ℕ) → Bool → List TableEvent → Bool →
    Type 0
AreGoing net kinds words cleared [] last = last ≡ false → cleared ≡ false
AreGoing net kinds words cleared (e ∷ es) last = (next : Bool) × Goes net kinds words cleared e next
    × AreGoing net kinds (after_event e words) next es last
