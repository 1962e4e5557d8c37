-- What fences part in a log: records come before others go.
use Rattle.std.specs.Prelude.{◌≡◌, ◌≢◌, ℕ, suc, ◌<◌, ◌≤◌, Bool, List, length, slice_get, Some}
use Rattle.dn_base.specs.declared.device.TableEvent.{TableEvent}
use Rattle.dn_base.specs.declared.device.TableEvent.TheVariants.{Fence}
use Rattle.dn_net.specs.declared.node.NodeDecl.{NodeDecl}
use Rattle.dn_kind.specs.declared.unit_kind.Record.{Record}
use Rattle.dn_kind.specs.Kind.{Meaning}
use Rattle.dn_kind.specs.Tables.{Extends, Held}
use Rattle.dn_book.specs.Events.{held_at}
use Rattle.dn_book.specs.Going.{AreGoing}

-- From one moment to another, records are first only added and then only cleared.
pub record RisesThenFalls (held : ℕ → Held) (from to : ℕ) : Type 0 where
  pub peak : ℕ
  pub after : from ≤ peak
  pub before : peak ≤ to
  pub rises : (d : ℕ) → from ≤ d → d < peak → Extends (held d) (held (suc d))
  pub falls : (d : ℕ) → peak ≤ d → d < to → Extends (held (suc d)) (held d)

-- no fence stands in a log from one moment to another
abbrev pub NoFence : List TableEvent → ℕ → ℕ → Type 0
NoFence log from to = (d : ℕ) → from ≤ d → d < to → slice_get log d ≢ Some Fence

-- In a log between two fences records are first only added and then only cleared.
abbrev pub IsFenced : List NodeDecl → List Meaning → List (List ℕ) → List TableEvent → Type 0
IsFenced net kinds words log = (from to : ℕ) → from ≤ to → to ≤ length log → NoFence log from to →
    RisesThenFalls (held_at net kinds words log) from to

-- A log in which a fence stands before the first record that is added after a clear is fenced so.
abbrev pub GoingIsFenced : Type 0
GoingIsFenced = (net : List NodeDecl) (kinds : List Meaning) (words : List (List ℕ))
    (log : List TableEvent) (cleared last : Bool) →
    AreGoing net kinds words cleared log last → IsFenced net kinds words log

-- In a stretch in which records are first only added and then only cleared, all of them stand at one
-- moment, and a record that stands at both ends stands throughout.
pub record PeakAndFloor : Type 0 where
  pub peak : (held : ℕ → Held) (from to : ℕ) (w : RisesThenFalls held from to) (d : ℕ) →
      from ≤ d → d ≤ to → Extends (held d) (held w.peak)
  pub floor : (held : ℕ → Held) (from to : ℕ) → RisesThenFalls held from to → (d : ℕ) →
      from ≤ d → d ≤ to → (n q : ℕ) (r : Record) →
      held from n q ≡ Some r → held to n q ≡ Some r → held d n q ≡ Some r
