-- What is known before a change of a book, and that room was made for its events.
use Rattle.std.proofs.Common.{◌≡◌, ◌∙◌, ap, arith, ℕ, ◌+◌, ◌≤◌, List, length, Option}
use Rattle.dn_base.specs.declared.device.TableEvent.{TableEvent}
use Rattle.dn_base.specs.declared.device.UnitWords.{UnitWords}
use Rattle.dn_base.specs.Device.{UnitSize}
use Rattle.dn_net.specs.Chain.{Member}
use Rattle.dn_kind.specs.declared.kinded.KindedNet.{KindedNet}
use Rattle.dn_kind.specs.Kind.{Meaning}
use Rattle.dn_kind.specs.Kinded.{kinds_of}
use Rattle.dn_tables.proofs.Slots.{all_of_map}
use Rattle.dn_book.specs.declared.grant.Grant.{Grant}
use Rattle.dn_book.specs.Changed.{MayChange}
use Rattle.dn_book.specs.Laws.{IsGrantFor}
use Rattle.dn_book.specs.State.{BookState}
use Rattle.dn_book.proofs.Commit.{Coming}
use Rattle.dn_book.proofs.Revoke.{Going}
use Rattle.dn_queue.specs.Queue.{QueueState}

module _ {K : Type 0} {V : K → Type 0} (means : (k : K) × V k → Meaning) (on : KindedNet K V) (book : BookState) (units : List UnitSize) (words : Option (List UnitWords)) (ready : MayChange means on book units words) (g : Grant) where
  -- of a grant that is to come in
  pub coming : IsGrantFor on.net.now book.grants g → Coming on.net.now (kinds_of means on.kinds.now) book.grants g book.set
  coming placed = record { lawful = all_of_map _ on.kinds.now.list.items ready.kinded.lawful; legal = ready.kinded.legal; kept = ready.kept; placed = placed }

  -- of a live grant that is to go
  pub going : Member g book.grants → Going on.net.now (kinds_of means on.kinds.now) book.grants g book.set
  going live = record { lawful = all_of_map _ on.kinds.now.list.items ready.kinded.lawful; legal = ready.kinded.legal; kept = ready.kept; live = live }

-- so a queue stands once room was made for so many events more
abbrev pub with_room : QueueState → ℕ → QueueState
with_room q room = record { units = q.units; events = q.events; room = length q.events + room; faults = 0 }

-- there is room for as many events as that
pub has_room : (q q' : QueueState) (events : List TableEvent) (room : ℕ) → q' ≡ with_room q room → length events ≤ room → length q'.events + length events ≤ q'.room
has_room q q' events room e l =
    let same : length q'.events ≡ length q.events = ap (λ (s : QueueState). length s.events) e in
    let is : q'.room ≡ length q.events + room = ap (λ (s : QueueState). s.room) e in
    omega arith
