-- A queue in which room was made keeps all events of a change.
use Rattle.std.proofs.Common.{◌≡◌, ◌≢◌, ◌∙◌, refl, sym, ap, subst, arith, ℕ, zero, suc, ◌+◌, ◌-◌, ◌^◌, ◌<◌, ◌≤◌, ◌⊎◌, inl, inr, true, false, List, [], ◌∷◌, ◌++◌, length, take, drop, Option, Some, None, IsSome}
use Rattle.std.proofs.lemmas.List.{length-append, length-take-le}
use Rattle.std.proofs.lemmas.Option.{same_Some}
use Rattle.std.proofs.Math.Seq.{take-length}
use Rattle.dn_base.specs.declared.device.TableEvent.{TableEvent}
use Rattle.dn_base.specs.declared.device.TableEvent.TheVariants.{Make, Write, Fence}
use Rattle.dn_base.specs.Device.{Logged}
use Rattle.dn_base.specs.Outside.{IsCounted}
use Rattle.dn_book.specs.Writes.{AreAdded}
use Rattle.dn_queue.specs.Queue.{IsFull, QueueState, faults_at, log_of}

-- the room that an entry of the log has
abbrev room_of : List TableEvent → ℕ
room_of [] = 0
room_of (Make unit words ∷ es) = words
room_of (Write unit word value ∷ es) = 0
room_of (Fence ∷ es) = 0

-- what was logged was kept, and the room stands
pub record IsKeptAll (q q' : QueueState) (added : List TableEvent) : Type 0 where
  pub room : q'.room ≡ q.room
  pub events : q'.events ≡ q.events ++ added

pub logged_kept : (q q' : QueueState) (events : List TableEvent) → Logged (log_of q) (log_of q') events → IsKeptAll q q' events
logged_kept q q' events logged =
    let is : (Make 0 q'.room ∷ q'.events) ≡ (Make 0 q.room ∷ (q.events ++ events)) = same_Some _ _ (logged refl) in
    record { room = ap room_of is; events = ap (drop 1) is }

-- all events were added
pub added_kept : (q q' : QueueState) (events : List TableEvent) → AreAdded events false (log_of q) (log_of q') → q'.events ≡ q.events ++ events
added_kept q q' events added =
    let made : added.made ≡ length events = added.all refl in
    (logged_kept q q' (take added.made events) added.logged).events
    ∙ ap (λ n. q.events ++ take n events) made ∙ ap (λ es. q.events ++ es) (take-length events)

-- no call fails while there is room
pub never_full : (q q' : QueueState) (events : List TableEvent) → length q.events + length events ≤ q.room → q.faults ≡ 0 → IsFull q' → IsCounted (faults_at q) (faults_at q') true → AreAdded events true (log_of q) (log_of q') → ⊥
never_full q q' events room none full counted added =
    let kept = logged_kept q q' (take added.made events) added.logged in
    let less : added.made < length events = added.less refl in
    let some : q'.faults ≢ 0 = rose counted.rose in
    let filled : q'.room ≤ length q'.events = full some in
    let same : q'.room ≡ q.room = kept.room in
    let count : length q'.events ≡ length q.events + length (take added.made events) = ap length kept.events ∙ length-append q.events (take added.made events) in
    let few : length (take added.made events) ≡ added.made = length-take-le added.made events (omega arith) in
    omega arith
  where
    rose : (true ≡ true → (q.faults < q'.faults) ⊎ (q'.faults ≡ 2 ^ 64 - 1)) → q'.faults ≢ 0
    rose r zero' = by (r refl)
      where
        by : (q.faults < q'.faults) ⊎ (q'.faults ≡ 2 ^ 64 - 1) → ⊥
        by (inl l) = omega arith
        by (inr e) = omega arith
