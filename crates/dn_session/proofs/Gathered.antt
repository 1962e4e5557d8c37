-- How many events the grants of pieces have, and what a call of `gather` leaves of a book and a queue with room for them.
use Rattle.std.proofs.Common.{◌≡◌, ◌∙◌, ap, sym, subst, refl, arith, ℕ, zero, suc, ◌+◌, ◌*◌, ◌-◌, ◌/◌, ◌^◌, ◌<◌, ◌≤◌, inl, Bool, true, false, if◌then◌else◌, nat_lt, List, [], ◌∷◌, ◌++◌, length, Option, Some, None, Result, Ok, Err, IsTrue, ltb-true, pow_pos}
use Rattle.std.proofs.Math.Nat.{add-mul, div-lt_iff_lt-mul, le-max_left, le-max_right}
use Rattle.std.proofs.lemmas.List.{length-append}
use Rattle.std.proofs.lemmas.List.Sums.{sum_by-cons}
use Rattle.dn_base.specs.declared.device.TableEvent.{TableEvent}
use Rattle.dn_net.specs.declared.node.NodeDecl.{NodeDecl}
use Rattle.dn_net.specs.declared.node.Unit.{Unit as UnitPart}
use Rattle.dn_net.specs.Decode.{unit_at}
use Rattle.dn_net.specs.Legal.{IsLegalNet}
use Rattle.dn_kind.specs.declared.kinded.KindedNet.{KindedNet}
use Rattle.dn_kind.specs.declared.rights.Rights.{Rights}
use Rattle.dn_kind.specs.Kind.{Meaning}
use Rattle.dn_kind.specs.Kinded.{kinds_of}
use Rattle.dn_kind.specs.Rights.{are_rights}
use Rattle.dn_tables.specs.declared.placement.Hop.{Hop}
use Rattle.dn_tables.specs.Set.{words_of}
use Rattle.dn_tables.proofs.Slots.{all_of_map}
use Rattle.dn_placement.specs.Records.{first_slot, last_slot}
use Rattle.dn_book.specs.declared.grant.Grant.{Grant}
use Rattle.dn_book.specs.Book.{IsSound, slots_of}
use Rattle.dn_book.specs.Changed.{MayChange}
use Rattle.dn_book.specs.Laws.{IsGrantFor}
use Rattle.dn_book.specs.Sets.{AreFit, TakesSlots}
use Rattle.dn_book.specs.State.{BookState}
use Rattle.dn_book.specs.Tables.{IsKept}
use Rattle.dn_book.specs.Writes.{grant_events}
use Rattle.dn_book.proofs.Faithful.{grant_keeps_book}
use Rattle.dn_book.proofs.Hops.{last_there}
use Rattle.dn_book.proofs.Packed.{AreKindsOf}
use Rattle.dn_book.proofs.Sound.{placed_fit}
use Rattle.dn_grant.specs.declared.fault.GrantFault.{GrantFault}
use Rattle.dn_grant.specs.declared.fault.GrantFault.TheVariants.{Device}
use Rattle.dn_grant.specs.Done.{IsGrantDone}
use Rattle.dn_gather.specs.declared.piece.Piece.{Piece}
use Rattle.dn_gather.specs.declared.scatter.Scatter.{Scatter}
use Rattle.dn_gather.specs.declared.refusal.GatherRefusal.{GatherRefusal}
use Rattle.dn_gather.specs.Gather.{IsGatherLogged, IsGatherOutcome, grants_of}
use Rattle.dn_gather.specs.Grants.{AreGrantsFor, gather_events, piece_grant, grants_at}
use Rattle.dn_gather.specs.Scattered.{at_hop, piece_request}
use Rattle.dn_gather.proofs.Allowed.{scattered_grants}
use Rattle.dn_gather.proofs.Chosen.{first_scatter_is_one}
use Rattle.dn_gather.proofs.Coming.{pieces_come_in_turn}
use Rattle.dn_gather.proofs.Committing.{all_appended}
use Rattle.dn_queue.specs.Queue.{IsFull, QueueState, faults_at, log_of}
use Rattle.dn_queue.specs.Room.{event_room, slots_of_hop}
use Rattle.dn_queue.proofs.Changed.{added_kept, never_full}
use Rattle.dn_queue.proofs.Events.{sound_few}
use Rattle.dn_queue.proofs.Ready.{has_room, with_room}
use Rattle.dn_queue.proofs.Slots.{unit_slots}
use Rattle.dn_session.specs.Gathering.{IsBookGathered}
use Rattle.dn_session.specs.Room.{most_slots, pieces_room, unit_most}

-- HOW MANY SLOTS A HOP TAKES

hop_few : (u : UnitPart) (size : ℕ) (hop : Hop) → TakesSlots u size hop → suc (last_slot u size hop) - first_slot u hop ≤ unit_most size (Some u)
hop_few u size hop takes = reached (nat_lt (2 ^ u.reach) size) refl
  where
    last : last_slot u size hop < u.slots
    last = last_there u size hop takes

    pages : suc (last_slot u size hop) - first_slot u hop ≤ size / 2 ^ u.page + 2
    pages =
        let a : hop.x < suc (hop.x / 2 ^ u.page) * 2 ^ u.page = (div-lt_iff_lt-mul (pow_pos u.page)).0 (omega arith) in
        let b : size < suc (size / 2 ^ u.page) * 2 ^ u.page = (div-lt_iff_lt-mul (pow_pos u.page)).0 (omega arith) in
        let both : (suc (hop.x / 2 ^ u.page) + suc (size / 2 ^ u.page)) * 2 ^ u.page ≡ suc (hop.x / 2 ^ u.page) * 2 ^ u.page + suc (size / 2 ^ u.page) * 2 ^ u.page = add-mul (suc (hop.x / 2 ^ u.page)) (suc (size / 2 ^ u.page)) (2 ^ u.page) in
        let end : (hop.x + size - 1) / 2 ^ u.page < suc (hop.x / 2 ^ u.page) + suc (size / 2 ^ u.page) = (div-lt_iff_lt-mul (pow_pos u.page)).1 (omega (arith, a, b, both)) in
        omega (arith, end)

    by : (b : Bool) → suc (last_slot u size hop) - first_slot u hop ≤ (if b then size / 2 ^ u.page + 2 else u.slots)
    by true = pages
    by false = omega (arith, last)

    reached : (b : Bool) → nat_lt (2 ^ u.reach) size ≡ b → suc (last_slot u size hop) - first_slot u hop ≤ (if b then 0 else (if nat_lt (size / 2 ^ u.page) u.slots then size / 2 ^ u.page + 2 else u.slots))
    reached true e = (let more : 2 ^ u.reach < size = ltb-true (2 ^ u.reach) size e in let most : hop.y + size ≤ 2 ^ u.reach = takes.fits.reached in absurd (omega (arith, more, most)))
    reached false e = by (nat_lt (size / 2 ^ u.page) u.slots)

most_bound : (net : List NodeDecl) (size node : ℕ) (u : UnitPart) → unit_at net node ≡ Some u → unit_most size (Some u) ≤ most_slots net size
most_bound [] size node u e = cc
most_bound (n ∷ ns) size zero u e = subst (λ (o : Option UnitPart). unit_most size o ≤ most_slots (n ∷ ns) size) e (le-max_left (unit_most size n.unit) (most_slots ns size))
most_bound (n ∷ ns) size (suc node) u e = le_then (most_bound ns size node u e) (le-max_right (unit_most size n.unit) (most_slots ns size))
  where
    le_then : {a b c : ℕ} → a ≤ b → b ≤ c → a ≤ c
    le_then p q = omega (arith, p, q)

piece_few : (net : List NodeDecl) (size : ℕ) (hop : Hop) → AreFit net size (hop ∷ []) → event_room net size (hop ∷ []) ≤ 4 * most_slots net size + 1
piece_few net size hop fit =
    let at = fit.units hop (inl refl) in
    let one : slots_of_hop net size hop ≤ unit_most size (Some at.0) = subst (λ n. n ≤ unit_most size (Some at.0)) (sym (unit_slots net size hop at.0 at.1)) (hop_few at.0 size hop at.2) in
    whole (slots_of_hop net size hop) (unit_most size (Some at.0)) (most_slots net size) one (most_bound net size hop.unit at.0 at.1)
  where
    whole : (a b c : ℕ) → a ≤ b → b ≤ c → 4 * (0 + a) + 1 ≤ 4 * c + 1
    whole a b c p q = omega (arith, p, q)

-- HOW MANY EVENTS GRANTS OF PIECES HAVE

gather_few : (net : List NodeDecl) (kinds : List Meaning) → AreKindsOf net kinds → IsLegalNet net → (agent : ℕ) (rights : Rights) (unit : ℕ) (book : List Grant) (cleared : Bool) (v : ℕ) (ps : List Piece) (hops : List Hop) → IsSound net book → AreGrantsFor net book agent rights unit v ps hops → length (gather_events net kinds book cleared (grants_at agent rights v ps hops)) ≤ pieces_room net ps
gather_few net kinds k legal agent rights unit book cleared v [] hops sound f = omega arith
gather_few net kinds k legal agent rights unit book cleared v (p ∷ ps) [] sound f = absurd f.placed
gather_few net kinds k legal agent rights unit book cleared v (p ∷ ps) (hop ∷ hops) sound f =
    let g : Grant = piece_grant agent rights v p hop in
    let after : List Grant = book ++ g ∷ [] in
    let es : List TableEvent = grant_events net kinds book cleared g in
    let fs : List TableEvent = gather_events net kinds after false (grants_at agent rights (v + p.size) ps hops) in
    let first : IsGrantFor net book g = pieces_come_in_turn.first net book agent rights unit v p ps hop hops f in
    let still : IsSound net after = (grant_keeps_book net book g legal sound first).0 in
    let fit : AreFit net p.size (hop ∷ []) = placed_fit net legal (slots_of net book) (piece_request agent rights p) (at_hop v hop) first.placed in
    whole (length es) (event_room net p.size (hop ∷ [])) (4 * most_slots net p.size + 1) (length fs) (pieces_room net ps) _ _
    (length-append es fs) (sum_by-cons (λ (q : Piece). 4 * most_slots net q.size + 1) p ps)
    (sound_few net kinds book g k legal sound first cleared) (piece_few net p.size hop fit)
    (gather_few net kinds k legal agent rights unit after false (v + p.size) ps hops still (pieces_come_in_turn.others net book agent rights unit v p ps hop hops f))
  where
    whole : (a b c d e x y : ℕ) → x ≡ a + d → y ≡ c + e → a ≤ b → b ≤ c → d ≤ e → x ≤ y
    whole a b c d e x y i j p q r = omega (arith, i, j, p, q, r)

-- WHAT A CALL LEAVES

module _ {K : Type 0} {V : K → Type 0} (means : (k : K) × V k → Meaning) (on : KindedNet K V) (agent : ℕ) (rights : Rights) (ps : List Piece) (book book' : BookState) (queue mid queue' : QueueState) where
  abbrev kinds : List Meaning
  kinds = kinds_of means on.kinds.now

  -- what a call says of the book and of the queue
  abbrev pub IsDone : Result ℕ (GrantFault GatherRefusal) → Type 0
  IsDone result = IsGrantDone {D = QueueState} means on (IsGatherOutcome on.net.now book.grants agent rights ps) (λ failed log log'. IsGatherLogged on.net.now kinds book.grants book.cleared agent rights ps failed log log' (words_of book'.set) book'.grants) result book book' (λ q. q.units) (λ q. None) faults_at log_of mid queue'

  -- it was done
  pub book_gathered : (v : ℕ) → mid.events ≡ queue.events → IsDone (Ok v) → IsBookGathered on.net.now kinds agent rights ps v book book' queue queue'
  book_gathered v same done =
      let logged = done.granted in
      let gs : List Grant = grants_of agent rights ps logged.place in
      let appended : book'.grants ≡ book.grants ++ gs = all_appended _ _ _ _ _ _ _ _ _ logged.committed in
      record {
        place = logged.place;
        placed = logged.placed;
        address = done.turn.address ∙ ap (λ (s : Scatter). s.v) (first_scatter_is_one on.net.now (slots_of on.net.now book.grants) agent rights ps done.turn.place logged.place done.turn.placed.first logged.placed.first);
        changed = record {
          grants = appended;
          fenced = done.changed.fenced;
          unfailed = done.changed.unfailed;
          kept = subst (λ (l : List Grant). IsKept on.net.now kinds l book'.set) appended done.changed.kept;
          on_device = done.changed.on_device;
          pending = added_kept mid queue' (gather_events on.net.now kinds book.grants book.cleared gs) logged.committed.added ∙ ap (λ (es : List TableEvent). es ++ gather_events on.net.now kinds book.grants book.cleared gs) same;
        };
      }

  -- a fault of the queue never comes, since there was room
  pub never_stopped : MayChange means on book queue.units None → IsTrue (are_rights rights) → mid ≡ with_room queue (pieces_room on.net.now ps) → IsFull queue' → IsDone (Err Device) → ⊥
  never_stopped ready with_rights room full done =
      let logged = done.stopped refl in
      let s : Scatter = logged.place in
      let k : AreKindsOf on.net.now kinds = record { lawful = all_of_map _ on.kinds.now.list.items ready.kinded.lawful; shaped = ready.kinded.legal.shaped } in
      let events : List TableEvent = gather_events on.net.now kinds book.grants book.cleared (grants_of agent rights ps s) in
      let few : length events ≤ pieces_room on.net.now ps = gather_few on.net.now kinds k ready.kinded.legal.legal agent rights s.unit book.grants book.cleared s.v ps s.hops ready.kept.sound (scattered_grants on.net.now book.grants agent rights ps s with_rights logged.placed) in
      never_full mid queue' events (has_room queue mid events (pieces_room on.net.now ps) room few) (ap (λ (q : QueueState). q.faults) room) full done.changed.counted logged.committed.added
