-- A grant and a revoke have no more events than room is made for.
use Rattle.std.proofs.Common.{◌≡◌, ◌∙◌, refl, sym, ap, arith, ℕ, zero, suc, ◌+◌, ◌*◌, ◌-◌, ◌≤◌, inl, inr, Bool, true, false, if◌then◌else◌, List, [], ◌∷◌, ◌++◌, length, replicate, reverse, slice_get, Option, Some, None, IsTrue}
use Rattle.std.specs.List.{All, flat_map, sum_by}
use Rattle.std.proofs.lemmas.List.{length-append, length-replicate, reverse-append}
use Rattle.std.proofs.lemmas.List.Sums.{sum_by-cons}
use Rattle.dn_base.specs.declared.device.TableEvent.{TableEvent}
use Rattle.dn_net.specs.declared.node.NodeDecl.{NodeDecl}
use Rattle.dn_net.specs.declared.node.Unit.{Unit as UnitPart}
use Rattle.dn_net.specs.Chain.{Member}
use Rattle.dn_net.specs.Decode.{unit_at}
use Rattle.dn_net.specs.Legal.{IsLegalNet}
use Rattle.dn_kind.specs.declared.rights.Rights.{Rights}
use Rattle.dn_kind.specs.declared.unit_kind.Record.{Record}
use Rattle.dn_kind.specs.Kind.{Meaning}
use Rattle.dn_kind.specs.Rights.{both_rights}
use Rattle.dn_kind.specs.Tables.{Held, IsHeld}
use Rattle.dn_kind.specs.Units.{unit_shape}
use Rattle.dn_tables.specs.declared.placement.Hop.{Hop}
use Rattle.dn_tables.specs.declared.table.NodeTable.{NodeTable}
use Rattle.dn_tables.specs.Writes.{clears_from, write_events, writes_from}
use Rattle.dn_placement.specs.Records.{hop_rights}
use Rattle.dn_book.specs.declared.grant.Grant.{Grant}
use Rattle.dn_book.specs.Book.{IsSound, records_of, without_id}
use Rattle.dn_book.specs.Laws.{IsGrantFor}
use Rattle.dn_book.specs.Writes.{Put, clear_events, clear_events_by, clears_of, empty_slots, fence_events, grant_events, grant_slots, hop_slots, hop_slots_by, hops_slots, is_empty, joined_slots, kind_by, put_events, put_events_by, puts_of, revoke_events, slots_from}
use Rattle.dn_book.proofs.Commit.{Coming}
use Rattle.dn_book.proofs.Live.{clears_there, puts_held}
use Rattle.dn_book.proofs.Packed.{AreKindsOf, kind_of, packable_held}
use Rattle.dn_book.proofs.Revoke.{Going}
use Rattle.dn_queue.specs.Room.{event_room, slots_of_hop, slots_taken}
use Rattle.dn_queue.proofs.Slots.{hop_length}

-- HOW MANY SLOTS THERE ARE

joined_length : (net : List NodeDecl) (size : ℕ) (r : Rights) (own place : ℕ) (hops : List Hop) → length (joined_slots (hops_slots net size r own place hops)) ≡ slots_taken net size hops
joined_length net size r own place [] = refl
joined_length net size r own place (hop ∷ hops) =
    length-append (hop_slots net size (hop_rights r own place) hop) (joined_slots (hops_slots net size r own (suc place) hops))
    ∙ (λ i. hop_length net size (hop_rights r own place) hop i + joined_length net size r own (suc place) hops i)
    ∙ sym (sum_by-cons (slots_of_hop net size) hop hops)

joined_append : (xss yss : List (List Put)) → length (joined_slots (xss ++ yss)) ≡ length (joined_slots xss) + length (joined_slots yss)
joined_append [] yss = omega arith
joined_append (xs ∷ xss) yss =
    let e = length-append xs (joined_slots (xss ++ yss)) in
    let f = length-append xs (joined_slots xss) in
    let more = joined_append xss yss in
    omega arith

joined_reverse : (xss : List (List Put)) → length (joined_slots (reverse xss)) ≡ length (joined_slots xss)
joined_reverse [] = refl
joined_reverse (xs ∷ xss) =
    let turned : length (joined_slots (reverse (xs ∷ xss))) ≡ length (joined_slots (reverse xss ++ (xs ∷ []))) = ap (λ l. length (joined_slots l)) (reverse-append (xs ∷ []) xss) in
    let split : length (joined_slots (reverse xss ++ (xs ∷ []))) ≡ length (joined_slots (reverse xss)) + length (joined_slots (xs ∷ [])) = joined_append (reverse xss) (xs ∷ []) in
    let one : length (joined_slots (xs ∷ [])) ≡ length xs + length (joined_slots []) = length-append xs (joined_slots []) in
    let whole : length (joined_slots (xs ∷ xss)) ≡ length xs + length (joined_slots xss) = length-append xs (joined_slots xss) in
    let rest : length (joined_slots (reverse xss)) ≡ length (joined_slots xss) = joined_reverse xss in
    let none : length (joined_slots []) ≡ 0 = refl in
    omega arith

empty_fewer : (h : Held) (ss : List Put) → length (empty_slots h ss) ≤ length ss
empty_fewer h [] = omega arith
empty_fewer h (s ∷ ss) = by (is_empty (h s.unit s.slot)) (empty_fewer h ss)
  where
    by : (b : Bool) → length (empty_slots h ss) ≤ length ss → length (if b then s ∷ empty_slots h ss else empty_slots h ss) ≤ suc (length ss)
    by true l = omega arith
    by false l = omega arith

-- HOW MANY EVENTS A SLOT HAS

flat_few : (f : Put → List TableEvent) (ss : List Put) → ((s : Put) → Member s ss → length (f s) ≤ 4) → length (flat_map f ss) ≤ 4 * length ss
flat_few f [] few = omega arith
flat_few f (s ∷ ss) few =
    let e : length (flat_map f (s ∷ ss)) ≡ length (f s) + length (flat_map f ss) = length-append (f s) (flat_map f ss) in
    let one : length (f s) ≤ 4 = few s (inl refl) in
    let rest : length (flat_map f ss) ≤ 4 * length ss = flat_few f ss (λ t m. few t (inr m)) in
    omega arith

writes_length : (unit word : ℕ) (vs : List ℕ) → length (write_events unit (writes_from word vs)) ≡ length vs
writes_length unit word [] = refl
writes_length unit word (v ∷ vs) = ap suc (writes_length unit (suc word) vs)

put_few : (net : List NodeDecl) (kinds : List Meaning) → AreKindsOf net kinds → (s : Put) → IsHeld net s.unit s.slot s.holds → length (put_events net kinds s) ≤ 4
put_few net kinds k s held =
    let u = held.unit in
    let kind = kind_of net kinds k s.unit u.0 u.1 in
    let is : put_events net kinds s ≡ put_events_by (Some u.0) (Some kind.kind) s = ap (λ o. put_events_by o (kind_by kinds o) s) u.1 ∙ ap (λ m. put_events_by (Some u.0) m s) kind.at in
    let count : length (put_events net kinds s) ≡ kind.kind.words =
    ap length is ∙ writes_length s.unit (s.slot * kind.kind.words) (kind.kind.pack (unit_shape u.0) s.holds)
    ∙ kind.law.width (unit_shape u.0) s.holds (packable_held net kinds s.unit s.slot u.0 kind s.holds u.1 held) in
    let most = kind.law.most in
    omega arith

clear_few : (net : List NodeDecl) (kinds : List Meaning) → AreKindsOf net kinds → (s : Put) (u : UnitPart) → unit_at net s.unit ≡ Some u → length (clear_events net kinds s) ≤ 4
clear_few net kinds k s u e =
    let kind = kind_of net kinds k s.unit u e in
    let w : ℕ = kind.kind.words in
    let is : clear_events net kinds s ≡ clear_events_by (Some kind.kind) s = ap (λ o. clear_events_by (kind_by kinds o) s) e ∙ ap (λ m. clear_events_by m s) kind.at in
    let count : length (clear_events net kinds s) ≡ suc (w - 1) =
    ap length is ∙ ap suc (writes_length s.unit (s.slot * w) (replicate (w - 1) 0) ∙ length-replicate (w - 1) 0) in
    let least = kind.law.least in
    let most = kind.law.most in
    omega arith

-- HOW MANY EVENTS A GRANT AND A REVOKE HAVE

fence_few : (cleared : Bool) → length (fence_events cleared) ≤ 1
fence_few true = omega arith
fence_few false = omega arith

-- of a grant that may come into a sound book
pub sound_few : (net : List NodeDecl) (kinds : List Meaning) (book : List Grant) (g : Grant) → AreKindsOf net kinds → IsLegalNet net → IsSound net book → IsGrantFor net book g → (cleared : Bool) → length (grant_events net kinds book cleared g) ≤ event_room net g.request.size g.placement.hops
sound_few net kinds book g k legal sound placed cleared =
    let e : length (grant_events net kinds book cleared g) ≡ length (fence_events cleared) + length (flat_map (put_events net kinds) (puts_of net book g)) = length-append (fence_events cleared) (flat_map (put_events net kinds) (puts_of net book g)) in
    let fence = fence_few cleared in
    let puts : length (flat_map (put_events net kinds) (puts_of net book g)) ≤ 4 * length (puts_of net book g) =
    flat_few (put_events net kinds) (puts_of net book g) (λ s m. put_few net kinds k s (puts_held net legal book g sound placed s m)) in
    let fewer : length (puts_of net book g) ≤ length (joined_slots (reverse (grant_slots net g))) = empty_fewer (records_of net book) (joined_slots (reverse (grant_slots net g))) in
    let all : length (joined_slots (reverse (grant_slots net g))) ≡ slots_taken net g.request.size g.placement.hops =
    joined_reverse (grant_slots net g) ∙ joined_length net g.request.size g.request.rights g.placement.own 0 g.placement.hops in
    omega arith

pub grant_few : (net : List NodeDecl) (kinds : List Meaning) (book : List Grant) (g : Grant) (set : List NodeTable) → Coming net kinds book g set → (cleared : Bool) → length (grant_events net kinds book cleared g) ≤ event_room net g.request.size g.placement.hops
grant_few net kinds book g set c cleared = sound_few net kinds book g (record { lawful = c.lawful; shaped = c.legal.shaped }) c.legal.legal c.kept.sound c.placed cleared

pub revoke_few : (net : List NodeDecl) (kinds : List Meaning) (book : List Grant) (g : Grant) (set : List NodeTable) → Going net kinds book g set → length (revoke_events net kinds book g) ≤ event_room net g.request.size g.placement.hops
revoke_few net kinds book g set c =
    let k : AreKindsOf net kinds = record { lawful = c.lawful; shaped = c.legal.shaped } in
    let clears : length (flat_map (clear_events net kinds) (clears_of net book g)) ≤ 4 * length (clears_of net book g) =
    flat_few (clear_events net kinds) (clears_of net book g) (λ s m. (let there = clears_there net c.legal.legal book g c.kept.sound c.live s m in clear_few net kinds k s there.0 there.1)) in
    let fewer : length (clears_of net book g) ≤ length (joined_slots (grant_slots net g)) = empty_fewer (records_of net (without_id g.id book)) (joined_slots (grant_slots net g)) in
    let all : length (joined_slots (grant_slots net g)) ≡ slots_taken net g.request.size g.placement.hops =
    joined_length net g.request.size g.request.rights g.placement.own 0 g.placement.hops in
    omega arith
