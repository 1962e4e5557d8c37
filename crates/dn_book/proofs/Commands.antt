-- The tables of a book while a grant comes and while it goes, event by event.
use Rattle.std.proofs.Common.{◌≡◌, ◌∙◌, ap, sym, subst, refl, ℕ, zero, suc, ◌+◌, ◌-◌, ◌*◌, ◌<◌, ◌≤◌, inl, inr, Bool, true, false, if◌then◌else◌, List, [], ◌∷◌, ◌++◌, length, reverse, replicate, Option, Some, None, slice_get, arith, suc-mul}
use Rattle.std.specs.List.{flat_map}
use Rattle.std.proofs.Math.Nat.{mul-le-mul_right}
use Rattle.std.proofs.Math.Seq.{take-length}
use Rattle.std.proofs.lemmas.List.{length-replicate, length-reverse}
use Rattle.std.proofs.lemmas.Option.{slice_get_within}
use Rattle.dn_base.specs.declared.device.TableEvent.{TableEvent}
use Rattle.dn_base.proofs.Members.{member_cases}
use Rattle.dn_net.specs.declared.node.NodeDecl.{NodeDecl}
use Rattle.dn_net.specs.declared.node.Unit.{Unit as UnitPart}
use Rattle.dn_net.specs.Chain.{Member}
use Rattle.dn_net.specs.Decode.{unit_at}
use Rattle.dn_kind.specs.declared.rights.Rights.{Rights}
use Rattle.dn_kind.specs.Kind.{Meaning}
use Rattle.dn_kind.specs.Tables.{AreHeld, Extends, Held, IsHeld, record_held, slot_words}
use Rattle.dn_kind.specs.Units.{unit_shape}
use Rattle.dn_tables.specs.Writes.{clears_from, words_after, write_events, writes_from}
use Rattle.dn_tables.specs.declared.placement.Hop.{Hop}
use Rattle.dn_tables.proofs.Values.{after_clears, after_puts, length_writes}
use Rattle.dn_book.specs.declared.grant.Grant.{Grant}
use Rattle.dn_placement.specs.Records.{first_slot, hop_rights, last_slot}
use Rattle.dn_book.specs.Book.{records_of, slots_of, without_id}
use Rattle.dn_book.specs.Sets.{AreFit, is_at}
use Rattle.dn_book.proofs.Changes.{is_at_parts}
use Rattle.dn_book.specs.Tables.{packed_node, packed_slot, packed_slots, packed_tables, tables_of}
use Rattle.dn_book.specs.Writes.{Put, clear_events, clear_events_by, clears_of, empty_slots, fence_events, grant_slots, hop_slots, hop_slots_by, is_empty, joined_slots, kind_by, put_events, put_events_by, puts_of, slots_from}
use Rattle.dn_book.proofs.InOrder.{IsHopAt, from_behind, hop_at, hop_unit, hops_length, in_all, units_apart}
use Rattle.dn_book.proofs.Live.{book_held, clears_there, empty_in, puts_held, records_granted, records_revoked}
use Rattle.dn_book.proofs.Ranges.{of_hop}
use Rattle.dn_book.proofs.Sound.{granted_sound, placed_fit, revoked_sound}
use Rattle.dn_book.proofs.Packed.{AreKindsOf, IsKind, all_packable, held_after, held_cleared, held_with, held_without, kind_of, other_slot, packable_held, slot_at, slot_packed, slots_length, tables_hold, this_slot, unit_words, with_record, without_record, words_there}
use Rattle.dn_book.specs.Commands.{GrantLeadsOver, RevokeLeadsOver}
use Rattle.dn_book.specs.Events.{after_event, after_events, held_at}
use Rattle.dn_book.specs.Going.{AreGoing, waits}
use Rattle.dn_book.proofs.Written.{length_events}
use Rattle.dn_book.proofs.Going.{adding, after_append, clearing, going_append}
use Rattle.dn_book.proofs.Nodes.{after_writes}
use Rattle.dn_book.proofs.Rising.{extends_same, falls_to, rises_to}
use Rattle.dn_book.proofs.Words.{IsSlotOf, clear_goes, put_comes}

-- EVENT BY EVENT

-- each event relates the records before it to those after it
abbrev pub Moves : (Held → Held → Type 0) → List NodeDecl → List Meaning → List (List ℕ) → List TableEvent → Type 0
Moves R net kinds words es = (d : ℕ) → d < length es → R (held_at net kinds words es d) (held_at net kinds words es (suc d))

pub moves_none : (R : Held → Held → Type 0) (net : List NodeDecl) (kinds : List Meaning) (words : List (List ℕ)) → Moves R net kinds words []
moves_none R net kinds words d l = absurd (omega arith)

pub moves_append : (R : Held → Held → Type 0) (net : List NodeDecl) (kinds : List Meaning) (words : List (List ℕ)) (es fs : List TableEvent) → Moves R net kinds words es → Moves R net kinds (after_events es words) fs → Moves R net kinds words (es ++ fs)
moves_append R net kinds words [] fs f g = g
moves_append R net kinds words (e ∷ es) fs f g = go (moves_append R net kinds (after_event e words) es fs (λ d l. f (suc d) (omega arith)) g)
  where
    go : Moves R net kinds (after_event e words) (es ++ fs) → Moves R net kinds words (e ∷ (es ++ fs))
    go rest zero l = f 0 (omega arith)
    go rest (suc d) l = rest d (omega arith)

-- ONE SLOT

module _ (net : List NodeDecl) (kinds : List Meaning) (k : AreKindsOf net kinds) where
  -- the slot of a unit in the tables that hold records
  abbrev pub slot_of : (h : Held) → AreHeld net h → (node slot : ℕ) (u : UnitPart) (kind : IsKind net kinds u) → unit_at net node ≡ Some u → slot < u.slots → IsSlotOf net kinds (packed_tables net kinds h) node slot
  slot_of h held node slot u kind e l = record {
    unit = u;
    is_unit = e;
    kind = kind.kind;
    is_kind = kind.at;
    ws = packed_slots kind.kind u (h node) 0 u.slots;
    has = words_there kinds h 0 node net u e ∙ ap (λ m. Some (packed_node kinds (Some u) (h m))) z ∙ ap (λ (x : List ℕ). Some x) (unit_words net kinds h u kind (h node));
    least = kind.law.least;
    room = room slot u.slots kind.kind.words (length (packed_slots kind.kind u (h node) 0 u.slots)) l (slots_length kind.kind kind.law u (h node) (all_packable net kinds h held node u kind e) 0 u.slots);
  }
    where
      z : 0 + node ≡ node
      z = omega arith

      room : (s n w m : ℕ) → s < n → m ≡ n * w → s * w + w ≤ m
      room s n w m l e =
          let a : suc s * w ≤ n * w = mul-le-mul_right w l in
          let b : suc s * w ≡ s * w + w = suc-mul s w in
          omega arith

  -- what a put and a clear do
  pub record Does (R : Held → Held → Type 0) (h h' : Held) (es : List TableEvent) : Type 0 where
    pub moves : Moves R net kinds (packed_tables net kinds h) es
    pub leaves : after_events es (packed_tables net kinds h) ≡ packed_tables net kinds h'

  pub put_does : (h : Held) → AreHeld net h → (s : Put) → IsHeld net s.unit s.slot s.holds → h s.unit s.slot ≡ None → Does Extends h (with_record h s) (put_events net kinds s)
  put_does h held s here none = record {
    moves = subst (λ es. Moves Extends net kinds (packed_tables net kinds h) es) (sym is)
        (λ d l. put_comes net kinds k.lawful (packed_tables net kinds h) s.unit s.slot at vs wide zeros d (subst (λ n. d < n) count l));
    leaves = ap (λ es. after_events es (packed_tables net kinds h)) is
        ∙ after_writes (writes_from (s.slot * kind.kind.words) vs) (packed_tables net kinds h) s.unit
        ∙ slot_packed net kinds h (with_record h s) held s.unit s.slot u kind here.unit.1 here.unit.2 vs (ap (packed_slot kind.kind u) (sym (this_slot s (Some s.holds) (h s.unit s.slot)))) wide (λ m q ne. other_slot m q s (Some s.holds) (h m q) ne)
        (words_after (writes_from (s.slot * kind.kind.words) vs)) (after_puts vs at.ws (s.slot * kind.kind.words) (fit (s.slot * kind.kind.words) (length vs) kind.kind.words (length at.ws) wide at.room));
  }
    where
      fit : (a n w m : ℕ) → n ≡ w → a + w ≤ m → a + n ≤ m
      fit a n w m e l = omega arith

      u : UnitPart
      u = here.unit.0

      kind : IsKind net kinds u
      kind = kind_of net kinds k s.unit u here.unit.1

      at : IsSlotOf net kinds (packed_tables net kinds h) s.unit s.slot
      at = slot_of h held s.unit s.slot u kind here.unit.1 here.unit.2

      vs : List ℕ
      vs = kind.kind.pack (unit_shape u) s.holds

      wide : length vs ≡ kind.kind.words
      wide = kind.law.width (unit_shape u) s.holds (packable_held net kinds s.unit s.slot u kind s.holds here.unit.1 here)

      is : put_events net kinds s ≡ write_events s.unit (writes_from (s.slot * kind.kind.words) vs)
      is = ap (λ o. put_events_by o (kind_by kinds o) s) here.unit.1 ∙ ap (λ c. put_events_by (Some u) c s) kind.at

      count : length (write_events s.unit (writes_from (s.slot * kind.kind.words) vs)) ≡ length vs
      count = length_events s.unit (writes_from (s.slot * kind.kind.words) vs) ∙ length_writes (s.slot * kind.kind.words) vs

      zeros : slot_words kind.kind.words at.ws s.slot ≡ replicate kind.kind.words 0
      zeros =
          let y : 0 + s.slot ≡ s.slot = omega arith in
          slot_at kind.kind kind.law u (h s.unit) (all_packable net kinds h held s.unit u kind here.unit.1) 0 u.slots s.slot here.unit.2
          ∙ ap (λ n. packed_slot kind.kind u (h s.unit n)) y
          ∙ ap (packed_slot kind.kind u) none

  pub clear_does : (h : Held) → AreHeld net h → (s : Put) (u : UnitPart) → unit_at net s.unit ≡ Some u → s.slot < u.slots → Does (λ a b. Extends b a) h (without_record h s) (clear_events net kinds s)
  clear_does h held s u e l = record {
    moves = subst (λ es. Moves (λ a b. Extends b a) net kinds (packed_tables net kinds h) es) (sym is)
        (λ d n. clear_goes net kinds k.lawful (packed_tables net kinds h) s.unit s.slot at d (subst (λ m. d < m) count n));
    leaves = ap (λ es. after_events es (packed_tables net kinds h)) is
        ∙ after_writes (clears_from (s.slot * kind.kind.words) kind.kind.words) (packed_tables net kinds h) s.unit
        ∙ slot_packed net kinds h (without_record h s) held s.unit s.slot u kind e l (replicate kind.kind.words 0) (ap (packed_slot kind.kind u) (sym (this_slot s None (h s.unit s.slot)))) (length-replicate kind.kind.words 0) (λ m q ne. other_slot m q s None (h m q) ne)
        (words_after (clears_from (s.slot * kind.kind.words) kind.kind.words)) (after_clears kind.kind.words (s.slot * kind.kind.words) at.ws kind.law.least at.room);
  }
    where
      kind : IsKind net kinds u
      kind = kind_of net kinds k s.unit u e

      at : IsSlotOf net kinds (packed_tables net kinds h) s.unit s.slot
      at = slot_of h held s.unit s.slot u kind e l

      is : clear_events net kinds s ≡ write_events s.unit (clears_from (s.slot * kind.kind.words) kind.kind.words)
      is = ap (λ o. clear_events_by (kind_by kinds o) s) e ∙ ap (λ c. clear_events_by c s) kind.at

      count : length (write_events s.unit (clears_from (s.slot * kind.kind.words) kind.kind.words)) ≡ kind.kind.words
      count = length_events s.unit (clears_from (s.slot * kind.kind.words) kind.kind.words) ∙ whole (length-replicate (kind.kind.words - 1) 0) (length_writes (s.slot * kind.kind.words) (replicate (kind.kind.words - 1) 0)) kind.law.least
        where
          whole : {m r w : ℕ} → m ≡ w - 1 → r ≡ m → 1 ≤ w → suc r ≡ w
          whole a b c = omega arith

-- ROWS OF PUTS AND CLEARS

-- slots of which no two are one
abbrev pub AreApart : List Put → Type 0
AreApart [] = Unit {0}
AreApart (s ∷ ss) = ((t : Put) → Member t ss → s.unit ≡ t.unit → s.slot ≡ t.slot → ⊥) × AreApart ss

module _ (net : List NodeDecl) (kinds : List Meaning) (k : AreKindsOf net kinds) where
  does_then : (R : Held → Held → Type 0) (a b c : Held) (es fs : List TableEvent) → Does net kinds k R a b es → Does net kinds k R b c fs → Does net kinds k R a c (es ++ fs)
  does_then R a b c es fs x y = record {
    moves = moves_append R net kinds (packed_tables net kinds a) es fs x.moves (subst (λ ws. Moves R net kinds ws fs) (sym x.leaves) y.moves);
    leaves = after_append es fs (packed_tables net kinds a) ∙ ap (after_events fs) x.leaves ∙ y.leaves;
  }

  puts_do : (ss : List Put) (h : Held) → AreHeld net h → ((s : Put) → Member s ss → IsHeld net s.unit s.slot s.holds) → ((s : Put) → Member s ss → h s.unit s.slot ≡ None) → AreApart ss → Does net kinds k Extends h (held_after h ss) (flat_map (put_events net kinds) ss)
  puts_do [] h held can none apart = record { moves = moves_none Extends net kinds (packed_tables net kinds h); leaves = refl }
  puts_do (s ∷ ss) h held can none apart =
      does_then Extends h (with_record h s) (held_after (with_record h s) ss) (put_events net kinds s) (flat_map (put_events net kinds) ss)
      (put_does net kinds k h held s (can s (inl refl)) (none s (inl refl)))
      (puts_do ss (with_record h s) (held_with net h s held (can s (inl refl))) (λ t m. can t (inr m))
      (λ t m. other_none t (apart.0 t m) (none t (inr m))) apart.1)
    where
      other_none : (t : Put) → (s.unit ≡ t.unit → s.slot ≡ t.slot → ⊥) → h t.unit t.slot ≡ None → with_record h s t.unit t.slot ≡ None
      other_none t ne e = by (is_at t.unit t.slot s) refl
        where
          by : (b : Bool) → is_at t.unit t.slot s ≡ b → (if b then Some s.holds else h t.unit t.slot) ≡ None
          by true f = let p = is_at_parts t.unit t.slot s f in absurd (ne (sym p.0) (sym p.1))
          by false f = e

  clears_do : (ss : List Put) (h : Held) → AreHeld net h → ((s : Put) → Member s ss → (u : UnitPart) × (unit_at net s.unit ≡ Some u) × (s.slot < u.slots)) → Does net kinds k (λ a b. Extends b a) h (held_cleared h ss) (flat_map (clear_events net kinds) ss)
  clears_do [] h held can = record { moves = moves_none (λ a b. Extends b a) net kinds (packed_tables net kinds h); leaves = refl }
  clears_do (s ∷ ss) h held can =
      let u = can s (inl refl) in
      does_then (λ a b. Extends b a) h (without_record h s) (held_cleared (without_record h s) ss) (clear_events net kinds s) (flat_map (clear_events net kinds) ss)
      (clear_does net kinds k h held s u.0 u.1 u.2)
      (clears_do ss (without_record h s) (held_without net h s held) (λ t m. can t (inr m)))

  -- the records at the first moment and at the last
  first_held : (h : Held) (es : List TableEvent) → AreHeld net h → ◌≡◌ {A = Held} (held_at net kinds (packed_tables net kinds h) es 0) h
  first_held h es held = λ i n q. tables_hold net kinds k h held n q i

  last_held : (R : Held → Held → Type 0) (h h' : Held) (es : List TableEvent) → AreHeld net h' → Does net kinds k R h h' es → ◌≡◌ {A = Held} (held_at net kinds (packed_tables net kinds h) es (length es)) h'
  last_held R h h' es held d =
      ap (λ l. record_held net kinds (after_events l (packed_tables net kinds h))) (take-length es)
      ∙ ap (λ ws. record_held net kinds ws) d.leaves
      ∙ (λ i n q. tables_hold net kinds k h' held n q i)

  pub rises_between : (h h' : Held) (es : List TableEvent) → AreHeld net h → AreHeld net h' → Does net kinds k Extends h h' es → (d : ℕ) → d ≤ length es → Extends h (held_at net kinds (packed_tables net kinds h) es d) × Extends (held_at net kinds (packed_tables net kinds h) es d) h'
  rises_between h h' es a b does d l = (
    subst (λ (x : Held). Extends x (held_at net kinds (packed_tables net kinds h) es d)) (first_held h es a) (rises_to (held_at net kinds (packed_tables net kinds h) es) 0 d (omega arith) (λ n p q. does.moves n (omega arith))),
    subst (λ (x : Held). Extends (held_at net kinds (packed_tables net kinds h) es d) x) (last_held Extends h h' es b does) (rises_to (held_at net kinds (packed_tables net kinds h) es) d (length es) l (λ n p q. does.moves n q)),
  )

  pub falls_between : (h h' : Held) (es : List TableEvent) → AreHeld net h → AreHeld net h' → Does net kinds k (λ a b. Extends b a) h h' es → (d : ℕ) → d ≤ length es → Extends h' (held_at net kinds (packed_tables net kinds h) es d) × Extends (held_at net kinds (packed_tables net kinds h) es d) h
  falls_between h h' es a b does d l = (
    subst (λ (x : Held). Extends x (held_at net kinds (packed_tables net kinds h) es d)) (last_held (λ a b. Extends b a) h h' es b does) (falls_to (held_at net kinds (packed_tables net kinds h) es) d (length es) l (λ n p q. does.moves n q)),
    subst (λ (x : Held). Extends (held_at net kinds (packed_tables net kinds h) es d) x) (first_held h es a) (falls_to (held_at net kinds (packed_tables net kinds h) es) 0 d (omega arith) (λ n p q. does.moves n (omega arith))),
  )

-- THE SLOTS OF A GRANT ARE APART

apart_append : (xs ys : List Put) → AreApart xs → AreApart ys → ((s t : Put) → Member s xs → Member t ys → s.unit ≡ t.unit → s.slot ≡ t.slot → ⊥) → AreApart (xs ++ ys)
apart_append [] ys a b f = b
apart_append (x ∷ xs) ys a b f = ((λ t m. elim (member_cases xs ys t m) [ inl n ↦ a.0 t n | inr n ↦ f x t (inl refl) n ]), apart_append xs ys a.1 b (λ s t m n. f s t (inr m) n))

apart_from : (u : UnitPart) (r : Rights) (hop : Hop) (from count : ℕ) → AreApart (slots_from u r hop from count)
apart_from u r hop from zero = tt
apart_from u r hop from (suc count) = ((λ t m a b. (let l : suc from ≤ t.slot = (of_hop u r hop (suc from) count t m).low in let e : from ≡ t.slot = b in absurd (omega arith))), apart_from u r hop (suc from) count)

apart_hop : (net : List NodeDecl) (size : ℕ) (r : Rights) (hop : Hop) → AreApart (hop_slots net size r hop)
apart_hop net size r hop = by (unit_at net hop.unit)
  where
    by : (o : Option UnitPart) → AreApart (hop_slots_by o size r hop)
    by None = tt
    by (Some u) = apart_from u r hop (first_slot u hop) (suc (last_slot u size hop) - first_slot u hop)

apart_empty : (h : Held) (ss : List Put) → AreApart ss → AreApart (empty_slots h ss)
apart_empty h [] a = tt
apart_empty h (s ∷ ss) a = by (is_empty (h s.unit s.slot)) (apart_empty h ss a.1)
  where
    by : (b : Bool) → AreApart (empty_slots h ss) → AreApart (if b then s ∷ empty_slots h ss else empty_slots h ss)
    by true rest = ((λ t m. a.0 t (empty_in h ss t m).0), rest)
    by false rest = rest

apart_joined : (ls : List (List Put)) → ((i : ℕ) (l : List Put) → slice_get ls i ≡ Some l → AreApart l) → ((i j : ℕ) (a b : List Put) → slice_get ls i ≡ Some a → slice_get ls j ≡ Some b → i < j → (s t : Put) → Member s a → Member t b → s.unit ≡ t.unit → s.slot ≡ t.slot → ⊥) → AreApart (joined_slots ls)
apart_joined [] each pairs = tt
apart_joined (l ∷ ls) each pairs =
    apart_append l (joined_slots ls) (each 0 l refl) (apart_joined ls (λ i a e. each (suc i) a e) (λ i j a b e f n. pairs (suc i) (suc j) a b e f (omega arith)))
    (λ s t m n. (let i = in_all ls t n in pairs 0 (suc i.place) l i.list refl i.at (omega arith) s t m i.is_in))

apart_grant : (net : List NodeDecl) (g : Grant) → AreFit net g.request.size g.placement.hops → AreApart (joined_slots (reverse (grant_slots net g)))
apart_grant net g fit = apart_joined (reverse (grant_slots net g)) each pairs
  where
    size : ℕ
    size = length g.placement.hops

    at : (i : ℕ) (l : List Put) → slice_get (reverse (grant_slots net g)) i ≡ Some l → IsHopAt net g (size - 1 - i) l
    at i l e = hop_at net g (size - 1 - i) l (from_behind net g i l e)

    each : (i : ℕ) (l : List Put) → slice_get (reverse (grant_slots net g)) i ≡ Some l → AreApart l
    each i l e = let a = at i l e in subst AreApart (sym a.slots) (apart_hop net g.request.size (hop_rights g.request.rights g.placement.own (size - 1 - i)) a.hop)

    within : (i : ℕ) (l : List Put) → slice_get (reverse (grant_slots net g)) i ≡ Some l → i < size
    within i l e =
        let a : i < length (reverse (grant_slots net g)) = slice_get_within (reverse (grant_slots net g)) i l e in
        let b : length (reverse (grant_slots net g)) ≡ length (grant_slots net g) = length-reverse (grant_slots net g) in
        let c : length (grant_slots net g) ≡ size = hops_length net g.request.size g.request.rights g.placement.own 0 g.placement.hops in
        subst (λ n. i < n) (b ∙ c) a

    pairs : (i j : ℕ) (a b : List Put) → slice_get (reverse (grant_slots net g)) i ≡ Some a → slice_get (reverse (grant_slots net g)) j ≡ Some b → i < j → (s t : Put) → Member s a → Member t b → s.unit ≡ t.unit → s.slot ≡ t.slot → ⊥
    pairs i j a b e f l s t m n u q =
        let x = at i a e in
        let y = at j b f in
        let us : s.unit ≡ x.hop.unit = hop_unit net g.request.size (hop_rights g.request.rights g.placement.own (size - 1 - i)) x.hop s (subst (Member s) x.slots m) in
        let ut : t.unit ≡ y.hop.unit = hop_unit net g.request.size (hop_rights g.request.rights g.placement.own (size - 1 - j)) y.hop t (subst (Member t) y.slots n) in
        units_apart g.placement.hops (size - 1 - i) (size - 1 - j) x.hop y.hop fit.apart x.at y.at (λ p. other size i j l (within j b f) p) (sym us ∙ u ∙ ut)
      where
        other : (n i j : ℕ) → i < j → j < n → n - 1 - i ≡ n - 1 - j → ⊥
        other n i j l m e = omega arith

-- A GRANT COMES, A GRANT GOES

fence_leaves : (cleared : Bool) (words : List (List ℕ)) → after_events (fence_events cleared) words ≡ words
fence_leaves true words = refl
fence_leaves false words = refl

fence_does : (net : List NodeDecl) (kinds : List Meaning) (k : AreKindsOf net kinds) (h : Held) (cleared : Bool) → Does net kinds k Extends h h (fence_events cleared)
fence_does net kinds k h cleared = record { moves = moves cleared; leaves = fence_leaves cleared (packed_tables net kinds h) }
  where
    moves : (c : Bool) → Moves Extends net kinds (packed_tables net kinds h) (fence_events c)
    moves true zero l = extends_same (record_held net kinds (packed_tables net kinds h))
    moves true (suc d) l = absurd (omega arith)
    moves false d l = absurd (omega arith)

fence_goes : (net : List NodeDecl) (kinds : List Meaning) (words : List (List ℕ)) (cleared : Bool) → AreGoing net kinds words cleared (fence_events cleared) false
fence_goes net kinds words true = (false, waits refl, λ e. e)
fence_goes net kinds words false = λ e. e

pub grant_leads_over : GrantLeadsOver
grant_leads_over net kinds book g cleared legal shaped lawful sound f = record {
  going = going_append net kinds (tables_of net kinds book) cleared false false (fence_events cleared) (flat_map (put_events net kinds) (puts_of net book g))
      (fence_goes net kinds (tables_of net kinds book) cleared)
      (subst (λ ws. AreGoing net kinds ws false (flat_map (put_events net kinds) (puts_of net book g)) false) (sym (fence_leaves cleared (tables_of net kinds book)))
      (adding net kinds (tables_of net kinds book) (flat_map (put_events net kinds) (puts_of net book g)) puts.moves));
  leaves = whole.leaves;
  between = rises_between net kinds k (records_of net book) (records_of net (book ++ g ∷ [])) (fence_events cleared ++ flat_map (put_events net kinds) (puts_of net book g)) held (book_held net legal (book ++ g ∷ []) (granted_sound net legal book g sound f)) whole;
}
  where
    k : AreKindsOf net kinds
    k = record { lawful = lawful; shaped = shaped }

    held : AreHeld net (records_of net book)
    held = book_held net legal book sound

    fit : AreFit net g.request.size g.placement.hops
    fit = placed_fit net legal (slots_of net book) g.request g.placement f.placed

    same : ◌≡◌ {A = Held} (held_after (records_of net book) (puts_of net book g)) (records_of net (book ++ g ∷ []))
    same = λ i n q. records_granted net legal book g sound f n q i

    puts : Does net kinds k Extends (records_of net book) (records_of net (book ++ g ∷ [])) (flat_map (put_events net kinds) (puts_of net book g))
    puts = subst (λ (h : Held). Does net kinds k Extends (records_of net book) h (flat_map (put_events net kinds) (puts_of net book g))) same
        (puts_do net kinds k (puts_of net book g) (records_of net book) held (puts_held net legal book g sound f)
        (λ s m. (empty_in (records_of net book) (joined_slots (reverse (grant_slots net g))) s m).1)
        (apart_empty (records_of net book) (joined_slots (reverse (grant_slots net g))) (apart_grant net g fit)))

    whole : Does net kinds k Extends (records_of net book) (records_of net (book ++ g ∷ [])) (fence_events cleared ++ flat_map (put_events net kinds) (puts_of net book g))
    whole = does_then net kinds k Extends (records_of net book) (records_of net book) (records_of net (book ++ g ∷ [])) (fence_events cleared) (flat_map (put_events net kinds) (puts_of net book g)) (fence_does net kinds k (records_of net book) cleared) puts

pub revoke_leads_over : RevokeLeadsOver
revoke_leads_over net kinds book g cleared legal shaped lawful sound live = record {
  going = clearing net kinds (tables_of net kinds book) cleared (flat_map (clear_events net kinds) (clears_of net book g)) clears.moves;
  leaves = clears.leaves;
  between = falls_between net kinds k (records_of net book) (records_of net (without_id g.id book)) (flat_map (clear_events net kinds) (clears_of net book g)) held (book_held net legal (without_id g.id book) (revoked_sound net g.id book sound)) clears;
}
  where
    k : AreKindsOf net kinds
    k = record { lawful = lawful; shaped = shaped }

    held : AreHeld net (records_of net book)
    held = book_held net legal book sound

    same : ◌≡◌ {A = Held} (held_cleared (records_of net book) (clears_of net book g)) (records_of net (without_id g.id book))
    same = λ i n q. records_revoked net legal book g sound live n q i

    clears : Does net kinds k (λ a b. Extends b a) (records_of net book) (records_of net (without_id g.id book)) (flat_map (clear_events net kinds) (clears_of net book g))
    clears = subst (λ (h : Held). Does net kinds k (λ a b. Extends b a) (records_of net book) h (flat_map (clear_events net kinds) (clears_of net book g))) same
        (clears_do net kinds k (clears_of net book g) (records_of net book) held (clears_there net legal book g sound live))
