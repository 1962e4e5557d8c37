-- Words of a slot that are written one after the other: the records of all other slots stay, and half a record is none.
use Rattle.std.proofs.Common.{◌≡◌, ◌∙◌, ap, sym, subst, refl, ℕ, zero, suc, ◌+◌, ◌-◌, ◌*◌, ◌<◌, ◌≤◌, ◌⊎◌, inl, inr, if◌then◌else◌, nat_lt, List, [], ◌∷◌, length, take, drop, replicate, Some, None, slice_get, slice_set, arith, suc-mul}
use Rattle.std.specs.List.{All}
use Rattle.std.proofs.Math.Nat.{mul-le-mul_right}
use Rattle.std.proofs.lemmas.List.{drop-set-lt, drop-set-add, take-set-le, length-replicate}
use Rattle.std.proofs.lemmas.Option.{same_Some}
use Rattle.dn_net.specs.declared.node.NodeDecl.{NodeDecl}
use Rattle.dn_net.specs.declared.node.Unit.{Unit as UnitPart}
use Rattle.dn_net.specs.Decode.{unit_at}
use Rattle.dn_kind.specs.Kind.{IsLawful, Meaning, gate_word}
use Rattle.dn_kind.specs.Tables.{Extends, Held, record_held, record_of_unit, record_spelled, record_within, slot_words}
use Rattle.dn_tables.specs.Writes.{WordWrite, clears_from, words_after, write_events, writes_from}
use Rattle.dn_tables.proofs.Gates.{gate_while_cleared, gate_while_put, none_by_gate}
use Rattle.dn_tables.proofs.Values.{length_after}
use Rattle.dn_book.specs.Events.{after_events, held_at}
use Rattle.dn_book.proofs.Written.{take_events}
use Rattle.dn_book.proofs.Nodes.{after_writes, node_other, node_there}

-- OTHER SLOTS

-- a write elsewhere leaves the words of a slot
other_write : (width q i v : ℕ) (ws : List ℕ) → (i < q * width) ⊎ (q * width + width ≤ i) → slot_words width (slice_set ws i v) q ≡ slot_words width ws q
other_write width q i v ws (inl l) = ap (take width) (drop-set-lt (q * width) ws i v l)
other_write width q i v ws (inr l) =
    let e : i ≡ q * width + (i - q * width) = omega arith in
    ap (λ n. take width (drop (q * width) (slice_set ws n v))) e
    ∙ ap (take width) (drop-set-add (q * width) ws (i - q * width) v)
    ∙ take-set-le width (drop (q * width) ws) (i - q * width) v (omega arith)

-- each write is of a word of a slot
abbrev pub AreOf : ℕ → ℕ → List WordWrite → Type 0
AreOf width slot [] = Unit {0}
AreOf width slot (w ∷ writes) = ((slot * width ≤ w.word) × (w.word < slot * width + width)) × AreOf width slot writes

take_of : (width slot k : ℕ) (writes : List WordWrite) → AreOf width slot writes → AreOf width slot (take k writes)
take_of width slot zero writes a = tt
take_of width slot (suc k) [] a = tt
take_of width slot (suc k) (w ∷ writes) a = (a.0, take_of width slot k writes a.1)

writes_of : (width slot first : ℕ) (vs : List ℕ) → slot * width ≤ first → first + length vs ≤ slot * width + width → AreOf width slot (writes_from first vs)
writes_of width slot first [] l g = tt
writes_of width slot first (v ∷ vs) l g =
    let h : length (v ∷ vs) ≡ suc (length vs) = refl in
    ((l, (omega arith)), writes_of width slot (suc first) vs (omega arith) (omega arith))

clears_of : (width slot : ℕ) → 1 ≤ width → AreOf width slot (clears_from (slot * width) width)
clears_of width slot l =
    ((low (slot * width) (width - 1), high (slot * width) width l), writes_of width slot (slot * width) (replicate (width - 1) 0) (omega arith) (rest (slot * width) width (length (replicate (width - 1) 0)) l (length-replicate (width - 1) 0)))
  where
    low : (a b : ℕ) → a ≤ a + b
    low a b = omega arith

    high : (a w : ℕ) → 1 ≤ w → a + (w - 1) < a + w
    high a w l = omega arith

    rest : (a w m : ℕ) → 1 ≤ w → m ≡ w - 1 → a + m ≤ a + w
    rest a w m l e = omega arith

-- a slot is below another, or above it
apart : (width q s i : ℕ) → (q ≡ s → ⊥) → s * width ≤ i → i < s * width + width → (i < q * width) ⊎ (q * width + width ≤ i)
apart width q s i ne l g = by (cases q s)
  where
    cases : (q s : ℕ) → (q < s) ⊎ ((s < q) ⊎ (q ≡ s))
    cases q s = grind arith

    below : (w q s : ℕ) → q < s → q * w + w ≤ s * w
    below w q s l =
        let m : suc q * w ≤ s * w = mul-le-mul_right w l in
        let n : suc q * w ≡ q * w + w = suc-mul q w in
        omega arith

    by : (q < s) ⊎ ((s < q) ⊎ (q ≡ s)) → (i < q * width) ⊎ (q * width + width ≤ i)
    by (inl h) = let b : q * width + width ≤ s * width = below width q s h in inr (omega arith)
    by (inr (inl h)) = let b : s * width + width ≤ q * width = below width s q h in inl (omega arith)
    by (inr (inr e)) = absurd (ne e)

other_writes : (width slot q : ℕ) → (q ≡ slot → ⊥) → (writes : List WordWrite) → AreOf width slot writes → (ws : List ℕ) → slot_words width (words_after writes ws) q ≡ slot_words width ws q
other_writes width slot q ne [] a ws = refl
other_writes width slot q ne (w ∷ writes) a ws =
    other_writes width slot q ne writes a.1 (slice_set ws w.word w.value)
    ∙ other_write width q w.word w.value ws (apart width q slot w.word ne a.0.0 a.0.1)

-- RECORDS

-- a record is that of the words of its slot
same_record : (kinds : List Meaning) (u : UnitPart) (kind : Meaning) (a b : List ℕ) (q : ℕ) → slice_get kinds u.kind ≡ Some kind → slot_words kind.words a q ≡ slot_words kind.words b q → record_of_unit kinds (Some u) (Some a) q ≡ record_of_unit kinds (Some u) (Some b) q
same_record kinds u kind a b q at e =
    ap (λ k. record_spelled k u (Some a) q) at
    ∙ ap (λ ws. if nat_lt q u.slots then record_within u (kind.unpack ws) else None) e
    ∙ ap (λ k. record_spelled k u (Some b) q) (sym at)

-- a slot of a unit, with the words that its node has in tables
pub record IsSlotOf (net : List NodeDecl) (kinds : List Meaning) (words : List (List ℕ)) (node slot : ℕ) : Type 0 where
  pub unit : UnitPart
  pub is_unit : unit_at net node ≡ Some unit
  pub kind : Meaning
  pub is_kind : slice_get kinds unit.kind ≡ Some kind
  pub ws : List ℕ
  pub has : slice_get words node ≡ Some ws
  pub least : 1 ≤ kind.words
  pub room : slot * kind.words + kind.words ≤ length ws

module _ (net : List NodeDecl) (kinds : List Meaning) (lawful : All IsLawful kinds) (words : List (List ℕ)) (node slot : ℕ) (s : IsSlotOf net kinds words node slot) where
  -- the records after writes to the slot
  abbrev after : List WordWrite → Held
  after writes = record_held net kinds (after_events (write_events node writes) words)

  after_here : (writes : List WordWrite) (q : ℕ) → after writes node q ≡ record_of_unit kinds (Some s.unit) (Some (words_after writes s.ws)) q
  after_here writes q =
      ap (λ l. record_of_unit kinds (unit_at net node) (slice_get l node) q) (after_writes writes words node)
      ∙ ap (λ o. record_of_unit kinds (unit_at net node) o q) (node_there words node s.ws (words_after writes) s.has)
      ∙ ap (λ o. record_of_unit kinds o (Some (words_after writes s.ws)) q) s.is_unit

  -- in all other slots they are as they were
  pub after_other : (writes : List WordWrite) → AreOf s.kind.words slot writes → (n q : ℕ) → (n ≡ node → q ≡ slot → ⊥) → after writes n q ≡ after [] n q
  after_other writes a n q ne = by (cases n node)
    where
      cases : (n m : ℕ) → (n ≡ m) ⊎ (n ≡ m → ⊥)
      cases n m = grind arith

      by : (n ≡ node) ⊎ (n ≡ node → ⊥) → after writes n q ≡ after [] n q
      by (inl e) = subst (λ i. after writes i q ≡ after [] i q) (sym e)
          (after_here writes q
          ∙ same_record kinds s.unit s.kind (words_after writes s.ws) s.ws q s.is_kind (other_writes s.kind.words slot q (λ f. ne e f) writes a s.ws)
          ∙ sym (after_here [] q))
      by (inr f) =
          ap (λ l. record_of_unit kinds (unit_at net n) (slice_get l n) q) (after_writes writes words node)
          ∙ ap (λ o. record_of_unit kinds (unit_at net n) o q) (node_other words node n (words_after writes) f)

  -- and where the gate word is 0 it holds none
  pub after_shut : (writes : List WordWrite) → gate_word (slot_words s.kind.words (words_after writes s.ws) slot) ≡ 0 → after writes node slot ≡ None
  after_shut writes gate =
      let many : length (words_after writes s.ws) ≡ length s.ws = length_after writes s.ws in
      let room : slot * s.kind.words + s.kind.words ≤ length (words_after writes s.ws) = (let l = s.room in omega arith) in
      after_here writes slot
      ∙ none_by_gate kinds s.unit s.kind.words slot (words_after writes s.ws) lawful (λ k at. ap (λ (m : Meaning). m.words) (same_Some k s.kind (sym at ∙ s.is_kind))) room gate

  -- records come, where the slot holds none before
  comes : (xs ys : List WordWrite) → AreOf s.kind.words slot xs → AreOf s.kind.words slot ys → gate_word (slot_words s.kind.words (words_after xs s.ws) slot) ≡ 0 → Extends (after xs) (after ys)
  comes xs ys a b gate n q r e = by (cases n node) (cases q slot)
    where
      cases : (n m : ℕ) → (n ≡ m) ⊎ (n ≡ m → ⊥)
      cases n m = grind arith

      rest : (n ≡ node → q ≡ slot → ⊥) → after ys n q ≡ Some r
      rest ne = after_other ys b n q ne ∙ sym (after_other xs a n q ne) ∙ e

      by : (n ≡ node) ⊎ (n ≡ node → ⊥) → (q ≡ slot) ⊎ (q ≡ slot → ⊥) → after ys n q ≡ Some r
      by (inr f) o = rest (λ g h. f g)
      by (inl f) (inr g) = rest (λ x y. g y)
      by (inl f) (inl g) =
          let here : after xs node slot ≡ Some r = subst (λ i. after xs node i ≡ Some r) g (subst (λ i. after xs i q ≡ Some r) f e) in
          let c : None ≡ Some r = sym (after_shut xs gate) ∙ here in
          cc

  width_suc : (n : ℕ) → 1 ≤ n → (m : ℕ) × (n ≡ suc m)
  width_suc zero l = absurd (omega arith)
  width_suc (suc n) l = (n, refl)

  pub put_comes : (vs : List ℕ) → length vs ≡ s.kind.words → slot_words s.kind.words s.ws slot ≡ replicate s.kind.words 0 → (k : ℕ) → k < length vs → Extends (held_at net kinds words (write_events node (writes_from (slot * s.kind.words) vs)) k) (held_at net kinds words (write_events node (writes_from (slot * s.kind.words) vs)) (suc k))
  put_comes vs many zeros k l =
      subst (λ (h : Held). Extends h (held_at net kinds words (write_events node all) (suc k))) (sym (taken k))
      (subst (λ (h : Held). Extends (after (take k all)) h) (sym (taken (suc k)))
      (comes (take k all) (take (suc k) all) (take_of s.kind.words slot k all of_slot) (take_of s.kind.words slot (suc k) all of_slot) gate))
    where
      all : List WordWrite
      all = writes_from (slot * s.kind.words) vs

      taken : (k : ℕ) → ◌≡◌ {A = Held} (held_at net kinds words (write_events node all) k) (after (take k all))
      taken k = ap (λ l. record_held net kinds (after_events l words)) (sym (take_events node k all))

      of_slot : AreOf s.kind.words slot all
      of_slot = writes_of s.kind.words slot (slot * s.kind.words) vs (omega arith) (omega arith)

      gate : gate_word (slot_words s.kind.words (words_after (take k all) s.ws) slot) ≡ 0
      gate = by s.kind.words (width_suc s.kind.words s.least) s.room many zeros (omega arith)
        where
          by : (w : ℕ) → ((m : ℕ) × (w ≡ suc m)) → slot * w + w ≤ length s.ws → length vs ≡ w → slot_words w s.ws slot ≡ replicate w 0 → k < w → gate_word (slot_words w (words_after (take k (writes_from (slot * w) vs)) s.ws) slot) ≡ 0
          by zero m room n z g = absurd (omega arith)
          by (suc w) m room n z g = gate_while_put w slot k vs s.ws room n g z

  pub clear_goes : (k : ℕ) → k < s.kind.words → Extends (held_at net kinds words (write_events node (clears_from (slot * s.kind.words) s.kind.words)) (suc k)) (held_at net kinds words (write_events node (clears_from (slot * s.kind.words) s.kind.words)) k)
  clear_goes k l =
      subst (λ (h : Held). Extends h (held_at net kinds words (write_events node all) k)) (sym (taken (suc k)))
      (subst (λ (h : Held). Extends (after (take (suc k) all)) h) (sym (taken k))
      (comes (take (suc k) all) (take k all) (take_of s.kind.words slot (suc k) all of_slot) (take_of s.kind.words slot k all of_slot) gate))
    where
      all : List WordWrite
      all = clears_from (slot * s.kind.words) s.kind.words

      taken : (k : ℕ) → ◌≡◌ {A = Held} (held_at net kinds words (write_events node all) k) (after (take k all))
      taken k = ap (λ l. record_held net kinds (after_events l words)) (sym (take_events node k all))

      of_slot : AreOf s.kind.words slot all
      of_slot = clears_of s.kind.words slot s.least

      gate : gate_word (slot_words s.kind.words (words_after (take (suc k) all) s.ws) slot) ≡ 0
      gate = by s.kind.words s.least s.room
        where
          by : (w : ℕ) → 1 ≤ w → slot * w + w ≤ length s.ws → gate_word (slot_words w (words_after (take (suc k) (clears_from (slot * w) w)) s.ws) slot) ≡ 0
          by zero m room = absurd (omega arith)
          by (suc w) m room = gate_while_cleared w slot k s.ws room
