-- A set of tables that is filled with the records of an image, slot by slot.
use Rattle.std.proofs.Common.{◌≡◌, ℕ, zero, suc, ◌+◌, ◌*◌, ◌<◌, ◌≤◌, ◌⊎◌, inl, inr, Bool, true, false, if◌then◌else◌, ◌&&◌, ◌||◌, ◌==◌, nat_lt, List, [], ◌∷◌, length, slice_get, Option, Some, None, refl, sym, ap, ◌∙◌, subst, arith, eqb-true, ltb-true, lt-ltb}
use Rattle.std.specs.List.{All}
use Rattle.std.proofs.lemmas.Bool.{and_from, and_parts, eq-eqb, or_cases, or_left, or_right}
use Rattle.std.proofs.lemmas.Option.{same_Some}
use Rattle.dn_base.specs.Device.{UnitSize}
use Rattle.dn_base.specs.declared.device.UnitWords.{UnitWords}
use Rattle.dn_net.specs.declared.node.NodeDecl.{NodeDecl}
use Rattle.dn_net.specs.declared.node.Unit.{Unit as UnitPart}
use Rattle.dn_net.specs.Decode.{unit_at}
use Rattle.dn_net.specs.Legal.{IsLegalNet}
use Rattle.dn_kind.specs.declared.unit_kind.Record.{Record}
use Rattle.dn_kind.specs.Kind.{Meaning, IsLawful, IsPackable}
use Rattle.dn_kind.specs.Tables.{AreHeld, Held, IsHeld, record_allowing, record_held, record_of_unit}
use Rattle.dn_kind.specs.Cleared.{is_open_in, words_allowing}
use Rattle.dn_kind.specs.Units.{unit_shape}
use Rattle.dn_kind.specs.declared.rights.Access.TheVariants.{Read, Write}
use Rattle.dn_kind.proofs.Allowed.{records_allowing}
use Rattle.dn_kind.proofs.Held.{held_records_fit}
use Rattle.dn_tables.specs.declared.table.NodeTable.{NodeTable}
use Rattle.dn_tables.specs.Set.{FitsNet, IsEmpty, IsOnDevice, IsPackableIn, fresh_set, packed_by, packed_for, packed_in, put_over, record_kept, with_slot, with_table, with_words, words_of}
use Rattle.dn_tables.proofs.Kept.{table_of_unit}
use Rattle.dn_tables.proofs.Units.{unit_fits}
use Rattle.dn_image.specs.Image.{ImageWords, image_tables}
use Rattle.dn_image.specs.Reading.{image_words}
use Rattle.dn_image.proofs.Sized.{image_sized, kept_sized}
use Rattle.dn_book.specs.Book.{records_of}
use Rattle.dn_book.specs.Sets.{is_at}
use Rattle.dn_book.specs.Writes.{Put}
use Rattle.dn_book.proofs.Begun.{begun_kept}
use Rattle.dn_book.proofs.Changes.{is_at_parts, is_at_self}
use Rattle.dn_book.specs.Tables.{packed_slot}
use Rattle.dn_book.proofs.Facts.{fits_net_kept}
use Rattle.dn_book.proofs.Frames.{fit_with_slot}
use Rattle.dn_book.proofs.Nodes.{table_words, with_node}
use Rattle.dn_book.proofs.Packed.{AreKindsOf, Holds, IsKind, empty_there, held_with, kind_of, other_slot, packable_held, set_holds, slot_packed, this_slot, width_is, with_record}
use Rattle.dn_audit.specs.Records.{counted, image_records}
use Rattle.dn_audit.specs.Taking.{IsFilledTo, front_records}

-- THE RECORDS BEFORE A SLOT

-- before the slot of the node
abbrev pub IsBefore : ℕ → ℕ → ℕ → ℕ → Type 0
IsBefore node slot n q = (n < node) ⊎ ((n ≡ node) × (q < slot))

-- or not
abbrev pub IsFrom : ℕ → ℕ → ℕ → ℕ → Type 0
IsFrom node slot n q = (node < n) ⊎ ((n ≡ node) × (slot ≤ q))

place : (node slot n q : ℕ) → IsBefore node slot n q ⊎ IsFrom node slot n q
place node slot n q = go (order n node) (halves q slot)
  where
    order : (a b : ℕ) → (a < b) ⊎ ((b < a) ⊎ (a ≡ b))
    order a b = grind arith

    halves : (a b : ℕ) → (a < b) ⊎ (b ≤ a)
    halves a b = grind arith

    go : (n < node) ⊎ ((node < n) ⊎ (n ≡ node)) → (q < slot) ⊎ (slot ≤ q) → IsBefore node slot n q ⊎ IsFrom node slot n q
    go (inl l) h = inl (inl l)
    go (inr (inl l)) h = inr (inl l)
    go (inr (inr e)) (inl l) = inl (inr (e, l))
    go (inr (inr e)) (inr l) = inr (inr (e, l))

pub front_in : (h : Held) (node slot n q : ℕ) → IsBefore node slot n q → front_records h node slot n q ≡ h n q
front_in h node slot n q b = ap (λ t. if t then h n q else None) (test b)
  where
    test : IsBefore node slot n q → nat_lt n node || ((n == node) && nat_lt q slot) ≡ true
    test (inl l) = or_left (nat_lt n node) ((n == node) && nat_lt q slot) (lt-ltb n node l)
    test (inr (e, l)) = or_right (nat_lt n node) ((n == node) && nat_lt q slot) (and_from (n == node) (nat_lt q slot) (eq-eqb n node e) (lt-ltb q slot l))

pub front_out : (h : Held) (node slot n q : ℕ) → IsFrom node slot n q → front_records h node slot n q ≡ None
front_out h node slot n q f = by (nat_lt n node || ((n == node) && nat_lt q slot)) refl
  where
    never : (nat_lt n node ≡ true) ⊎ (((n == node) && nat_lt q slot) ≡ true) → IsFrom node slot n q → ⊥
    never (inl t) (inl l) = let k = ltb-true n node t in omega (arith, k, l)
    never (inl t) (inr (e, l)) = let k = ltb-true n node t in omega (arith, k, e)
    never (inr t) (inl l) = let k = eqb-true n node (and_parts (n == node) (nat_lt q slot) t).0 in omega (arith, k, l)
    never (inr t) (inr (e, l)) = let k = ltb-true q slot (and_parts (n == node) (nat_lt q slot) t).1 in omega (arith, k, l)

    by : (b : Bool) → nat_lt n node || ((n == node) && nat_lt q slot) ≡ b → (if b then h n q else None) ≡ None
    by true t = absurd (never (or_cases (nat_lt n node) ((n == node) && nat_lt q slot) t) f)
    by false t = refl

-- the slot itself holds none
pub front_here : (h : Held) (node slot : ℕ) → front_records h node slot node slot ≡ None
front_here h node slot = front_out h node slot node slot (inr (refl, omega arith))

-- at first there is none
pub front_none : (h : Held) (n q : ℕ) → front_records h 0 0 n q ≡ None
front_none h n q = by (place 0 0 n q)
  where
    by : IsBefore 0 0 n q ⊎ IsFrom 0 0 n q → front_records h 0 0 n q ≡ None
    by (inl (inl l)) = absurd (omega (arith, l))
    by (inl (inr (e, l))) = absurd (omega (arith, l))
    by (inr f) = front_out h 0 0 n q f

-- a slot that holds none adds none
pub front_pass : (h : Held) (node slot : ℕ) → h node slot ≡ None → (n q : ℕ) → front_records h node slot n q ≡ front_records h node (slot + 1) n q
front_pass h node slot none n q = by (place node slot n q)
  where
    here : (n ≡ node) → (q ≡ slot) → h n q ≡ None
    here e f = ap (λ m. h m q) e ∙ ap (h node) f ∙ none

    cases : (a b : ℕ) → b ≤ a → (a ≡ b) ⊎ (b + 1 ≤ a)
    cases a b l = grind arith

    later : (n ≡ node) → (q ≡ slot) ⊎ (slot + 1 ≤ q) → None ≡ front_records h node (slot + 1) n q
    later e (inl f) = sym (front_in h node (slot + 1) n q (inr (e, omega (arith, f))) ∙ here e f)
    later e (inr l) = sym (front_out h node (slot + 1) n q (inr (e, l)))

    by : IsBefore node slot n q ⊎ IsFrom node slot n q → front_records h node slot n q ≡ front_records h node (slot + 1) n q
    by (inl (inl l)) = front_in h node slot n q (inl l) ∙ sym (front_in h node (slot + 1) n q (inl l))
    by (inl (inr (e, l))) = front_in h node slot n q (inr (e, l)) ∙ sym (front_in h node (slot + 1) n q (inr (e, omega (arith, l))))
    by (inr (inl l)) = front_out h node slot n q (inl l) ∙ sym (front_out h node (slot + 1) n q (inl l))
    by (inr (inr (e, l))) = front_out h node slot n q (inr (e, l)) ∙ later e (cases q slot l)

-- a slot that holds one adds it
pub front_add : (h : Held) (node slot : ℕ) (r : Record) → h node slot ≡ Some r → (n q : ℕ) → with_record (front_records h node slot) (record { unit = node; slot = slot; holds = r }) n q ≡ front_records h node (slot + 1) n q
front_add h node slot r some n q = by (is_at n q s) refl
  where
    s : Put
    s = record { unit = node; slot = slot; holds = r }

    cases : (a b : ℕ) → b ≤ a → (a ≡ b) ⊎ (b + 1 ≤ a)
    cases a b l = grind arith

    other : is_at n q s ≡ false → IsBefore node slot n q ⊎ IsFrom node slot n q → front_records h node slot n q ≡ front_records h node (slot + 1) n q
    other f (inl (inl l)) = front_in h node slot n q (inl l) ∙ sym (front_in h node (slot + 1) n q (inl l))
    other f (inl (inr (e, l))) = front_in h node slot n q (inr (e, l)) ∙ sym (front_in h node (slot + 1) n q (inr (e, omega (arith, l))))
    other f (inr (inl l)) = front_out h node slot n q (inl l) ∙ sym (front_out h node (slot + 1) n q (inl l))
    other f (inr (inr (e, l))) = front_out h node slot n q (inr (e, l)) ∙ last (cases q slot l)
      where
        last : (q ≡ slot) ⊎ (slot + 1 ≤ q) → None ≡ front_records h node (slot + 1) n q
        last (inl k) = let c : true ≡ false = sym (is_at_self n q s e k) ∙ f in cc
        last (inr k) = sym (front_out h node (slot + 1) n q (inr (e, k)))

    by : (b : Bool) → is_at n q s ≡ b → (if b then Some r else front_records h node slot n q) ≡ front_records h node (slot + 1) n q
    by true t =
        let p = is_at_parts n q s t in
        sym (front_in h node (slot + 1) n q (inr (p.0, let k = p.1 in omega (arith, k))) ∙ ap (λ m. h m q) p.0 ∙ ap (h node) p.1 ∙ some)
    by false t = other t (place node slot n q)

-- a node of which no slot from one on holds any is passed
pub front_next : (h : Held) (node slot : ℕ) → ((q : ℕ) → slot ≤ q → h node q ≡ None) → (n q : ℕ) → front_records h node slot n q ≡ front_records h (node + 1) 0 n q
front_next h node slot none n q = by (place node slot n q)
  where
    by : IsBefore node slot n q ⊎ IsFrom node slot n q → front_records h node slot n q ≡ front_records h (node + 1) 0 n q
    by (inl (inl l)) = front_in h node slot n q (inl l) ∙ sym (front_in h (node + 1) 0 n q (inl (omega (arith, l))))
    by (inl (inr (e, l))) = front_in h node slot n q (inr (e, l)) ∙ sym (front_in h (node + 1) 0 n q (inl (omega (arith, e))))
    by (inr (inl l)) = front_out h node slot n q (inl l) ∙ sym (front_out h (node + 1) 0 n q (after l))
      where
        cases : (a b : ℕ) → b < a → (b + 1 < a) ⊎ (a ≡ b + 1)
        cases a b l = grind arith

        after : node < n → IsFrom (node + 1) 0 n q
        after l = go (cases n node l)
          where
            go : (node + 1 < n) ⊎ (n ≡ node + 1) → IsFrom (node + 1) 0 n q
            go (inl k) = inl k
            go (inr k) = inr (k, omega arith)
    by (inr (inr (e, l))) =
        front_out h node slot n q (inr (e, l))
        ∙ sym (ap (λ m. h m q) e ∙ none q l)
        ∙ sym (front_in h (node + 1) 0 n q (inl (omega (arith, e))))

-- behind the last node there is none
pub front_all : (h : Held) (node : ℕ) → ((n q : ℕ) → node ≤ n → h n q ≡ None) → (n q : ℕ) → front_records h node 0 n q ≡ h n q
front_all h node none n q = by (place node 0 n q)
  where
    by : IsBefore node 0 n q ⊎ IsFrom node 0 n q → front_records h node 0 n q ≡ h n q
    by (inl b) = front_in h node 0 n q b
    by (inr (inl l)) = front_out h node 0 n q (inl l) ∙ sym (none n q (omega (arith, l)))
    by (inr (inr (e, l))) = front_out h node 0 n q (inr (e, l)) ∙ sym (none n q (omega (arith, e)))

-- relations that are equal slot by slot are one
same_held : (h h' : Held) → ((n q : ℕ) → h n q ≡ h' n q) → ◌≡◌ {A = Held} h h'
same_held h h' e = λ i n q. e n q i

-- THE RECORDS OF AN IMAGE

-- what a record of an image counts for
pub image_counted : (net : List NodeDecl) (kinds : List Meaning) (bytes : List ℕ) (version node slot : ℕ) → All IsLawful kinds → image_records net kinds (record { version = version; words = image_words net kinds bytes }) node slot ≡ counted version (record_held net kinds (image_words net kinds bytes) node slot)
image_counted net kinds bytes version node slot lawful = by (version == 1)
  where
    words : List (List ℕ)
    words = image_words net kinds bytes

    by : (b : Bool) → record_held net kinds (if b then words_allowing net kinds Write (words_allowing net kinds Read words) else words) node slot ≡ (if b then record_allowing Write (record_allowing Read (record_held net kinds words node slot)) else record_held net kinds words node slot)
    by false = refl
    by true =
        records_allowing net kinds (words_allowing net kinds Read words) Write lawful (kept_sized net kinds (is_open_in net kinds words Read) words (image_sized net kinds bytes)) node slot
        ∙ ap (record_allowing Write) (records_allowing net kinds words Read lawful (image_sized net kinds bytes) node slot)

-- the record of a slot, by the words of its unit
pub record_is : (net : List NodeDecl) (kinds : List Meaning) (bytes : List ℕ) (version node slot : ℕ) (u : UnitPart) (ws : List ℕ) → All IsLawful kinds → unit_at net node ≡ Some u → slice_get (image_words net kinds bytes) node ≡ Some ws → counted version (record_of_unit kinds (Some u) (Some ws) slot) ≡ image_records net kinds (record { version = version; words = image_words net kinds bytes }) node slot
record_is net kinds bytes version node slot u ws lawful at words =
    sym (image_counted net kinds bytes version node slot lawful
    ∙ ap (λ o. counted version (record_of_unit kinds o (slice_get (image_words net kinds bytes) node) slot)) at
    ∙ ap (λ w. counted version (record_of_unit kinds (Some u) w slot)) words)

-- a unit can hold each of them
pub image_held : (net : List NodeDecl) (kinds : List Meaning) (i : ImageWords) → All IsLawful kinds → AreHeld net (image_records net kinds i)
image_held net kinds i lawful = held_records_fit net kinds (image_tables net kinds i) lawful

-- THE SET

as_holds : (net : List NodeDecl) (kinds : List Meaning) (h : Held) (node slot : ℕ) (set : List NodeTable) (sizes : List UnitSize) (told : Option (List UnitWords)) → IsFilledTo net kinds h node slot set sizes told → Holds net kinds (front_records h node slot) set
as_holds net kinds h node slot set sizes told f = record { fits = f.fits; words = f.words; held = f.held }

filled_by : (net : List NodeDecl) (kinds : List Meaning) (h g : Held) (node slot : ℕ) (set : List NodeTable) (sizes : List UnitSize) (told : Option (List UnitWords)) → Holds net kinds g set → ((n q : ℕ) → g n q ≡ front_records h node slot n q) → IsOnDevice set sizes told → IsFilledTo net kinds h node slot set sizes told
filled_by net kinds h g node slot set sizes told holds same on =
    let x : Holds net kinds (front_records h node slot) set = subst (λ k. Holds net kinds k set) (same_held g (front_records h node slot) same) holds in
    record { fits = x.fits; words = x.words; held = x.held; on_device = on }

-- a fresh set
pub filled_first : (net : List NodeDecl) (kinds : List Meaning) → AreKindsOf net kinds → IsLegalNet net → (h : Held) (set : List NodeTable) (sizes : List UnitSize) (told : Option (List UnitWords)) → FitsNet net kinds set → set ≡ fresh_set kinds net → IsOnDevice set sizes told → IsFilledTo net kinds h 0 0 set sizes told
filled_first net kinds k legal h set sizes told fits fresh on =
    let kept = begun_kept net kinds k legal set fits fresh in
    let none : (n q : ℕ) → records_of net [] n q ≡ front_records h 0 0 n q = λ n q. sym (front_none h n q) in
    filled_by net kinds h (records_of net []) 0 0 set sizes told (record { fits = fits; words = kept.words; held = λ n q r e. (let c : None ≡ Some r = e in cc) }) none on

-- a slot that holds none
pub filled_pass : (net : List NodeDecl) (kinds : List Meaning) (h : Held) (node slot : ℕ) (set : List NodeTable) (sizes : List UnitSize) (told : Option (List UnitWords)) → IsFilledTo net kinds h node slot set sizes told → h node slot ≡ None → IsFilledTo net kinds h node (slot + 1) set sizes told
filled_pass net kinds h node slot set sizes told f none = filled_by net kinds h (front_records h node slot) node (slot + 1) set sizes told (as_holds net kinds h node slot set sizes told f) (front_pass h node slot none) f.on_device

-- two changes of a table that make it the same
same_table : (set : List NodeTable) (node : ℕ) (f g : NodeTable → NodeTable) (x : NodeTable) → slice_get set node ≡ Some x → f x ≡ g x → with_table set node f ≡ with_table set node g
same_table [] node f g x at e = refl
same_table (s ∷ set) zero f g x at e =
    let is : s ≡ x = same_Some s x at in
    ap (λ (y : NodeTable). y ∷ set) (ap f is ∙ e ∙ ap g (sym is))
same_table (s ∷ set) (suc node) f g x at e = ap (λ (l : List NodeTable). s ∷ l) (same_table set node f g x at e)

-- a record is put
put_holds : (net : List NodeDecl) (kinds : List Meaning) → AreKindsOf net kinds → (h : Held) (set : List NodeTable) (s : Put) → Holds net kinds h set → IsHeld net s.unit s.slot s.holds → Holds net kinds (with_record h s) (with_slot set s.unit s.slot (packed_in kinds set s.unit s.holds))
put_holds net kinds k h set s x here =
    let u = here.unit in
    let kind = kind_of net kinds k s.unit u.0 u.1 in
    let law = kind.law in
    let vs : List ℕ = packed_in kinds set s.unit s.holds in
    let packed : vs ≡ kind.kind.pack (unit_shape u.0) s.holds = ap (λ o. packed_for kinds o s.holds) (unit_fits net kinds set x.fits s.unit ∙ u.1) ∙ ap (λ o. packed_by o u.0 s.holds) kind.at in
    let may : IsPackable kind.kind (unit_shape u.0) s.holds = packable_held net kinds s.unit s.slot u.0 kind s.holds u.1 here in
    let there = table_of_unit set s.unit u.0 (unit_fits net kinds set x.fits s.unit ∙ u.1) in
    let wide : there.0.width ≡ kind.kind.words = width_is net kinds set x.fits s.unit u.0 kind there.0 there.1 there.2 in
    let change : List ℕ → List ℕ = λ ws. put_over ws (s.slot * kind.kind.words) vs in
    let written : words_of (with_slot set s.unit s.slot vs) ≡ with_node (words_of set) s.unit change =
    ap words_of (same_table set s.unit (λ t. with_words t (put_over t.words (s.slot * t.width) vs)) (λ t. with_words t (change t.words)) there.0 there.1 (ap (λ n. with_words there.0 (put_over there.0.words (s.slot * n) vs)) wide))
    ∙ table_words set s.unit (λ t. with_words t (change t.words)) change (λ t. refl) in
    record {
      fits = fits_net_kept net kinds set (with_slot set s.unit s.slot vs) (fit_with_slot set s.unit s.slot vs) x.fits;
      words =
          written
          ∙ ap (λ l. with_node l s.unit change) x.words
          ∙ slot_packed net kinds h (with_record h s) x.held s.unit s.slot u.0 kind u.1 u.2 vs
          (packed ∙ ap (packed_slot kind.kind u.0) (sym (this_slot s (Some s.holds) (h s.unit s.slot))))
          (ap length packed ∙ law.width (unit_shape u.0) s.holds may)
          (λ m q ne. other_slot m q s (Some s.holds) (h m q) ne) change refl;
      held = held_with net h s x.held here;
    }

-- a slot whose record was put
pub filled_put : (net : List NodeDecl) (kinds : List Meaning) → AreKindsOf net kinds → (h : Held) (node slot : ℕ) (r : Record) (set set' : List NodeTable) (sizes sizes' : List UnitSize) (told told' : Option (List UnitWords)) → AreHeld net h → IsFilledTo net kinds h node slot set sizes told → h node slot ≡ Some r → set' ≡ with_slot set node slot (packed_in kinds set node r) → IsOnDevice set' sizes' told' → IsFilledTo net kinds h node (slot + 1) set' sizes' told'
filled_put net kinds k h node slot r set set' sizes sizes' told told' held f some put on =
    let s : Put = record { unit = node; slot = slot; holds = r } in
    let done : Holds net kinds (with_record (front_records h node slot) s) (with_slot set node slot (packed_in kinds set node r)) = put_holds net kinds k (front_records h node slot) set s (as_holds net kinds h node slot set sizes told f) (held node slot r some) in
    filled_by net kinds h (with_record (front_records h node slot) s) node (slot + 1) set' sizes' told' (subst (Holds net kinds (with_record (front_records h node slot) s)) (sym put) done) (front_add h node slot r some) on

-- what putting it asks
pub put_empty : (net : List NodeDecl) (kinds : List Meaning) → AreKindsOf net kinds → (h : Held) (node slot : ℕ) (u : UnitPart) (set : List NodeTable) (sizes : List UnitSize) (told : Option (List UnitWords)) → IsFilledTo net kinds h node slot set sizes told → unit_at net node ≡ Some u → slot < u.slots → IsEmpty set node slot
put_empty net kinds k h node slot u set sizes told f at l = empty_there net kinds k (front_records h node slot) set (as_holds net kinds h node slot set sizes told f) node slot u at l (front_here h node slot)

pub put_packable : (net : List NodeDecl) (kinds : List Meaning) → AreKindsOf net kinds → (h : Held) (node slot : ℕ) (r : Record) (set : List NodeTable) → FitsNet net kinds set → AreHeld net h → h node slot ≡ Some r → IsPackableIn kinds set node r
put_packable net kinds k h node slot r set fits held some u kind eu ek =
    let at : unit_at net node ≡ Some u = sym (unit_fits net kinds set fits node) ∙ eu in
    let m : IsKind net kinds u = kind_of net kinds k node u at in
    subst (λ z. IsPackable z (unit_shape u) r) (same_Some m.kind kind (sym m.at ∙ ek)) (packable_held net kinds node slot u m r at (held node slot r some))

-- behind the last slot of a unit
pub filled_unit : (net : List NodeDecl) (kinds : List Meaning) (h : Held) (node slot : ℕ) (u : UnitPart) (set : List NodeTable) (sizes : List UnitSize) (told : Option (List UnitWords)) → AreHeld net h → unit_at net node ≡ Some u → u.slots ≤ slot → IsFilledTo net kinds h node slot set sizes told → IsFilledTo net kinds h (node + 1) 0 set sizes told
filled_unit net kinds h node slot u set sizes told held at all f =
    filled_by net kinds h (front_records h node slot) (node + 1) 0 set sizes told (as_holds net kinds h node slot set sizes told f) (front_next h node slot (λ q l. none q l (h node q) refl)) f.on_device
  where
    none : (q : ℕ) → slot ≤ q → (o : Option Record) → h node q ≡ o → h node q ≡ None
    none q l None e = e
    none q l (Some r) e =
        let w = (held node q r e).unit in
        let same : w.0 ≡ u = same_Some w.0 u (sym w.1 ∙ at) in
        let within : q < u.slots = subst (λ (v : UnitPart). q < v.slots) same w.2 in
        absurd (omega (arith, l, all, within))

-- a node that is no unit
pub filled_plain : (net : List NodeDecl) (kinds : List Meaning) (h : Held) (node : ℕ) (set : List NodeTable) (sizes : List UnitSize) (told : Option (List UnitWords)) → AreHeld net h → unit_at net node ≡ None → IsFilledTo net kinds h node 0 set sizes told → IsFilledTo net kinds h (node + 1) 0 set sizes told
filled_plain net kinds h node set sizes told held at f =
    filled_by net kinds h (front_records h node 0) (node + 1) 0 set sizes told (as_holds net kinds h node 0 set sizes told f) (front_next h node 0 (λ q l. none q (h node q) refl)) f.on_device
  where
    none : (q : ℕ) (o : Option Record) → h node q ≡ o → h node q ≡ None
    none q None e = e
    none q (Some r) e = let w = (held node q r e).unit in let c : None ≡ Some w.0 = sym at ∙ w.1 in cc

-- all of it
pub filled_all : (net : List NodeDecl) (kinds : List Meaning) → AreKindsOf net kinds → (h : Held) (node : ℕ) (set : List NodeTable) (sizes : List UnitSize) (told : Option (List UnitWords)) → AreHeld net h → length net ≤ node → IsFilledTo net kinds h node 0 set sizes told → (n q : ℕ) → record_kept kinds set n q ≡ h n q
filled_all net kinds k h node set sizes told held all f n q =
    set_holds net kinds k (front_records h node 0) set (as_holds net kinds h node 0 set sizes told f) n q
    ∙ front_all h node (λ m p l. none m p l (h m p) refl) n q
  where
    past : (net : List NodeDecl) (m : ℕ) → length net ≤ m → unit_at net m ≡ None
    past [] m l = refl
    past (d ∷ ds) zero l = absurd (omega (arith, l))
    past (d ∷ ds) (suc m) l = past ds m (omega (arith, l))

    none : (m p : ℕ) → node ≤ m → (o : Option Record) → h m p ≡ o → h m p ≡ None
    none m p l None e = e
    none m p l (Some r) e =
        let w = (held m p r e).unit in
        let c : None ≡ Some w.0 = sym (past net m (omega (arith, all, l))) ∙ w.1 in
        cc
