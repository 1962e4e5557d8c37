-- Sets whose words are the packed words of records.
use Rattle.std.proofs.Common.{◌≡◌, ℕ, zero, suc, ◌+◌, ◌*◌, ◌%◌, ◌^◌, ◌<◌, ◌≤◌, inl, inr, Bool, true, false, if◌then◌else◌, nat_lt, List, [], ◌∷◌, ◌++◌, length, take, drop, replicate, slice_get, Option, Some, None, IsTrue, refl, sym, ap, ◌∙◌, subst, arith, append_assoc, length-append, ltb-true, ltb-false, eqb-true}
use Rattle.std.specs.List.{All, list_all}
use Rattle.std.proofs.lemmas.List.Folds.{list_all-append}
use Rattle.std.proofs.lemmas.List.{length-replicate, take_at}
use Rattle.std.proofs.lemmas.Option.{same_Some}
use Rattle.std.proofs.Math.Nat.{suc-mul}
use Rattle.std.proofs.Math.Seq.{drop-append-add, drop-append_seam, take-append-add}
use Rattle.dn_base.proofs.Booleans.{and_from, and_parts}
use Rattle.dn_base.proofs.Lists.{list_all-at}
use Rattle.dn_net.specs.declared.node.NodeDecl.{NodeDecl}
use Rattle.dn_net.specs.declared.node.Unit.{Unit as UnitPart}
use Rattle.dn_net.specs.Chain.{Member}
use Rattle.dn_net.specs.Decode.{unit_at}
use Rattle.dn_kind.specs.declared.unit_kind.Record.{Record}
use Rattle.dn_kind.specs.Kind.{Meaning, IsLawful, IsPackable, is_plain_unit_shape, is_within}
use Rattle.dn_kind.specs.Tables.{AreHeld, Held, IsHeld, record_held, record_of_unit, record_spelled, record_within, slot_words}
use Rattle.dn_kind.specs.Units.{KeepsUnitShape, fits_shape, unit_shape}
use Rattle.dn_kind.proofs.Held.{kind_lawful, held_past}
use Rattle.dn_kind.proofs.Allowed.{gate_of_zeros}
use Rattle.dn_tables.specs.declared.table.NodeTable.{NodeTable}
use Rattle.dn_tables.specs.Set.{FitsNet, IsEmpty, fits_by, is_wide, put_over, record_kept, width_by, width_of_table, words_of, words_of_table}
use Rattle.dn_tables.proofs.Kept.{table_of_unit}
use Rattle.dn_tables.proofs.Fresh.{kind_there}
use Rattle.dn_book.specs.Sets.{is_at}
use Rattle.dn_book.specs.Tables.{packed_node, packed_nodes, packed_slot, packed_slots, packed_tables, packed_unit}
use Rattle.dn_book.specs.Writes.{Put}
use Rattle.dn_book.proofs.Changes.{is_at_parts, is_at_self}
use Rattle.dn_book.proofs.Nodes.{with_node}
use Rattle.dn_tables.proofs.Units.{unit_fits}

-- THE SLOTS OF ONE UNIT

-- the kind may be asked for each record
abbrev pub ArePackable : Meaning → UnitPart → (ℕ → Option Record) → Type 0
ArePackable kind u records = (q : ℕ) (r : Record) → records q ≡ Some r → IsPackable kind (unit_shape u) r

slot_length : (kind : Meaning) → IsLawful kind → (u : UnitPart) (o : Option Record) → ((r : Record) → o ≡ Some r → IsPackable kind (unit_shape u) r) → length (packed_slot kind u o) ≡ kind.words
slot_length kind law u None p = length-replicate kind.words 0
slot_length kind law u (Some r) p = law.width (unit_shape u) r (p r refl)

pub slots_length : (kind : Meaning) → IsLawful kind → (u : UnitPart) (records : ℕ → Option Record) → ArePackable kind u records → (first count : ℕ) → length (packed_slots kind u records first count) ≡ count * kind.words
slots_length kind law u records p first zero = let e : 0 ≡ 0 * kind.words = omega arith in e
slots_length kind law u records p first (suc count) =
    let a : length (packed_slot kind u (records first) ++ packed_slots kind u records (suc first) count) ≡ length (packed_slot kind u (records first)) + length (packed_slots kind u records (suc first) count) = length-append (packed_slot kind u (records first)) (packed_slots kind u records (suc first) count) in
    let b = slot_length kind law u (records first) (p first) in
    let c = slots_length kind law u records p (suc first) count in
    let d : suc count * kind.words ≡ count * kind.words + kind.words = suc-mul count kind.words in
    omega arith

-- the words of one of the slots
pub slot_at : (kind : Meaning) → IsLawful kind → (u : UnitPart) (records : ℕ → Option Record) → ArePackable kind u records → (first count i : ℕ) → i < count → slot_words kind.words (packed_slots kind u records first count) i ≡ packed_slot kind u (records (first + i))
slot_at kind law u records p first zero i l = absurd (omega arith)
slot_at kind law u records p first (suc count) zero l =
    let z : 0 * kind.words ≡ 0 = omega arith in
    let f : first ≡ first + 0 = omega arith in
    ap (λ n. take kind.words (drop n (packed_slot kind u (records first) ++ packed_slots kind u records (suc first) count))) z
    ∙ take_at (packed_slot kind u (records first)) (packed_slots kind u records (suc first) count) kind.words (slot_length kind law u (records first) (p first))
    ∙ ap (λ n. packed_slot kind u (records n)) f
slot_at kind law u records p first (suc count) (suc i) l =
    let w = slot_length kind law u (records first) (p first) in
    let m : suc i * kind.words ≡ i * kind.words + kind.words = suc-mul i kind.words in
    let e : suc i * kind.words ≡ length (packed_slot kind u (records first)) + i * kind.words = omega arith in
    let f : suc first + i ≡ first + suc i = omega arith in
    ap (λ n. take kind.words (drop n (packed_slot kind u (records first) ++ packed_slots kind u records (suc first) count))) e
    ∙ ap (take kind.words) (drop-append-add (packed_slot kind u (records first)) (packed_slots kind u records (suc first) count) (i * kind.words))
    ∙ slot_at kind law u records p (suc first) count i (omega arith)
    ∙ ap (λ n. packed_slot kind u (records n)) f

-- slots with the same records have the same words
slots_same : (kind : Meaning) (u : UnitPart) (records records' : ℕ → Option Record) (first count : ℕ) → ((q : ℕ) → first ≤ q → records' q ≡ records q) → packed_slots kind u records' first count ≡ packed_slots kind u records first count
slots_same kind u records records' first zero e = refl
slots_same kind u records records' first (suc count) e =
    ap (λ o. packed_slot kind u o ++ packed_slots kind u records' (suc first) count) (e first (omega arith))
    ∙ ap (λ (l : List ℕ). packed_slot kind u (records first) ++ l) (slots_same kind u records records' (suc first) count (λ q l. e q (omega arith)))

-- a slot that is changed
slot_changed : (kind : Meaning) → IsLawful kind → (u : UnitPart) (records records' : ℕ → Option Record) → ArePackable kind u records → (first count i : ℕ) (vs : List ℕ) → i < count → length vs ≡ kind.words → vs ≡ packed_slot kind u (records' (first + i)) → ((q : ℕ) → (q ≡ first + i → ⊥) → records' q ≡ records q) → put_over (packed_slots kind u records first count) (i * kind.words) vs ≡ packed_slots kind u records' first count
slot_changed kind law u records records' p first zero i vs l n e same = absurd (omega arith)
slot_changed kind law u records records' p first (suc count) zero vs l n e same =
    let z : 0 * kind.words ≡ 0 = omega arith in
    let f : first + 0 ≡ first = omega arith in
    let w = slot_length kind law u (records first) (p first) in
    let k : length vs ≡ length (packed_slot kind u (records first)) = omega arith in
    let A : List ℕ = packed_slot kind u (records first) in
    let R : List ℕ = packed_slots kind u records (suc first) count in
    ap (λ m. put_over (A ++ R) m vs) z
    ∙ ap (λ m. vs ++ drop m (A ++ R)) k
    ∙ ap (λ (l : List ℕ). vs ++ l) (drop-append_seam A R)
    ∙ ap (λ (l : List ℕ). l ++ R) (e ∙ ap (λ m. packed_slot kind u (records' m)) f)
    ∙ ap (λ (l : List ℕ). packed_slot kind u (records' first) ++ l) (sym (slots_same kind u records records' (suc first) count (λ q l. same q (λ g. absurd (omega arith)))))
slot_changed kind law u records records' p first (suc count) (suc i) vs l n e same =
    let w = slot_length kind law u (records first) (p first) in
    let m : suc i * kind.words ≡ i * kind.words + kind.words = suc-mul i kind.words in
    let A : List ℕ = packed_slot kind u (records first) in
    let R : List ℕ = packed_slots kind u records (suc first) count in
    let g : suc i * kind.words ≡ length A + i * kind.words = omega arith in
    let f : first + suc i ≡ suc first + i = omega arith in
    let here : records' first ≡ records first = same first (λ h. absurd (omega arith)) in
    ap (λ k. put_over (A ++ R) k vs) g
    ∙ ap (λ (l : List ℕ). l ++ (vs ++ drop (length vs) (drop (length A + i * kind.words) (A ++ R)))) (take-append-add A R (i * kind.words))
    ∙ ap (λ (l : List ℕ). (A ++ take (i * kind.words) R) ++ (vs ++ drop (length vs) l)) (drop-append-add A R (i * kind.words))
    ∙ append_assoc A (take (i * kind.words) R) (vs ++ drop (length vs) (drop (i * kind.words) R))
    ∙ ap (λ (l : List ℕ). A ++ l) (slot_changed kind law u records records' p (suc first) count i vs (omega arith) n (e ∙ ap (λ k. packed_slot kind u (records' k)) f) (λ q h. same q (λ k. h (k ∙ f))))
    ∙ ap (λ o. packed_slot kind u o ++ packed_slots kind u records' (suc first) count) (sym here)

-- THE NODES

-- the words of one node
node_words : (kinds : List Meaning) (h : Held) (first node : ℕ) (net : List NodeDecl) (set : List NodeTable) (t : NodeTable) → words_of set ≡ packed_nodes kinds h first net → slice_get set node ≡ Some t → t.words ≡ packed_node kinds (unit_at net node) (h (first + node))
node_words kinds h first node net [] t e at = cc
node_words kinds h first node [] (s ∷ set) t e at = cc
node_words kinds h first zero (n ∷ net) (s ∷ set) t e at =
    let z : first ≡ first + zero = omega arith in
    let w : s.words ≡ packed_node kinds n.unit (h first) = cc in
    ap (λ (x : NodeTable). x.words) (sym (same_Some s t at)) ∙ w ∙ ap (λ m. packed_node kinds n.unit (h m)) z
node_words kinds h first (suc node) (n ∷ net) (s ∷ set) t e at =
    let f : suc first + node ≡ first + suc node = omega arith in
    let rest : words_of set ≡ packed_nodes kinds h (suc first) net = cc in
    node_words kinds h (suc first) node net set t rest at ∙ ap (λ m. packed_node kinds (unit_at net node) (h m)) f

nodes_same : (kinds : List Meaning) (h h' : Held) (first : ℕ) (net : List NodeDecl) → ((m q : ℕ) → first ≤ m → h' m q ≡ h m q) → packed_nodes kinds h' first net ≡ packed_nodes kinds h first net
nodes_same kinds h h' first [] e = refl
nodes_same kinds h h' first (n ∷ net) e =
    let row : ◌≡◌ {A = ℕ → Option Record} (h' first) (h first) = (λ i q. e first q (omega arith) i) in
    ap (λ (f : ℕ → Option Record). packed_node kinds n.unit f ∷ packed_nodes kinds h' (suc first) net) row
    ∙ ap (λ (l : List (List ℕ)). packed_node kinds n.unit (h first) ∷ l) (nodes_same kinds h h' (suc first) net (λ m q l. e m q (omega arith)))

-- one node is changed
node_changed : (kinds : List Meaning) (h h' : Held) (first node : ℕ) (net : List NodeDecl) (change : List ℕ → List ℕ) → change (packed_node kinds (unit_at net node) (h (first + node))) ≡ packed_node kinds (unit_at net node) (h' (first + node)) → ((m q : ℕ) → (m ≡ first + node → ⊥) → h' m q ≡ h m q) → with_node (packed_nodes kinds h first net) node change ≡ packed_nodes kinds h' first net
node_changed kinds h h' first node [] change is same = refl
node_changed kinds h h' first zero (n ∷ net) change is same =
    let z : first + zero ≡ first = omega arith in
    ap (λ (x : List ℕ). x ∷ packed_nodes kinds h (suc first) net) (subst (λ m. change (packed_node kinds n.unit (h m)) ≡ packed_node kinds n.unit (h' m)) z is)
    ∙ ap (λ (l : List (List ℕ)). packed_node kinds n.unit (h' first) ∷ l) (sym (nodes_same kinds h h' (suc first) net (λ m q l. same m q (λ g. absurd (omega arith)))))
node_changed kinds h h' first (suc node) (n ∷ net) change is same =
    let g : first + suc node ≡ suc first + node = omega arith in
    let row : ◌≡◌ {A = ℕ → Option Record} (h' first) (h first) = (λ i q. same first q (λ k. absurd (omega arith)) i) in
    ap (λ (r : ℕ → Option Record). packed_node kinds n.unit r ∷ with_node (packed_nodes kinds h (suc first) net) node change) (sym row)
    ∙ ap (λ (l : List (List ℕ)). packed_node kinds n.unit (h' first) ∷ l) (node_changed kinds h h' (suc first) node net change (subst (λ m. change (packed_node kinds (unit_at net node) (h m)) ≡ packed_node kinds (unit_at net node) (h' m)) g is) (λ m q k. same m q (λ j. k (j ∙ g))))

-- the words of a node that is there
pub words_there : (kinds : List Meaning) (h : Held) (first node : ℕ) (net : List NodeDecl) (u : UnitPart) → unit_at net node ≡ Some u → slice_get (packed_nodes kinds h first net) node ≡ Some (packed_node kinds (Some u) (h (first + node)))
words_there kinds h first node [] u e = cc
words_there kinds h first zero (n ∷ net) u e =
    let z : first ≡ first + zero = omega arith in
    ap (λ o. Some (packed_node kinds o (h first))) e ∙ ap (λ m. Some (packed_node kinds (Some u) (h m))) z
words_there kinds h first (suc node) (n ∷ net) u e =
    let f : suc first + node ≡ first + suc node = omega arith in
    words_there kinds h (suc first) node net u e ∙ ap (λ m. Some (packed_node kinds (Some u) (h m))) f

-- RECORDS THAT A SET HOLDS

-- the records of a slot more, and of a slot less
abbrev pub with_record : Held → Put → Held
with_record h s n q = if is_at n q s then Some s.holds else h n q

abbrev pub without_record : Held → Put → Held
without_record h s n q = if is_at n q s then None else h n q

-- the words of a set are the packed words of records that its units can hold
pub record Holds (net : List NodeDecl) (kinds : List Meaning) (h : Held) (set : List NodeTable) : Type 0 where
  pub fits : FitsNet net kinds set
  pub words : words_of set ≡ packed_tables net kinds h
  pub held : AreHeld net h

-- what the kinds are to the net
pub record AreKindsOf (net : List NodeDecl) (kinds : List Meaning) : Type 0 where
  pub lawful : All IsLawful kinds
  pub shaped : KeepsUnitShape kinds net

-- the kind of a unit
pub record IsKind (net : List NodeDecl) (kinds : List Meaning) (u : UnitPart) : Type 0 where
  pub kind : Meaning
  pub at : slice_get kinds u.kind ≡ Some kind
  pub law : IsLawful kind
  pub plain : IsTrue (is_plain_unit_shape (unit_shape u))
  pub fit : IsTrue (kind.fits (unit_shape u))

pub kind_of : (net : List NodeDecl) (kinds : List Meaning) → AreKindsOf net kinds → (node : ℕ) (u : UnitPart) → unit_at net node ≡ Some u → IsKind net kinds u
kind_of net kinds k node u e =
    let s = k.shaped.shaped node u e in
    let parts = and_parts (is_plain_unit_shape (unit_shape u)) (fits_shape (slice_get kinds u.kind) (unit_shape u)) s in
    let there = kind_there kinds u s in
    record {
      kind = there.0;
      at = there.1;
      law = kind_lawful kinds u.kind there.0 k.lawful there.1;
      plain = parts.0;
      fit = subst (λ o. IsTrue (fits_shape o (unit_shape u))) there.1 parts.1;
    }

-- a record that a unit can hold is one that its kind packs
pub packable_held : (net : List NodeDecl) (kinds : List Meaning) (node slot : ℕ) (u : UnitPart) (k : IsKind net kinds u) (r : Record) → unit_at net node ≡ Some u → IsHeld net node slot r → IsPackable k.kind (unit_shape u) r
packable_held net kinds node slot u k r e h = record {
  plain = k.plain;
  fits = k.fit;
  within = (let w = h.unit in subst (λ v. IsTrue (is_within (unit_shape v) r)) (same_Some w.0 u (sym w.1 ∙ e)) w.3);
  rights = h.rights;
}

pub all_packable : (net : List NodeDecl) (kinds : List Meaning) (h : Held) → AreHeld net h → (node : ℕ) (u : UnitPart) (k : IsKind net kinds u) → unit_at net node ≡ Some u → ArePackable k.kind u (h node)
all_packable net kinds h held node u k e q r at = packable_held net kinds node q u k r e (held node q r at)

-- the words of a unit
pub unit_words : (net : List NodeDecl) (kinds : List Meaning) (h : Held) (u : UnitPart) (k : IsKind net kinds u) (records : ℕ → Option Record) → packed_node kinds (Some u) records ≡ packed_slots k.kind u records 0 u.slots
unit_words net kinds h u k records = ap (λ o. packed_unit o u records) k.at

-- the record of the words of a slot
spelled_slot : (kind : Meaning) → IsLawful kind → (u : UnitPart) (o : Option Record) → ((r : Record) → o ≡ Some r → IsPackable kind (unit_shape u) r) → record_within u (kind.unpack (packed_slot kind u o)) ≡ o
spelled_slot kind law u None p = ap (record_within u) (law.shut (replicate kind.words 0) (length-replicate kind.words 0) (ap (λ n. n % 2) (gate_of_zeros kind.words)))
spelled_slot kind law u (Some r) p =
    let may : IsPackable kind (unit_shape u) r = p r refl in
    ap (record_within u) (law.reads_back (unit_shape u) r may) ∙ ap (λ b. if b then Some r else None) may.within

-- no record where there is no unit
none_outside : (net : List NodeDecl) (h : Held) → AreHeld net h → (node slot : ℕ) → unit_at net node ≡ None → h node slot ≡ None
none_outside net h held node slot e = by (h node slot) refl
  where
    by : (o : Option Record) → h node slot ≡ o → o ≡ None
    by None at = refl
    by (Some r) at = let w = (held node slot r at).unit in let c : None ≡ Some w.0 = sym e ∙ w.1 in cc

-- tables that are packed hold exactly the records
pub tables_hold : (net : List NodeDecl) (kinds : List Meaning) → AreKindsOf net kinds → (h : Held) → AreHeld net h → (node slot : ℕ) → record_held net kinds (packed_tables net kinds h) node slot ≡ h node slot
tables_hold net kinds k h held node slot = by (unit_at net node) refl
  where
    by : (o : Option UnitPart) → unit_at net node ≡ o → record_of_unit kinds o (slice_get (packed_tables net kinds h) node) slot ≡ h node slot
    by None e = sym (none_outside net h held node slot e)
    by (Some u) e =
        let kind = kind_of net kinds k node u e in
        let z : 0 + node ≡ node = omega arith in
        ap (λ o. record_spelled o u (slice_get (packed_tables net kinds h) node) slot) kind.at
        ∙ ap (λ o. record_spelled (Some kind.kind) u o slot) (words_there kinds h 0 node net u e ∙ ap (λ n. Some (packed_node kinds (Some u) (h n))) z)
        ∙ there kind (nat_lt slot u.slots) refl
      where
        there : (kind : IsKind net kinds u) (b : Bool) → nat_lt slot u.slots ≡ b → (if b then record_within u (kind.kind.unpack (slot_words kind.kind.words (packed_node kinds (Some u) (h node)) slot)) else None) ≡ h node slot
        there kind false f = sym (held_past net h held node slot u e (omega (arith, ltb-false slot u.slots f)))
        there kind true f =
            let p : ArePackable kind.kind u (h node) = all_packable net kinds h held node u kind e in
            let l : slot < u.slots = ltb-true slot u.slots f in
            let z : 0 + slot ≡ slot = omega arith in
            ap (λ ws. record_within u (kind.kind.unpack (slot_words kind.kind.words ws slot))) (unit_words net kinds h u kind (h node))
            ∙ ap (λ ws. record_within u (kind.kind.unpack ws)) (slot_at kind.kind kind.law u (h node) p 0 u.slots slot l ∙ ap (λ n. packed_slot kind.kind u (h node n)) z)
            ∙ spelled_slot kind.kind kind.law u (h node slot) (p slot)

-- each word is below 2^64
abbrev pub are_small : List ℕ → Bool
are_small ws = list_all (λ w. nat_lt w (2 ^ 64)) ws

zeros_small : (n : ℕ) → IsTrue (are_small (replicate n 0))
zeros_small zero = refl
zeros_small (suc n) = zeros_small n

slot_small : (kind : Meaning) → IsLawful kind → (u : UnitPart) (o : Option Record) → ((r : Record) → o ≡ Some r → IsPackable kind (unit_shape u) r) → IsTrue (are_small (packed_slot kind u o))
slot_small kind law u None p = zeros_small kind.words
slot_small kind law u (Some r) p = law.small (unit_shape u) r (p r refl)

slots_small : (kind : Meaning) → IsLawful kind → (u : UnitPart) (records : ℕ → Option Record) → ArePackable kind u records → (first count : ℕ) → IsTrue (are_small (packed_slots kind u records first count))
slots_small kind law u records p first zero = refl
slots_small kind law u records p first (suc count) =
    list_all-append (λ w. nat_lt w (2 ^ 64)) (packed_slot kind u (records first)) (packed_slots kind u records (suc first) count)
    ∙ and_from _ _ (slot_small kind law u (records first) (p first)) (slots_small kind law u records p (suc first) count)

-- the words of a node are those of its slots, each below 2^64; a node that is no unit has none
pub record IsFull (kinds : List Meaning) (unit : Option UnitPart) (ws : List ℕ) : Type 0 where
  pub none : unit ≡ None → ws ≡ []
  pub some : (u : UnitPart) → unit ≡ Some u → length ws ≡ u.slots * width_by (slice_get kinds u.kind)
  pub small : IsTrue (are_small ws)

node_full : (net : List NodeDecl) (kinds : List Meaning) → AreKindsOf net kinds → (h : Held) → AreHeld net h → (node : ℕ) (o : Option UnitPart) → unit_at net node ≡ o → IsFull kinds o (packed_node kinds o (h node))
node_full net kinds k h held node None e = record { none = λ s. refl; some = λ u s. cc; small = refl }
node_full net kinds k h held node (Some u) e =
    let kind = kind_of net kinds k node u e in
    let p : ArePackable kind.kind u (h node) = all_packable net kinds h held node u kind e in
    let is = unit_words net kinds h u kind (h node) in
    let count : length (packed_node kinds (Some u) (h node)) ≡ u.slots * width_by (slice_get kinds u.kind) =
    ap length is ∙ slots_length kind.kind kind.law u (h node) p 0 u.slots ∙ ap (λ o. u.slots * width_by o) (sym kind.at) in
    record {
      none = λ s. cc;
      some = λ v s. subst (λ (w : UnitPart). length (packed_node kinds (Some u) (h node)) ≡ w.slots * width_by (slice_get kinds w.kind)) (same_Some u v s) count;
      small = subst (λ ws. IsTrue (are_small ws)) (sym is) (slots_small kind.kind kind.law u (h node) p 0 u.slots);
    }

node_packed : (kinds : List Meaning) (h : Held) (first node : ℕ) (net : List NodeDecl) (ws : List ℕ) → slice_get (packed_nodes kinds h first net) node ≡ Some ws → packed_node kinds (unit_at net node) (h (first + node)) ≡ ws
node_packed kinds h first node [] ws e = cc
node_packed kinds h first zero (n ∷ net) ws e =
    let z : first + zero ≡ first = omega arith in
    ap (λ m. packed_node kinds n.unit (h m)) z ∙ same_Some _ ws e
node_packed kinds h first (suc node) (n ∷ net) ws e =
    let f : first + suc node ≡ suc first + node = omega arith in
    ap (λ m. packed_node kinds (unit_at net node) (h m)) f ∙ node_packed kinds h (suc first) node net ws e

-- tables that are packed have the words of each node, and no more
pub tables_full : (net : List NodeDecl) (kinds : List Meaning) → AreKindsOf net kinds → (h : Held) → AreHeld net h → (node : ℕ) (ws : List ℕ) → slice_get (packed_tables net kinds h) node ≡ Some ws → IsFull kinds (unit_at net node) ws
tables_full net kinds k h held node ws e =
    let z : node ≡ 0 + node = omega arith in
    let is : packed_node kinds (unit_at net node) (h node) ≡ ws = ap (λ m. packed_node kinds (unit_at net node) (h m)) z ∙ node_packed kinds h 0 node net ws e in
    subst (IsFull kinds (unit_at net node)) is (node_full net kinds k h held node (unit_at net node) refl)

pub tables_many : (kinds : List Meaning) (h : Held) (first : ℕ) (net : List NodeDecl) → length (packed_nodes kinds h first net) ≡ length net
tables_many kinds h first [] = refl
tables_many kinds h first (n ∷ net) = ap (λ k. suc k) (tables_many kinds h (suc first) net)

-- and so does the set
pub set_holds : (net : List NodeDecl) (kinds : List Meaning) → AreKindsOf net kinds → (h : Held) (set : List NodeTable) → Holds net kinds h set → (node slot : ℕ) → record_kept kinds set node slot ≡ h node slot
set_holds net kinds k h set s node slot =
    ap (λ o. record_of_unit kinds o (slice_get (words_of set) node) slot) (unit_fits net kinds set s.fits node)
    ∙ ap (λ ws. record_of_unit kinds (unit_at net node) (slice_get ws node) slot) s.words
    ∙ tables_hold net kinds k h s.held node slot

-- the width of a table
pub width_is : (net : List NodeDecl) (kinds : List Meaning) (set : List NodeTable) → FitsNet net kinds set → (node : ℕ) (u : UnitPart) (k : IsKind net kinds u) (t : NodeTable) → slice_get set node ≡ Some t → t.unit ≡ Some u → t.width ≡ k.kind.words
width_is net kinds set f node u k t at e =
    let b : IsTrue (fits_by kinds t.width (Some u)) = subst (λ o. IsTrue (fits_by kinds t.width o)) e (list_all-at (λ t. fits_by kinds t.width t.unit) set node t f.wide at) in
    let c : IsTrue (is_wide (Some k.kind) t.width) = subst (λ o. IsTrue (is_wide o t.width)) k.at b in
    sym (eqb-true k.kind.words t.width c)

-- the words of a unit's table are those of its slots, one behind the other
words_are : (net : List NodeDecl) (kinds : List Meaning) (h : Held) (set : List NodeTable) → Holds net kinds h set → (node : ℕ) (u : UnitPart) (kind : IsKind net kinds u) (t : NodeTable) → unit_at net node ≡ Some u → slice_get set node ≡ Some t → t.words ≡ packed_slots kind.kind u (h node) 0 u.slots
words_are net kinds h set s node u kind t e at =
    let z : 0 + node ≡ node = omega arith in
    node_words kinds h 0 node net set t s.words at
    ∙ ap (λ n. packed_node kinds (unit_at net node) (h n)) z
    ∙ ap (λ o. packed_node kinds o (h node)) e
    ∙ unit_words net kinds h u kind (h node)

-- a slot with no record is empty
pub empty_there : (net : List NodeDecl) (kinds : List Meaning) → AreKindsOf net kinds → (h : Held) (set : List NodeTable) → Holds net kinds h set → (node slot : ℕ) (u : UnitPart) → unit_at net node ≡ Some u → slot < u.slots → h node slot ≡ None → IsEmpty set node slot
empty_there net kinds k h set s node slot u e l none =
    let kind = kind_of net kinds k node u e in
    let there = table_of_unit set node u (unit_fits net kinds set s.fits node ∙ e) in
    let t : NodeTable = there.0 in
    let w : t.width ≡ kind.kind.words = width_is net kinds set s.fits node u kind t there.1 there.2 in
    let y : 0 + slot ≡ slot = omega arith in
    let words : t.words ≡ packed_slots kind.kind u (h node) 0 u.slots = words_are net kinds h set s node u kind t e there.1 in
    ap (λ o. slot_words (width_of_table o) (words_of_table o) slot) there.1
    ∙ ap (λ n. slot_words n t.words slot) w
    ∙ ap (λ ws. slot_words kind.kind.words ws slot) words
    ∙ slot_at kind.kind kind.law u (h node) (all_packable net kinds h s.held node u kind e) 0 u.slots slot l
    ∙ ap (λ n. packed_slot kind.kind u (h node n)) y
    ∙ ap (packed_slot kind.kind u) none
    ∙ ap (λ n. replicate n 0) (sym w)
    ∙ sym (ap (λ o. replicate (width_of_table o) 0) there.1)

-- one slot gets the words of another record, or of none
pub slot_packed : (net : List NodeDecl) (kinds : List Meaning) (h h' : Held) → AreHeld net h → (node slot : ℕ) (u : UnitPart) (kind : IsKind net kinds u) → unit_at net node ≡ Some u → slot < u.slots → (vs : List ℕ) → vs ≡ packed_slot kind.kind u (h' node slot) → length vs ≡ kind.kind.words → ((m q : ℕ) → (m ≡ node → q ≡ slot → ⊥) → h' m q ≡ h m q) → (change : List ℕ → List ℕ) → change (packed_slots kind.kind u (h node) 0 u.slots) ≡ put_over (packed_slots kind.kind u (h node) 0 u.slots) (slot * kind.kind.words) vs → with_node (packed_tables net kinds h) node change ≡ packed_tables net kinds h'
slot_packed net kinds h h' held node slot u kind e l vs is wide same change made =
    let z : 0 + node ≡ node = omega arith in
    let y : 0 + slot ≡ slot = omega arith in
    node_changed kinds h h' 0 node net change
    (ap (λ n. change (packed_node kinds (unit_at net node) (h n))) z
    ∙ ap (λ o. change (packed_node kinds o (h node))) e
    ∙ ap change (unit_words net kinds h u kind (h node))
    ∙ made
    ∙ slot_changed kind.kind kind.law u (h node) (h' node) (all_packable net kinds h held node u kind e) 0 u.slots slot vs l wide (is ∙ ap (λ n. packed_slot kind.kind u (h' node n)) (sym y)) (λ q ne. same node q (λ a b. ne (b ∙ sym y)))
    ∙ sym (unit_words net kinds h u kind (h' node))
    ∙ ap (λ o. packed_node kinds o (h' node)) (sym e)
    ∙ ap (λ n. packed_node kinds (unit_at net node) (h' n)) (sym z))
    (λ m q ne. same m q (λ a b. ne (a ∙ sym z)))

pub other_slot : {X : Type 0} (m q : ℕ) (s : Put) (x y : X) → (m ≡ s.unit → q ≡ s.slot → ⊥) → (if is_at m q s then x else y) ≡ y
other_slot {X} m q s x y ne = by (is_at m q s) refl
  where
    by : (b : Bool) → is_at m q s ≡ b → (if b then x else y) ≡ y
    by true e = let p = is_at_parts m q s e in absurd (ne p.0 p.1)
    by false e = refl

pub this_slot : {X : Type 0} (s : Put) (x y : X) → (if is_at s.unit s.slot s then x else y) ≡ x
this_slot {X} s x y = ap (λ b. if b then x else y) (is_at_self s.unit s.slot s refl refl)

-- records with one more that its unit can hold
pub held_with : (net : List NodeDecl) (h : Held) (s : Put) → AreHeld net h → IsHeld net s.unit s.slot s.holds → AreHeld net (with_record h s)
held_with net h s held here m q r e = by (is_at m q s) refl e
  where
    by : (b : Bool) → is_at m q s ≡ b → (if b then Some s.holds else h m q) ≡ Some r → IsHeld net m q r
    by true f g =
        let p = is_at_parts m q s f in
        let same : s.holds ≡ r = same_Some s.holds r g in
        subst (λ n. IsHeld net n q r) (sym p.0) (subst (λ n. IsHeld net s.unit n r) (sym p.1) (subst (IsHeld net s.unit s.slot) same here))
    by false f g = held m q r g

pub held_without : (net : List NodeDecl) (h : Held) (s : Put) → AreHeld net h → AreHeld net (without_record h s)
held_without net h s held m q r e = by (is_at m q s) e
  where
    by : (b : Bool) → (if b then None else h m q) ≡ Some r → IsHeld net m q r
    by true g = cc
    by false g = held m q r g

-- ROWS OF PUTS AND CLEARS

abbrev pub held_after : Held → List Put → Held
held_after h [] = h
held_after h (s ∷ ss) = held_after (with_record h s) ss

abbrev pub held_cleared : Held → List Put → Held
held_cleared h [] = h
held_cleared h (s ∷ ss) = held_cleared (without_record h s) ss

-- what stands in a slot after puts: a record of one of them where there is one
pub after_there : (h X : Held) (ss : List Put) (n q : ℕ) → ((s : Put) → Member s ss → X s.unit s.slot ≡ Some s.holds) → (s : Put) → Member s ss → n ≡ s.unit → q ≡ s.slot → held_after h ss n q ≡ X n q
after_there h X [] n q all s m e f = absurd m
after_there h X (t ∷ ss) n q all s (inr m) e f = after_there (with_record h t) X ss n q (λ w i. all w (inr i)) s m e f
after_there h X (t ∷ ss) n q all s (inl same) e f = first ss (λ w i. all w (inr i)) (with_record h t) here
  where
    a : n ≡ t.unit
    a = e ∙ ap (λ (w : Put). w.unit) (sym same)

    b : q ≡ t.slot
    b = f ∙ ap (λ (w : Put). w.slot) (sym same)

    here : with_record h t n q ≡ X n q
    here =
        ap (λ c. if c then Some t.holds else h n q) (is_at_self n q t a b)
        ∙ sym (all t (inl refl))
        ∙ ap (λ m. X m t.slot) (sym a)
        ∙ ap (X n) (sym b)

    first : (ss : List Put) → ((s : Put) → Member s ss → X s.unit s.slot ≡ Some s.holds) → (g : Held) → g n q ≡ X n q → held_after g ss n q ≡ X n q
    first [] all g at = at
    first (w ∷ ws) all g at = first ws (λ v i. all v (inr i)) (with_record g w) (by (is_at n q w) refl)
      where
        by : (c : Bool) → is_at n q w ≡ c → (if c then Some w.holds else g n q) ≡ X n q
        by true k =
            let p = is_at_parts n q w k in
            sym (all w (inl refl)) ∙ ap (λ m. X m w.slot) (sym p.0) ∙ ap (X n) (sym p.1)
        by false k = at

-- and what stood there where there is none
pub after_other : (h : Held) (ss : List Put) (n q : ℕ) → ((s : Put) → Member s ss → n ≡ s.unit → q ≡ s.slot → ⊥) → held_after h ss n q ≡ h n q
after_other h [] n q none = refl
after_other h (s ∷ ss) n q none = after_other (with_record h s) ss n q (λ t i. none t (inr i)) ∙ other_slot n q s (Some s.holds) (h n q) (none s (inl refl))

-- what stands in a slot after clears
pub cleared_there : (h : Held) (ss : List Put) (n q : ℕ) (s : Put) → Member s ss → n ≡ s.unit → q ≡ s.slot → held_cleared h ss n q ≡ None
cleared_there h [] n q s m e f = absurd m
cleared_there h (t ∷ ss) n q s (inr m) e f = cleared_there (without_record h t) ss n q s m e f
cleared_there h (t ∷ ss) n q s (inl same) e f = stays ss (without_record h t) (ap (λ c. if c then None else h n q) (is_at_self n q t (e ∙ ap (λ (w : Put). w.unit) (sym same)) (f ∙ ap (λ (w : Put). w.slot) (sym same))))
  where
    stays : (ss : List Put) (g : Held) → g n q ≡ None → held_cleared g ss n q ≡ None
    stays [] g at = at
    stays (w ∷ ws) g at = stays ws (without_record g w) (by (is_at n q w))
      where
        by : (c : Bool) → (if c then None else g n q) ≡ None
        by true = refl
        by false = at

pub cleared_other : (h : Held) (ss : List Put) (n q : ℕ) → ((s : Put) → Member s ss → n ≡ s.unit → q ≡ s.slot → ⊥) → held_cleared h ss n q ≡ h n q
cleared_other h [] n q none = refl
cleared_other h (s ∷ ss) n q none = cleared_other (without_record h s) ss n q (λ t i. none t (inr i)) ∙ other_slot n q s None (h n q) (none s (inl refl))
