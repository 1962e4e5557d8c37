-- What a hop meets in a slot, and what a placement asks of it.
use Rattle.std.proofs.Common.{◌≡◌, ℕ, ◌+◌, ◌-◌, ◌/◌, ◌^◌, ◌≤◌, arith, Bool, true, false, not, if◌then◌else◌, ◌&&◌, ◌==◌, nat_eq, Option, Some, None, IsTrue, refl, sym, ap, ◌∙◌, subst, eq-eqb, eqb-true}
use Rattle.std.proofs.lemmas.Bool.{false≢true, and_parts, and_from}
use Rattle.std.proofs.lemmas.Nat.{le-div, pow_pos}
use Rattle.std.proofs.Math.Nat.{div-mul-le_self}
use Rattle.dn_net.specs.declared.node.Unit.{Unit as UnitPart}
use Rattle.dn_kind.specs.declared.unit_kind.Record.{Record}
use Rattle.dn_kind.specs.Rights.{both_rights}
use Rattle.dn_tables.specs.declared.placement.Hop.{Hop}
use Rattle.dn_placement.specs.Placement.{IsUsable, is_free, is_shared}
use Rattle.dn_placement.specs.Records.{slot_record}
use Rattle.dn_placement.specs.Slots.{Slots}
use Rattle.dn_place.specs.declared.slot_state.SlotState.{SlotState}
use Rattle.dn_place.specs.declared.slot_state.SlotState.TheVariants.{Free, Shared, Barred}
use Rattle.dn_place.specs.Slots.{AreFreeTo, is_barred_slot, is_free_slot, is_usable_slot, shared_slot, slot_of}

-- a slot that no hop may take
pub barred_is : (z : SlotState) → IsTrue (is_barred_slot z) → z ≡ Barred
barred_is Free p = absurd (false≢true p)
barred_is (Shared r) p = absurd (false≢true p)
barred_is Barred p = refl

-- is usable for none
pub barred_unusable : (port page : ℕ) (z : SlotState) → IsTrue (is_barred_slot z) → IsTrue (is_usable_slot port page z) → ⊥
barred_unusable port page z p q = false≢true (subst (λ (v : SlotState). IsTrue (is_usable_slot port page v)) (barred_is z p) q)

-- a slot that a hop may take is usable
pub usable_is : (slots : Slots) (u : UnitPart) (hop : Hop) (slot : ℕ) → IsUsable slots u hop slot → IsTrue (is_usable_slot hop.port (hop.y / 2 ^ u.page + (slot - hop.x / 2 ^ u.page)) (slot_of slots hop.unit slot))
usable_is slots u hop slot (is_free f) = subst (λ b. IsTrue (is_usable_slot hop.port (hop.y / 2 ^ u.page + (slot - hop.x / 2 ^ u.page)) (if b then Free else shared_slot (slots.has_owner hop.unit slot) (slots.held hop.unit slot)))) (sym f) refl
usable_is slots u hop slot (is_shared h o) = go (slots.is_free hop.unit slot)
  where
    page : ℕ
    page = hop.y / 2 ^ u.page + (slot - hop.x / 2 ^ u.page)

    unowned : (b : Bool) → IsTrue (not b) → b ≡ false
    unowned true p = absurd (false≢true p)
    unowned false p = refl

    shared : shared_slot (slots.has_owner hop.unit slot) (slots.held hop.unit slot) ≡ Shared (slot_record u both_rights hop slot)
    shared = ap (λ b. shared_slot b (slots.held hop.unit slot)) (unowned (slots.has_owner hop.unit slot) o) ∙ ap (shared_slot false) h

    same : IsTrue (is_usable_slot hop.port page (Shared (slot_record u both_rights hop slot)))
    same = and_from (nat_eq hop.port hop.port) (nat_eq page page) (eq-eqb hop.port hop.port refl) (eq-eqb page page refl)

    go : (b : Bool) → IsTrue (is_usable_slot hop.port page (if b then Free else shared_slot (slots.has_owner hop.unit slot) (slots.held hop.unit slot)))
    go true = refl
    go false = subst (λ (f : SlotState). IsTrue (is_usable_slot hop.port page f)) (sym shared) same

-- and a slot that is usable may be taken
pub is_usable : (slots : Slots) (u : UnitPart) (hop : Hop) (slot : ℕ) → IsTrue (is_usable_slot hop.port (hop.y / 2 ^ u.page + (slot - hop.x / 2 ^ u.page)) (slot_of slots hop.unit slot)) → IsUsable slots u hop slot
is_usable slots u hop slot usable = go (slots.is_free hop.unit slot) refl usable
  where
    page : ℕ
    page = hop.y / 2 ^ u.page + (slot - hop.x / 2 ^ u.page)

    made : (p q g h a b : ℕ) → p ≡ q → g ≡ h → a ≡ b → ◌≡◌ {A = Record} (record { port = p; page = g; rights = record { 0 = a } }) (record { port = q; page = h; rights = record { 0 = b } })
    made p q g h a b x y z = cc

    shared : (o : Bool) (r : Option Record) → slots.has_owner hop.unit slot ≡ o → slots.held hop.unit slot ≡ r → IsTrue (is_usable_slot hop.port page (shared_slot o r)) → IsUsable slots u hop slot
    shared o None e f g = absurd (false≢true g)
    shared true (Some r) e f g = absurd (false≢true g)
    shared false (Some r) e f g = both (r.rights.0 == 3) refl g
      where
        both : (b : Bool) → (r.rights.0 == 3) ≡ b → IsTrue (is_usable_slot hop.port page (if b then Shared r else Barred)) → IsUsable slots u hop slot
        both false p q = absurd (false≢true q)
        both true p q =
            let w = and_parts (nat_eq r.port hop.port) (nat_eq r.page page) q in
            let same : r ≡ slot_record u both_rights hop slot = made r.port hop.port r.page page r.rights.0 3 (eqb-true r.port hop.port w.0) (eqb-true r.page page w.1) (eqb-true r.rights.0 3 p) in
            is_shared (f ∙ ap (λ (x : Record). Some x) same) (ap not e)

    go : (b : Bool) → slots.is_free hop.unit slot ≡ b → IsTrue (is_usable_slot hop.port page (if b then Free else shared_slot (slots.has_owner hop.unit slot) (slots.held hop.unit slot))) → IsUsable slots u hop slot
    go true e g = is_free e
    go false e g = shared (slots.has_owner hop.unit slot) (slots.held hop.unit slot) refl refl g

-- what is met in a slot that is free, and in no other, is a free slot
pub free_is : (slots : Slots) (unit slot : ℕ) → is_free_slot (slot_of slots unit slot) ≡ slots.is_free unit slot
free_is slots unit slot = go (slots.is_free unit slot) refl
  where
    shared : (o : Bool) (r : Option Record) → is_free_slot (shared_slot o r) ≡ false
    shared o None = refl
    shared o (Some r) = by (not o && (r.rights.0 == 3))
      where
        by : (b : Bool) → is_free_slot (if b then Shared r else Barred) ≡ false
        by true = refl
        by false = refl

    go : (b : Bool) → slots.is_free unit slot ≡ b → is_free_slot (if b then Free else shared_slot (slots.has_owner unit slot) (slots.held unit slot)) ≡ b
    go true e = refl
    go false e = shared (slots.has_owner unit slot) (slots.held unit slot)

-- a free slot is usable for each page
pub free_usable : (port page : ℕ) (f : SlotState) → IsTrue (is_free_slot f) → IsTrue (is_usable_slot port page f)
free_usable port page Free t = refl
free_usable port page (Shared r) t = absurd (false≢true t)
free_usable port page Barred t = absurd (false≢true t)

-- slots that are free before one, from the slot of an input on, and from that of a later input on
pub free_onward : (slots : Slots) (unit x to page free : ℕ) → x ≤ to → AreFreeTo slots unit (x / 2 ^ page) free → AreFreeTo slots unit (to / 2 ^ page) free
free_onward slots unit x to page free l all = λ slot a b. all slot (let m : x / 2 ^ page ≤ to / 2 ^ page = le-div (x / 2 ^ page) to (2 ^ page) (pow_pos page) (omega (arith, div-mul-le_self x (2 ^ page), l)) in omega (arith, m, a)) b

-- before the first slot there is none
pub none_free : (slots : Slots) (unit first : ℕ) → AreFreeTo slots unit first 0
none_free slots unit first = λ slot a b. absurd (omega (arith, b))
