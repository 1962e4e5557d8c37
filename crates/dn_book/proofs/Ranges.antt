-- The slots of a hop one after the other, with their records.
use Rattle.std.proofs.Common.{◌≡◌, ℕ, zero, suc, ◌+◌, ◌-◌, ◌*◌, ◌/◌, ◌%◌, ◌^◌, ◌<◌, ◌≤◌, ◌⊎◌, inl, inr, false, ◌==◌, filter, nat_lt, List, [], ◌∷◌, ◌++◌, length, slice_get, Option, Some, IsTrue, refl, sym, ap, ◌∙◌, subst, arith, pow_pos, pow-add, lt-ltb, add-mul, div-add-mod', lt_of_mul-lt-mul_right}
use Rattle.std.specs.List.{All}
use Rattle.std.proofs.Math.Nat.{le-div_iff_mul-le}
use Rattle.std.proofs.lemmas.Option.{same_Some, get_or_from_slice_get, slice_get_within}
use Rattle.dn_base.proofs.Booleans.{and_parts, and_from}
use Rattle.dn_net.specs.declared.node.Unit.{Unit as UnitPart}
use Rattle.dn_base.specs.declared.device.TableEvent.{TableEvent}
use Rattle.dn_net.specs.Chain.{Member}
use Rattle.dn_net.proofs.Members.{member_filter}
use Rattle.dn_kind.specs.declared.rights.Rights.{Rights}
use Rattle.dn_kind.specs.declared.unit_kind.Record.{Record}
use Rattle.dn_kind.specs.Kind.{Meaning, IsLawful, IsPackable, is_plain_unit_shape, is_within}
use Rattle.dn_kind.specs.Rights.{are_rights}
use Rattle.dn_kind.specs.Units.{fits_shape, is_shaped, unit_shape}
use Rattle.dn_kind.proofs.Held.{kind_lawful}
use Rattle.dn_tables.specs.declared.placement.Hop.{Hop}
use Rattle.dn_tables.specs.declared.table.NodeTable.{NodeTable}
use Rattle.dn_tables.specs.declared.table.SlotUse.{SlotUse}
use Rattle.dn_tables.specs.Set.{IsEmpty, IsPackableIn, IsSet, fits_kinds, has_slot, has_slot_by, packed_by, packed_for, packed_in, unit_in, unit_of_table, width_in, width_of_table, words_of_table}
use Rattle.dn_tables.proofs.Kept.{IsSlot, slot_in_set, table_of_unit}
use Rattle.dn_tables.proofs.Slots.{IsKindOf, kind_of_slot}
use Rattle.dn_placement.specs.Records.{first_slot, last_slot, slot_record}
use Rattle.dn_book.specs.Sets.{AreOpen, ArePut, TakesSlots, after_puts, is_used_by, put_at}
use Rattle.dn_book.specs.Writes.{Put, hop_slots_by, slots_from}
use Rattle.dn_book.proofs.Frames.{CanStand, SameFrame, empty_stays, frame_puts}
use Rattle.dn_book.proofs.Hops.{HasBounds, has_bounds, first_before, last_there}

-- one slot more
pub slots_more : (u : UnitPart) (r : Rights) (hop : Hop) (from k : ℕ) → slots_from u r hop from (suc k) ≡ slots_from u r hop from k ++ put_at hop.unit (from + k) (slot_record u r hop (from + k)) ∷ []
slots_more u r hop from zero =
    let e : from ≡ from + zero = omega arith in
    ap (λ n. put_at hop.unit n (slot_record u r hop n) ∷ []) e
slots_more u r hop from (suc k) =
    let e : suc from + k ≡ from + suc k = omega arith in
    ap (λ (l : List Put). put_at hop.unit from (slot_record u r hop from) ∷ l) (slots_more u r hop (suc from) k)
    ∙ ap (λ n. put_at hop.unit from (slot_record u r hop from) ∷ (slots_from u r hop (suc from) k ++ put_at hop.unit n (slot_record u r hop n) ∷ [])) e

-- the first slots and the others
pub slots_split : (u : UnitPart) (r : Rights) (hop : Hop) (from k n : ℕ) → slots_from u r hop from (k + n) ≡ slots_from u r hop from k ++ slots_from u r hop (from + k) n
slots_split u r hop from zero n =
    let e : zero + n ≡ n = omega arith in
    let f : from ≡ from + zero = omega arith in
    ap (slots_from u r hop from) e ∙ ap (λ m. slots_from u r hop m n) f
slots_split u r hop from (suc k) n =
    let e : suc k + n ≡ suc (k + n) = omega arith in
    let f : suc from + k ≡ from + suc k = omega arith in
    ap (slots_from u r hop from) e
    ∙ ap (λ (l : List Put). put_at hop.unit from (slot_record u r hop from) ∷ l) (slots_split u r hop (suc from) k n)
    ∙ ap (λ m. put_at hop.unit from (slot_record u r hop from) ∷ (slots_from u r hop (suc from) k ++ slots_from u r hop m n)) f

-- what is known of one of the slots
pub record IsOfHop (u : UnitPart) (r : Rights) (hop : Hop) (from count : ℕ) (s : Put) : Type 0 where
  pub low : from ≤ s.slot
  pub high : s.slot < from + count
  pub is : s ≡ put_at hop.unit s.slot (slot_record u r hop s.slot)

pub of_hop : (u : UnitPart) (r : Rights) (hop : Hop) (from count : ℕ) (s : Put) → Member s (slots_from u r hop from count) → IsOfHop u r hop from count s
of_hop u r hop from zero s m = absurd m
of_hop u r hop from (suc k) s (inl e) =
    let f : from ≡ s.slot = ap (λ (t : Put). t.slot) e in
    record { low = omega arith; high = omega arith; is = sym e ∙ ap (λ n. put_at hop.unit n (slot_record u r hop n)) f }
of_hop u r hop from (suc k) s (inr m) =
    let i = of_hop u r hop (suc from) k s m in
    let l = i.low in
    let h = i.high in
    record { low = omega arith; high = omega arith; is = i.is }

pub in_hop : (u : UnitPart) (r : Rights) (hop : Hop) (from count q : ℕ) → from ≤ q → q < from + count → Member (put_at hop.unit q (slot_record u r hop q)) (slots_from u r hop from count)
in_hop u r hop from zero q l h = absurd (omega arith)
in_hop u r hop from (suc k) q l h = go (cases from q l) (λ m. in_hop u r hop (suc from) k q m (omega arith))
  where
    cases : (from q : ℕ) → from ≤ q → (from ≡ q) ⊎ (suc from ≤ q)
    cases from q l = grind arith

    go : (from ≡ q) ⊎ (suc from ≤ q) → (suc from ≤ q → Member (put_at hop.unit q (slot_record u r hop q)) (slots_from u r hop (suc from) k)) → Member (put_at hop.unit q (slot_record u r hop q)) (slots_from u r hop from (suc k))
    go (inl e) later = inl (ap (λ n. put_at hop.unit n (slot_record u r hop n)) e)
    go (inr m) later = inr (later m)

-- the output page of a slot is below the unit's reach
page_below : (p y x q size reach : ℕ) → zero < p → x % p ≡ y % p → x / p ≤ q → q ≤ (x + size - 1) / p → 1 ≤ size → y + size ≤ reach → (y / p + (q - x / p)) * p < reach
page_below p y x q size reach pos same low high some l =
    let a : q * p ≤ x + size - 1 = (le-div_iff_mul-le pos).0 high in
    let b : x / p * p + x % p ≡ x = div-add-mod' x p in
    let c : y / p * p + y % p ≡ y = div-add-mod' y p in
    let d : x / p + (q - x / p) ≡ q = omega arith in
    let e : (x / p + (q - x / p)) * p ≡ x / p * p + (q - x / p) * p = add-mul (x / p) (q - x / p) p in
    let f : (y / p + (q - x / p)) * p ≡ y / p * p + (q - x / p) * p = add-mul (y / p) (q - x / p) p in
    let g : (x / p + (q - x / p)) * p ≡ q * p = ap (λ n. n * p) d in
    omega arith

-- the record of a slot is one that the unit can hold
pub record_within : (u : UnitPart) (r : Rights) (hop : Hop) (size q : ℕ) → TakesSlots u size hop → first_slot u hop ≤ q → q ≤ last_slot u size hop → IsTrue (is_within (unit_shape u) (slot_record u r hop q))
record_within u r hop size q f low high =
    let b : HasBounds u = has_bounds u f.plain in
    let o = b.order in
    let s : u.reach - u.page + u.page ≡ u.reach = omega arith in
    let w : 2 ^ u.reach ≡ 2 ^ (u.reach - u.page) * 2 ^ u.page = ap (λ n. 2 ^ n) (sym s) ∙ pow-add 2 (u.reach - u.page) u.page in
    let l : (hop.y / 2 ^ u.page + (q - hop.x / 2 ^ u.page)) * 2 ^ u.page < 2 ^ u.reach = page_below (2 ^ u.page) hop.y hop.x q size (2 ^ u.reach) (pow_pos u.page) f.fits.agree low high f.some f.fits.reached in
    let m : (hop.y / 2 ^ u.page + (q - hop.x / 2 ^ u.page)) * 2 ^ u.page < 2 ^ (u.reach - u.page) * 2 ^ u.page = subst (λ n. (hop.y / 2 ^ u.page + (q - hop.x / 2 ^ u.page)) * 2 ^ u.page < n) w l in
    and_from (nat_lt hop.port (length u.ports)) (nat_lt (hop.y / 2 ^ u.page + (q - hop.x / 2 ^ u.page)) (2 ^ (u.reach - u.page)))
    (lt-ltb hop.port (length u.ports) (slice_get_within u.ports hop.port f.fits.node f.fits.is_port))
    (lt-ltb (hop.y / 2 ^ u.page + (q - hop.x / 2 ^ u.page)) (2 ^ (u.reach - u.page)) (lt_of_mul-lt-mul_right (2 ^ u.page) m))

-- a record that may be put into a slot of a set
pub record FitsPut (kinds : List Meaning) (set : List NodeTable) (s : Put) : Type 0 where
  pub there : IsTrue (has_slot set s.unit s.slot)
  pub packable : IsPackableIn kinds set s.unit s.holds
  pub can : CanStand set s.unit s.slot (packed_in kinds set s.unit s.holds)

-- words that may stand in a slot that is there
pub can_stand : (kinds : List Meaning) (set : List NodeTable) (node slot : ℕ) → IsSet set → IsTrue (has_slot set node slot) → (vs : List ℕ) → length vs ≡ width_in set node → (u : UnitPart) → unit_in set node ≡ Some u → CanStand set node slot vs
can_stand kinds set node slot is_set there vs wide u e =
    let k = table_of_unit set node u e in
    let s : IsSlot set node slot k.0 = slot_in_set set set node node slot k.0 refl refl is_set there (sym (get_or_from_slice_get set node k.0 k.0 k.1)) in
    record {
      table = k.0;
      at = k.1;
      wide = wide;
      room = subst (λ o. slot * width_of_table o + width_of_table o ≤ length (words_of_table o)) (sym k.1) s.room;
    }

-- the words of a record that may be put are as many as the slot has
pub packed_length : (kinds : List Meaning) (set : List NodeTable) (node slot : ℕ) (r : Record) → All IsLawful kinds → IsSet set → IsTrue (fits_kinds kinds set) → IsTrue (has_slot set node slot) → (u : UnitPart) → unit_in set node ≡ Some u → IsPackableIn kinds set node r → length (packed_in kinds set node r) ≡ width_in set node
packed_length kinds set node slot r lawful is_set fits there u e packable =
    let k = table_of_unit set node u e in
    let s : IsSlot set node slot k.0 = slot_in_set set set node node slot k.0 refl refl is_set there (sym (get_or_from_slice_get set node k.0 k.0 k.1)) in
    let kind : IsKindOf kinds k.0 s.part = kind_of_slot kinds set node slot k.0 s fits in
    let at : unit_in set node ≡ Some s.part = ap unit_of_table k.1 ∙ s.unit in
    let law : IsLawful kind.kind = kind_lawful kinds s.part.kind kind.kind lawful kind.found in
    ap (λ o. length (packed_for kinds o r)) at
    ∙ ap (λ o. length (packed_by o s.part r)) kind.found
    ∙ law.width (unit_shape s.part) r (packable s.part kind.kind at kind.found)
    ∙ kind.wide
    ∙ sym (ap width_of_table k.1)

-- the record of a slot of a hop may be put there
pub fits_put : (kinds : List Meaning) (set : List NodeTable) (u : UnitPart) (r : Rights) (hop : Hop) (size q : ℕ) → All IsLawful kinds → IsSet set → IsTrue (fits_kinds kinds set) → unit_in set hop.unit ≡ Some u → IsTrue (is_shaped kinds u) → TakesSlots u size hop → IsTrue (are_rights r) → first_slot u hop ≤ q → q ≤ last_slot u size hop → FitsPut kinds set (put_at hop.unit q (slot_record u r hop q))
fits_put kinds set u r hop size q lawful is_set fits e shaped f rights low high =
    record { there = there; packable = packable; can = can_stand kinds set hop.unit q is_set there (packed_in kinds set hop.unit (slot_record u r hop q)) (packed_length kinds set hop.unit q (slot_record u r hop q) lawful is_set fits there u e packable) u e }
  where
    there : IsTrue (has_slot set hop.unit q)
    there =
        let l = last_there u size hop f in
        subst (λ o. IsTrue (has_slot_by o q)) (sym e) (lt-ltb q u.slots (omega arith))

    packable : IsPackableIn kinds set hop.unit (slot_record u r hop q)
    packable v kind ev ek =
        let same : u ≡ v = same_Some u v (sym e ∙ ev) in
        subst (λ w. slice_get kinds w.kind ≡ Some kind → IsPackable kind (unit_shape w) (slot_record u r hop q)) same
        (λ at.
        let parts = and_parts (is_plain_unit_shape (unit_shape u)) (fits_shape (slice_get kinds u.kind) (unit_shape u)) shaped in
        record {
          plain = parts.0;
          fits = subst (λ o. IsTrue (fits_shape o (unit_shape u))) at parts.1;
          within = record_within u r hop size q f low high;
          rights = rights;
        })
        ek

-- what is known where the records of a hop are put into a set
pub record HopPuts (kinds : List Meaning) (set : List NodeTable) (u : UnitPart) (size : ℕ) (r : Rights) (hop : Hop) : Type 0 where
  pub lawful : All IsLawful kinds
  pub is_set : IsSet set
  pub fits : IsTrue (fits_kinds kinds set)
  pub at : unit_in set hop.unit ≡ Some u
  pub shaped : IsTrue (is_shaped kinds u)
  pub fit : TakesSlots u size hop
  pub rights : IsTrue (are_rights r)
  pub opened : AreOpen set (hop_slots_by (Some u) size r hop)

-- how many slots a hop has
abbrev pub slot_count : UnitPart → ℕ → Hop → ℕ
slot_count u size hop = suc (last_slot u size hop) - first_slot u hop

-- each record of a hop may be put
pub hop_fits_put : (kinds : List Meaning) (set : List NodeTable) (u : UnitPart) (size : ℕ) (r : Rights) (hop : Hop) → HopPuts kinds set u size r hop → (s : Put) → Member s (hop_slots_by (Some u) size r hop) → FitsPut kinds set s
hop_fits_put kinds set u size r hop h s m =
    let i = of_hop u r hop (first_slot u hop) (slot_count u size hop) s m in
    let b = first_before u size hop h.fit in
    let l = i.low in
    let g = i.high in
    subst (FitsPut kinds set) (sym i.is) (fits_put kinds set u r hop size s.slot h.lawful h.is_set h.fits h.at h.shaped h.fit h.rights l (omega arith))

-- what is known before the record of one slot is put
pub record IsTurn (kinds : List Meaning) (set : List NodeTable) (s : Put) : Type 0 where
  pub fits : IsTrue (fits_kinds kinds set)
  pub there : IsTrue (has_slot set s.unit s.slot)
  pub opened : AreOpen set (s ∷ [])
  pub packable : IsPackableIn kinds set s.unit s.holds

-- slots that are open stay so while the records of others are put
pub open_after : (kinds : List Meaning) (ss ys : List Put) (log log' : Option (List TableEvent)) (set set' : List NodeTable) → ((t : Put) → Member t ss → FitsPut kinds set t) → ((s t : Put) → Member s ys → Member t ss → s.unit ≡ t.unit → s.slot ≡ t.slot → ⊥) → AreOpen set ys → ArePut kinds ss false log log' set set' → AreOpen set' ys
open_after kinds ss ys log log' set set' all apart opened put s m used =
    let free : List Put = filter (is_used_by 0 set) ss in
    let made : set' ≡ after_puts kinds set free = put.done refl in
    let frame : SameFrame set set' = subst (SameFrame set) (sym made) (frame_puts kinds set free) in
    let before : IsTrue (is_used_by 0 set s) = sym (ap (λ (u : SlotUse). u.uses == 0) (frame.use_of s.unit s.slot)) ∙ used in
    subst (λ l. IsEmpty l s.unit s.slot) (sym made)
    (empty_stays kinds set free s.unit s.slot (λ t i. (all t (member_filter (is_used_by 0 set) ss t i).0).can) (λ t i. apart s t m (member_filter (is_used_by 0 set) ss t i).0) (opened s m before))

-- what is known of one slot after the records of others were put
pub turn_of : (kinds : List Meaning) (ss : List Put) (log log' : Option (List TableEvent)) (set set' : List NodeTable) (s : Put) → IsTrue (fits_kinds kinds set) → ((t : Put) → Member t ss → FitsPut kinds set t) → FitsPut kinds set s → ((t : Put) → Member t ss → s.unit ≡ t.unit → s.slot ≡ t.slot → ⊥) → AreOpen set (s ∷ []) → ArePut kinds ss false log log' set set' → IsTurn kinds set' s
turn_of kinds ss log log' set set' s fits all here apart opened put =
    let made : set' ≡ after_puts kinds set (filter (is_used_by 0 set) ss) = put.done refl in
    let frame : SameFrame set set' = subst (SameFrame set) (sym made) (frame_puts kinds set (filter (is_used_by 0 set) ss)) in
    record {
      fits = put.fits.wide kinds fits;
      there = subst (λ o. IsTrue (has_slot_by o s.slot)) (sym (frame.unit s.unit)) here.there;
      opened = open_after kinds ss (s ∷ []) log log' set set' all one opened put;
      packable = λ u kind e at. here.packable u kind (sym (frame.unit s.unit) ∙ e) at;
    }
  where
    one : (x t : Put) → Member x (s ∷ []) → Member t ss → x.unit ≡ t.unit → x.slot ≡ t.slot → ⊥
    one x t (inr m) i e f = m
    one x t (inl same) i e f = apart t i (ap (λ (y : Put). y.unit) same ∙ e) (ap (λ (y : Put). y.slot) same ∙ f)

-- the next slot of a hop
pub hop_turn : (kinds : List Meaning) (set set' : List NodeTable) (u : UnitPart) (size : ℕ) (r : Rights) (hop : Hop) (q : ℕ) (log log' : Option (List TableEvent)) → HopPuts kinds set u size r hop → first_slot u hop ≤ q → q < suc (last_slot u size hop) → ArePut kinds (slots_from u r hop (first_slot u hop) (q - first_slot u hop)) false log log' set set' → IsTurn kinds set' (put_at hop.unit q (slot_record u r hop q))
hop_turn kinds set set' u size r hop q log log' h low high put =
    turn_of kinds (slots_from u r hop first (q - first)) log log' set set' (put_at hop.unit q (slot_record u r hop q)) h.fits (λ t m. all t m) (fits_put kinds set u r hop size q h.lawful h.is_set h.fits h.at h.shaped h.fit h.rights low (omega arith)) apart open_here put
  where
    first : ℕ
    first = first_slot u hop

    all : (t : Put) → Member t (slots_from u r hop (first_slot u hop) (q - first_slot u hop)) → FitsPut kinds set t
    all t m =
        let i = of_hop u r hop (first_slot u hop) (q - first_slot u hop) t m in
        let l = i.low in
        let g = i.high in
        subst (FitsPut kinds set) (sym i.is) (fits_put kinds set u r hop size t.slot h.lawful h.is_set h.fits h.at h.shaped h.fit h.rights l (omega arith))

    apart : (t : Put) → Member t (slots_from u r hop (first_slot u hop) (q - first_slot u hop)) → hop.unit ≡ t.unit → q ≡ t.slot → ⊥
    apart t m e f =
        let i = of_hop u r hop (first_slot u hop) (q - first_slot u hop) t m in
        let g = i.high in
        absurd (omega arith)

    open_here : AreOpen set (put_at hop.unit q (slot_record u r hop q) ∷ [])
    open_here t (inr m) used = absurd m
    open_here t (inl e) used =
        let count : first_slot u hop + slot_count u size hop ≡ suc (last_slot u size hop) = omega arith in
        h.opened t (subst (λ x. Member x (slots_from u r hop (first_slot u hop) (slot_count u size hop))) e (in_hop u r hop (first_slot u hop) (slot_count u size hop) q low (omega arith))) used

-- THE SLOTS OF A HOP, ONE AFTER THE OTHER

-- the slots of a hop before one of them
abbrev pub so_far : UnitPart → Rights → Hop → ℕ → List Put
so_far u r hop q = slots_from u r hop (first_slot u hop) (q - first_slot u hop)

-- none yet
pub so_far_none : (u : UnitPart) (r : Rights) (hop : Hop) (q : ℕ) → q ≡ first_slot u hop → [] ≡ so_far u r hop q
so_far_none u r hop q e =
    let z : 0 ≡ q - first_slot u hop = omega arith in
    ap (slots_from u r hop (first_slot u hop)) z

-- one slot more
pub so_far_more : (u : UnitPart) (r : Rights) (hop : Hop) (q : ℕ) → first_slot u hop ≤ q → so_far u r hop (q + 1) ≡ so_far u r hop q ++ put_at hop.unit q (slot_record u r hop q) ∷ []
so_far_more u r hop q low =
    let e : q + 1 - first_slot u hop ≡ suc (q - first_slot u hop) = omega arith in
    let f : first_slot u hop + (q - first_slot u hop) ≡ q = omega arith in
    ap (slots_from u r hop (first_slot u hop)) e
    ∙ slots_more u r hop (first_slot u hop) (q - first_slot u hop)
    ∙ ap (λ n. so_far u r hop q ++ put_at hop.unit n (slot_record u r hop n) ∷ []) f

-- all of them
pub so_far_all : (u : UnitPart) (size : ℕ) (r : Rights) (hop : Hop) (q : ℕ) → q ≡ suc (last_slot u size hop) → so_far u r hop q ≡ hop_slots_by (Some u) size r hop
so_far_all u size r hop q e = ap (λ n. slots_from u r hop (first_slot u hop) (n - first_slot u hop)) e

-- those so far are the first of all
pub rest_of_hop : (u : UnitPart) (size : ℕ) (r : Rights) (hop : Hop) (q : ℕ) → first_slot u hop ≤ q → q < suc (last_slot u size hop) → (rest : List Put) × (hop_slots_by (Some u) size r hop ≡ (so_far u r hop q ++ put_at hop.unit q (slot_record u r hop q) ∷ []) ++ rest)
rest_of_hop u size r hop q low high =
    let k : ℕ = q + 1 - first_slot u hop in
    let n : ℕ = last_slot u size hop - q in
    let e : suc (last_slot u size hop) - first_slot u hop ≡ k + n = omega arith in
    (slots_from u r hop (first_slot u hop + k) n, ap (slots_from u r hop (first_slot u hop)) e ∙ slots_split u r hop (first_slot u hop) k n ∙ ap (λ (l : List Put). l ++ slots_from u r hop (first_slot u hop + k) n) (so_far_more u r hop q low))

-- what a hop shares with all of its slots that are there
pub slot_there : (set : List NodeTable) (u : UnitPart) (size : ℕ) (hop : Hop) (q : ℕ) → unit_in set hop.unit ≡ Some u → TakesSlots u size hop → q < suc (last_slot u size hop) → IsTrue (has_slot set hop.unit q)
slot_there set u size hop q e f high =
    let l = last_there u size hop f in
    subst (λ o. IsTrue (has_slot_by o q)) (sym e) (lt-ltb q u.slots (omega arith))
