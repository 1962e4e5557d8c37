-- Hops that fit their units, and the records that they put into slots.
use Rattle.std.proofs.Common.{◌≡◌, ℕ, ◌+◌, ◌-◌, ◌*◌, ◌/◌, ◌^◌, ◌<◌, ◌≤◌, Bool, true, false, if◌then◌else◌, ◌&&◌, nat_eq, nat_le, nat_lt, List, length, drop, get_or, add-one, pow_pos, pow-add, leb-true, eqb-true, lt-ltb, Option, Some, None, is_some, IsTrue, refl, sym, ap, ◌∙◌, subst, arith}
use Rattle.std.proofs.Math.Nat.{pow-le-pow_right, mul-le-mul_right}
use Rattle.std.proofs.lemmas.Option.{same_Some, slice_get_within}
use Rattle.std.proofs.Math.ListN.{drop_of_length-le}
use Rattle.std.proofs.Math.Seq.{drop-cons}
use Rattle.dn_net.specs.declared.node.NodeDecl.{NodeDecl}
use Rattle.dn_net.specs.declared.node.Unit.{Unit as UnitPart}
use Rattle.dn_net.specs.Decode.{unit_at}
use Rattle.dn_net.specs.Units.{has_plain_shape, has_plain_units}
use Rattle.dn_net.proofs.Plain.{plain_at}
use Rattle.dn_kind.specs.declared.rights.Rights.{Rights}
use Rattle.dn_kind.specs.declared.unit_kind.Record.{Record}
use Rattle.dn_kind.specs.Kind.{is_within}
use Rattle.dn_kind.specs.Rights.{are_rights}
use Rattle.dn_kind.specs.Tables.{IsHeld}
use Rattle.dn_kind.specs.Units.{unit_shape}
use Rattle.dn_kind.proofs.Outputs.{HasPages, has_pages}
use Rattle.dn_tables.specs.declared.placement.Hop.{Hop}
use Rattle.dn_placement.specs.Records.{first_slot, last_slot, slot_record, hop_record_by, hop_record, hop_rights, hops_records, or_record}
use Rattle.dn_view.specs.Records.{IsFitted}
use Rattle.dn_view.proofs.Pages.{IsSlotOfHop, slot_of_hop}

-- a unit's shape in numbers
pub record IsSmall (u : UnitPart) : Type 0 where
  pub page : u.page ≤ 40
  pub order : u.page ≤ u.reach
  pub reach : u.reach ≤ 56
  pub slots : u.slots ≤ 262144

few_slots : (u : UnitPart) → IsTrue (has_plain_shape u) → u.slots ≤ 262144
few_slots u p = grind arith

pub small_unit : (net : List NodeDecl) (node : ℕ) (u : UnitPart) → IsTrue (has_plain_units net) → unit_at net node ≡ Some u → IsSmall u
small_unit net node u plain at =
    let p : IsTrue (has_plain_shape u) = plain_at net node u plain at in
    let h : HasPages (unit_shape u) = has_pages (unit_shape u) p in
    record { page = h.page; order = h.order; reach = h.reach; slots = few_slots u p }

-- the ends of a hop in numbers
pub record HasEnds (size : ℕ) (hop : Hop) : Type 0 where
  pub x : hop.x + size ≤ 288230376151711744
  pub y : hop.y + size ≤ 72057594037927936

pub small_ends : (net : List NodeDecl) (size : ℕ) (hop : Hop) → IsTrue (has_plain_units net) → IsFitted net size hop → HasEnds size hop
small_ends net size hop plain f =
    let s : IsSmall f.unit = small_unit net hop.unit f.unit plain f.is_unit in
    let a : 2 ^ f.unit.page ≤ 2 ^ 40 = pow-le-pow_right (omega arith) s.page in
    let b : 2 ^ f.unit.reach ≤ 2 ^ 56 = pow-le-pow_right (omega arith) s.reach in
    let c : f.unit.slots * 2 ^ f.unit.page ≤ 262144 * 2 ^ f.unit.page = mul-le-mul_right (2 ^ f.unit.page) s.slots in
    let d : 262144 * 2 ^ f.unit.page ≤ 262144 * 2 ^ 40 = omega arith in
    let x : hop.x + size ≤ f.unit.slots * 2 ^ f.unit.page = f.fits.within in
    let y : hop.y + size ≤ 2 ^ f.unit.reach = f.fits.reached in
    record { x = omega arith; y = omega arith }

-- the first record of hops, hop by hop
record_by : (o s : Option Record) (b : Bool) → is_some o ≡ b → or_record o s ≡ (if b then o else s)
record_by None s false e = refl
record_by None s true e = cc
record_by (Some r) s true e = refl
record_by (Some r) s false e = cc

pub hops_next : (net : List NodeDecl) (size : ℕ) (rights : Rights) (own place : ℕ) (hops : List Hop) (node slot : ℕ) (d : Hop) → place < length hops → hops_records net size rights own place (drop place hops) node slot ≡ or_record (hop_record net size (hop_rights rights own place) (get_or hops place d) node slot) (hops_records net size rights own (place + 1) (drop (place + 1) hops) node slot)
hops_next net size rights own place hops node slot d l =
    ap (λ hs. hops_records net size rights own place hs node slot) (drop-cons hops place d l)
    ∙ ap (λ n. or_record (hop_record net size (hop_rights rights own place) (get_or hops place d) node slot) (hops_records net size rights own n (drop n hops) node slot)) (sym (add-one place))

-- the same, where the rights and the record of the hop at the place were found
pub hops_on : (net : List NodeDecl) (size : ℕ) (rights these : Rights) (own place : ℕ) (hops : List Hop) (node slot : ℕ) (d : Hop) (this : Option Record) → place < length hops → these ≡ hop_rights rights own place → this ≡ hop_record net size these (get_or hops place d) node slot → hops_records net size rights own place (drop place hops) node slot ≡ or_record this (hops_records net size rights own (place + 1) (drop (place + 1) hops) node slot)
hops_on net size rights these own place hops node slot d this l er e =
    hops_next net size rights own place hops node slot d l
    ∙ ap (λ o. or_record o (hops_records net size rights own (place + 1) (drop (place + 1) hops) node slot)) (sym (e ∙ ap (λ r. hop_record net size r (get_or hops place d) node slot) er))

-- a record is found at a hop
pub hop_found : (whole this rest : Option Record) → whole ≡ or_record this rest → true ≡ is_some this → this ≡ whole
hop_found whole this rest e f = sym (e ∙ record_by this rest true (sym f))

-- or further on
pub hop_passed : (whole this rest : Option Record) → whole ≡ or_record this rest → false ≡ is_some this → whole ≡ rest
hop_passed whole this rest e f = e ∙ record_by this rest false (sym f)

-- the last hop is behind
pub hops_end : (net : List NodeDecl) (size : ℕ) (rights : Rights) (own place : ℕ) (hops : List Hop) (node slot : ℕ) → length hops ≤ place → hops_records net size rights own place (drop place hops) node slot ≡ None
hops_end net size rights own place hops node slot l = ap (λ hs. hops_records net size rights own place hs node slot) (drop_of_length-le hops l)

-- the record that a hop puts into a slot, by the tests for it
pub record IsHopRecord (net : List NodeDecl) (size : ℕ) (rights : Rights) (hop : Hop) (node slot : ℕ) (u : UnitPart) (r : Record) : Type 0 where
  pub here : node ≡ hop.unit
  pub from : hop.x / 2 ^ u.page ≤ slot
  pub to : slot ≤ (hop.x + size - 1) / 2 ^ u.page
  pub is : r ≡ slot_record u rights hop slot

pub hop_record_is : (net : List NodeDecl) (size : ℕ) (rights : Rights) (hop : Hop) (node slot : ℕ) (u : UnitPart) (r : Record) → unit_at net hop.unit ≡ Some u → hop_record net size rights hop node slot ≡ Some r → IsHopRecord net size rights hop node slot u r
hop_record_is net size rights hop node slot u r at e = by (nat_eq node hop.unit) (nat_le (first_slot u hop) slot) (nat_le slot (last_slot u size hop)) refl refl refl (sym (ap (λ o. hop_record_by o size rights hop node slot) at) ∙ e)
  where
    by : (b c d : Bool) → nat_eq node hop.unit ≡ b → nat_le (first_slot u hop) slot ≡ c → nat_le slot (last_slot u size hop) ≡ d → (if b && (c && d) then Some (slot_record u rights hop slot) else None) ≡ Some r → IsHopRecord net size rights hop node slot u r
    by true true true eb ec ed s = record { here = eqb-true node hop.unit eb; from = leb-true (first_slot u hop) slot ec; to = leb-true slot (last_slot u size hop) ed; is = sym (same_Some (slot_record u rights hop slot) r s) }
    by true true false eb ec ed s = cc
    by true false d eb ec ed s = cc
    by false c d eb ec ed s = cc

-- a unit can hold it
pub hop_record_held : (net : List NodeDecl) (size : ℕ) (rights : Rights) (hop : Hop) (node slot : ℕ) (r : Record) → IsTrue (has_plain_units net) → 1 ≤ size → IsTrue (are_rights rights) → IsFitted net size hop → hop_record net size rights hop node slot ≡ Some r → IsHeld net node slot r
hop_record_held net size rights hop node slot r plain some are f e =
    let u : UnitPart = f.unit in
    let s : IsSmall u = small_unit net hop.unit u plain f.is_unit in
    let k : IsHopRecord net size rights hop node slot u r = hop_record_is net size rights hop node slot u r f.is_unit e in
    let sum : u.reach - u.page + u.page ≡ u.reach = let o = s.order in omega arith in
    let whole : 2 ^ u.reach ≡ 2 ^ (u.reach - u.page) * 2 ^ u.page = sym (ap (λ n. 2 ^ n) sum) ∙ pow-add 2 (u.reach - u.page) u.page in
    let reached : hop.y + size ≤ 2 ^ (u.reach - u.page) * 2 ^ u.page = subst (λ n. hop.y + size ≤ n) whole f.fits.reached in
    let in_hop : IsSlotOfHop u.slots (2 ^ (u.reach - u.page)) slot (hop.y / 2 ^ u.page + (slot - hop.x / 2 ^ u.page)) = slot_of_hop (2 ^ u.page) hop.x hop.y size u.slots (2 ^ (u.reach - u.page)) slot (pow_pos u.page) some f.fits.agree f.fits.within reached k.from k.to in
    let port : nat_lt hop.port (length u.ports) ≡ true = lt-ltb hop.port (length u.ports) (slice_get_within u.ports hop.port f.fits.node f.fits.is_port) in
    let page : nat_lt (slot_record u rights hop slot).page (2 ^ (u.reach - u.page)) ≡ true = lt-ltb (slot_record u rights hop slot).page (2 ^ (u.reach - u.page)) in_hop.below in
    let within : IsTrue (is_within (unit_shape u) (slot_record u rights hop slot)) = rw (port, page) refl in
    record {
      unit = (u, ap (unit_at net) k.here ∙ f.is_unit, in_hop.there, subst (λ (t : Record). IsTrue (is_within (unit_shape u) t)) (sym k.is) within);
      rights = subst (λ (t : Record). IsTrue (are_rights t.rights)) (sym k.is) are;
    }
