-- Slots, pages and addresses within their bounds.
use Rattle.std.proofs.Common.{◌≡◌, ℕ, ◌+◌, ◌-◌, ◌*◌, ◌/◌, ◌%◌, ◌^◌, ◌<◌, ◌≤◌, List, length, Option, Some, None, slice_get, refl, sym, subst, arith}
use Rattle.std.proofs.Math.Nat.{div-lt_iff_lt-mul, pow-le-pow_right, mul-le-mul, div-le_self, div-mul-le_self, mod-lt}
use Rattle.std.proofs.lemmas.Nat.{le-div, pow_pos}
use Rattle.std.proofs.lemmas.Option.{slice_get_within}
use Rattle.dn_net.specs.declared.node.NodeDecl.{NodeDecl}
use Rattle.dn_net.specs.declared.node.Unit.{Unit as UnitPart}
use Rattle.dn_net.specs.Decode.{unit_at, unit_of}
use Rattle.dn_tables.specs.declared.placement.Hop.{Hop}
use Rattle.dn_placement.specs.Order.{hop_page, page_by}
use Rattle.dn_place.specs.Sought.{HaveUnitBounds, slot_count}

-- a unit's node is there
pub unit_there : (net : List NodeDecl) (n : ℕ) (u : UnitPart) → unit_at net n ≡ Some u → n < length net
unit_there net n u e = go (slice_get net n) refl e
  where
    go : (o : Option NodeDecl) → slice_get net n ≡ o → unit_of o ≡ Some u → n < length net
    go None f g = cc
    go (Some d) f g = slice_get_within net n d f

-- a slot of a unit is one of its node
pub slot_there : (net : List NodeDecl) (n slot : ℕ) (u : UnitPart) → unit_at net n ≡ Some u → slot < u.slots → slot < slot_count (unit_at net n)
slot_there net n slot u e l = rw e l

-- the addresses of a unit's input are few
pub input_bound : (slots page : ℕ) → page ≤ 40 → slots ≤ 262144 → slots * 2 ^ page ≤ 288230376151711744
input_bound slots page p s = mul-le-mul s (pow-le-pow_right {n = 2} (omega arith) p)

pub last_within : (x size slots page : ℕ) → x + size ≤ slots * 2 ^ page → 1 ≤ size → (x + size - 1) / 2 ^ page < slots
last_within x size slots page f s = (div-lt_iff_lt-mul {k = 2 ^ page} {x = x + size - 1} {y = slots} (pow_pos page)).1 (omega arith)

-- a name within the slots of a unit is in one of them
pub name_slot : (name slots page w : ℕ) → w ≡ 2 ^ page → name < slots * 2 ^ page → name / w < slots
name_slot name slots page w is l = subst (λ v. name / v < slots) (sym is) ((div-lt_iff_lt-mul {k = 2 ^ page} {x = name} {y = slots} (pow_pos page)).1 l)

pub quotient_within : (y p : ℕ) → y / p ≤ y
quotient_within y p = div-le_self y p

pub page_bound : (net : List NodeDecl) (h : Hop) → HaveUnitBounds net → hop_page net (Some h) ≤ 40
page_bound net h f = go (unit_at net h.unit) refl
  where
    go : (o : Option UnitPart) → unit_at net h.unit ≡ o → page_by o ≤ 40
    go None e = omega arith
    go (Some u) e = (f h.unit u e).page

pub page_few : (page : ℕ) → page ≤ 40 → 2 ^ page ≤ 1099511627776
page_few page p = pow-le-pow_right {n = 2} (omega arith) p

-- the bound of an input past a slot
pub past_bound : (q page slots x : ℕ) → page ≤ 40 → slots ≤ 262144 → q ≤ slots → q * 2 ^ page + x % 2 ^ page ≤ 576460752303423488
past_bound q page slots x p s l =
    let big : q * 2 ^ page ≤ 262144 * 1099511627776 = mul-le-mul {n₁ = q} {m₁ = 2 ^ page} {n₂ = 262144} {m₂ = 1099511627776} (omega arith) (page_few page p) in
    let part : x % 2 ^ page < 2 ^ page = mod-lt x (pow_pos page) in
    omega (arith, page_few page p)

-- the slots of a hop that fits its unit
pub record Fitting (x size slots p : ℕ) : Type 0 where
  pub ordered : x / p ≤ (x + size - 1) / p
  pub last : (x + size - 1) / p < slots
  pub few : (x + size - 1) / p < 262144
  pub first_few : x / p < 262144
  pub sum : x + size ≤ 288230376151711744

pub fitting : (x asked size slots page p : ℕ) → p ≡ 2 ^ page → asked ≡ size → page ≤ 40 → slots ≤ 262144 → 1 ≤ size → x + size ≤ slots * 2 ^ page → Fitting x asked slots p
fitting x asked size slots page p e a few many some within = subst (λ (n : ℕ). Fitting x n slots p) (sym a) (subst (λ (n : ℕ). Fitting x size slots n) (sym e) (record {
  ordered = ordered;
  last = last;
  few = let l = last in omega arith;
  first_few = let l = last in let o = ordered in omega arith;
  sum = omega (arith, input_bound slots page few many);
}))
  where
    last : (x + size - 1) / 2 ^ page < slots
    last = last_within x size slots page within some

    ordered : x / 2 ^ page ≤ (x + size - 1) / 2 ^ page
    ordered = le-div (x / 2 ^ page) (x + size - 1) (2 ^ page) (pow_pos page) (omega (arith, div-mul-le_self x (2 ^ page)))
