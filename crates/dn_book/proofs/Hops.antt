-- The slots of a hop: where they begin and end, and the records that it puts into them.
use Rattle.std.proofs.Common.{◌≡◌, ℕ, zero, suc, ◌+◌, ◌-◌, ◌*◌, ◌/◌, ◌^◌, ◌<◌, ◌≤◌, length, IsTrue, arith, pow_pos}
use Rattle.std.proofs.Math.Nat.{pow-le-pow_right, mul-le-mul_right, le-div_iff_mul-le, div-lt_iff_lt-mul}
use Rattle.dn_net.specs.declared.node.Unit.{Unit as UnitPart}
use Rattle.dn_net.specs.Units.{has_plain_shape}
use Rattle.dn_tables.specs.declared.placement.Hop.{Hop}
use Rattle.dn_placement.specs.Records.{first_slot, last_slot}
use Rattle.dn_book.specs.Sets.{TakesSlots}

-- what a plain shape says of a unit
pub record HasBounds (u : UnitPart) : Type 0 where
  pub page : u.page ≤ 40
  pub slots : u.slots ≤ 262144
  pub order : u.page ≤ u.reach
  pub reach : u.reach ≤ 56
  pub ports : length u.ports ≤ 8

pub has_bounds : (u : UnitPart) → IsTrue (has_plain_shape u) → HasBounds u
has_bounds u p = record { page = grind arith; slots = grind arith; order = grind arith; reach = grind arith; ports = grind arith }

-- division keeps the order
pub div_mono : (p a b : ℕ) → zero < p → a ≤ b → a / p ≤ b / p
div_mono p a b pos l =
    let g : a / p * p ≤ a = (le-div_iff_mul-le pos).0 (omega arith) in
    let h : a / p * p ≤ b = omega arith in
    (le-div_iff_mul-le pos).1 h

-- the last slot is one of the unit's
pub last_there : (u : UnitPart) (size : ℕ) (hop : Hop) → TakesSlots u size hop → last_slot u size hop < u.slots
last_there u size hop f =
    let s = f.some in
    let w = f.fits.within in
    (div-lt_iff_lt-mul (pow_pos u.page)).1 (omega arith)

-- the first is no later than the last
pub first_before : (u : UnitPart) (size : ℕ) (hop : Hop) → TakesSlots u size hop → first_slot u hop ≤ last_slot u size hop
first_before u size hop f = let s = f.some in div_mono (2 ^ u.page) hop.x (hop.x + size - 1) (pow_pos u.page) (omega arith)

-- a loop over the slots of a hop that has come to its end is behind the last of them
pub behind_last : (u : UnitPart) (size : ℕ) (hop : Hop) (first end slot : ℕ) → TakesSlots u size hop → first ≡ first_slot u hop → end ≡ suc (last_slot u size hop) → (first ≤ end → slot ≤ end) → end ≤ slot → slot ≡ suc (last_slot u size hop)
behind_last u size hop first end slot fits begins ends auto past =
    let order = first_before u size hop fits in
    let most : slot ≤ end = auto (omega arith) in
    omega arith

-- the addresses of a hop are small
pub record AreSmall (u : UnitPart) (size : ℕ) (hop : Hop) : Type 0 where
  pub input : hop.x + size ≤ 2 ^ 58
  pub output : hop.y + size ≤ 2 ^ 56

pub are_small : (u : UnitPart) (size : ℕ) (hop : Hop) → TakesSlots u size hop → AreSmall u size hop
are_small u size hop f =
    let b : HasBounds u = has_bounds u f.plain in
    let page : 2 ^ u.page ≤ 2 ^ 40 = pow-le-pow_right (omega arith) b.page in
    let many : u.slots * 2 ^ u.page ≤ 262144 * 2 ^ u.page = mul-le-mul_right (2 ^ u.page) b.slots in
    let reach : 2 ^ u.reach ≤ 2 ^ 56 = pow-le-pow_right (omega arith) b.reach in
    let w = f.fits.within in
    let r = f.fits.reached in
    record { input = omega arith; output = omega arith }
