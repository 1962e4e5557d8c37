-- Addresses, and the pages in which they lie.
use Rattle.std.proofs.Common.{◌≡◌, refl, sym, pow-add, Bool, true, false, ◌&&◌, IsTrue, ℕ, ◌+◌, ◌-◌, ◌*◌, ◌/◌, ◌%◌, ◌^◌, ◌<◌, ◌≤◌, max, min, ap, ◌∙◌, subst, arith}
use Rattle.std.proofs.Math.Nat.{le-div_iff_mul-le, div-lt_iff_lt-mul, div-add-mod', mod-lt, add-mul, lt_of_mul-lt-mul_right, mul-le-mul_right, pow-le-pow_right}
use Rattle.std.proofs.lemmas.Bool.{false≢true}
use Rattle.std.proofs.lemmas.Nat.{div-mul-add}

-- where an address lies in a page, in numbers
pub record InPage (w x page : ℕ) : Type 0 where
  pub from : page * w ≤ x
  pub to : x < page * w + w
  pub rest : x % w ≡ x - page * w

pub in_page : (w x : ℕ) → 0 < w → InPage w x (x / w)
in_page w x pos =
    let e : x / w * w + x % w ≡ x = div-add-mod' x w in
    let l : x % w < w = mod-lt x pos in
    record { from = omega arith; to = omega arith; rest = omega arith }

-- an address lies in the page whose first address is at or below it, and whose last at or above it
pub page_is : (w x page : ℕ) → 0 < w → page * w ≤ x → x < page * w + w → x / w ≡ page
page_is w x page pos from to =
    let b : x - page * w < w = omega arith in
    let e : x ≡ page * w + (x - page * w) = omega arith in
    ap (λ n. n / w) e ∙ div-mul-add page w (x - page * w) b

-- pages that follow one another
pub pages_between : (w a b : ℕ) → a ≤ b → (d : ℕ) × (b ≡ a + d) × (b * w ≡ a * w + d * w)
pages_between w a b l =
    let e : b ≡ a + (b - a) = omega arith in
    (b - a, e, ap (λ n. n * w) e ∙ add-mul a (b - a) w)

-- the record of a slot between a hop's first and last slot, in numbers: the slot is there, and the output page below
-- the reach's
pub record IsSlotOfHop (slots pages slot page : ℕ) : Type 0 where
  pub there : slot < slots
  pub below : page < pages

pub slot_of_hop : (w x y size slots pages slot : ℕ) → 0 < w → 1 ≤ size → x % w ≡ y % w → x + size ≤ slots * w → y + size ≤ pages * w → x / w ≤ slot → slot ≤ (x + size - 1) / w → IsSlotOfHop slots pages slot (y / w + (slot - x / w))
slot_of_hop w x y size slots pages slot pos some agree within reached from to =
    let d = pages_between w (x / w) slot from in
    let last : slot * w ≤ x + size - 1 = (le-div_iff_mul-le pos).0 to in
    let ex : x / w * w + x % w ≡ x = div-add-mod' x w in
    let ey : y / w * w + y % w ≡ y = div-add-mod' y w in
    let ed : slot - x / w ≡ d.0 = omega (arith, d.1) in
    let both : (y / w + (slot - x / w)) * w ≡ y / w * w + (slot - x / w) * w = add-mul (y / w) (slot - x / w) w in
    let es : (slot - x / w) * w ≡ d.0 * w = ap (λ n. n * w) ed in
    let at : slot * w ≡ x / w * w + d.0 * w = d.2 in
    record {
      there = lt_of_mul-lt-mul_right w (omega arith);
      below = lt_of_mul-lt-mul_right w (omega arith);
    }

-- the address of a hop's output so far on
pub output_of_hop : (w x y i : ℕ) → 0 < w → x % w ≡ y % w → (y / w + ((x + i) / w - x / w)) * w + (x + i) % w ≡ y + i
output_of_hop w x y i pos agree =
    let le : x / w ≤ (x + i) / w = (le-div_iff_mul-le pos).1 (let f = (in_page w x pos).from in omega arith) in
    let d = pages_between w (x / w) ((x + i) / w) le in
    let ex : x / w * w + x % w ≡ x = div-add-mod' x w in
    let ey : y / w * w + y % w ≡ y = div-add-mod' y w in
    let ei : (x + i) / w * w + (x + i) % w ≡ x + i = div-add-mod' (x + i) w in
    let ed : (x + i) / w - x / w ≡ d.0 = omega (arith, d.1) in
    let both : (y / w + ((x + i) / w - x / w)) * w ≡ y / w * w + ((x + i) / w - x / w) * w = add-mul (y / w) ((x + i) / w - x / w) w in
    let es : ((x + i) / w - x / w) * w ≡ d.0 * w = ap (λ n. n * w) ed in
    let at : (x + i) / w * w ≡ x / w * w + d.0 * w = d.2 in
    omega arith

-- a page begins at an address on a page's edge
pub page_start : (w page : ℕ) → 0 < w → page * w % w ≡ 0
page_start w page pos =
    let f : page * w / w ≡ page = page_is w (page * w) page pos (omega arith) (omega arith) in
    let r = (in_page w (page * w) pos).rest in
    let s : page * w / w * w ≡ page * w = ap (λ n. n * w) f in
    omega (arith, r, s)

-- what an address is on in its page
pub offset_is : (w x page : ℕ) → 0 < w → page * w ≤ x → x < page * w + w → x % w ≡ x - page * w
offset_is w x page pos from to =
    let f : x / w ≡ page = page_is w x page pos from to in
    let r = (in_page w x pos).rest in
    let s : x / w * w ≡ page * w = ap (λ n. n * w) f in
    omega (arith, r, s)

-- the last offset in a page
pub last_offset : (w : ℕ) → 0 < w → (w - 1) % w ≡ w - 1
last_offset w pos = let e = offset_is w (w - 1) 0 pos (omega arith) (omega arith) in omega (arith, e)

-- a page of a power of 2 that begins at or below the last address ends there or below
pub page_ends : (p page : ℕ) → p ≤ 56 → page * 2 ^ p ≤ 72057594037927935 → page * 2 ^ p + (2 ^ p - 1) ≤ 72057594037927935
page_ends p page l h =
    let all : 2 ^ (56 - p + p) ≡ 2 ^ (56 - p) * 2 ^ p = pow-add 2 (56 - p) p in
    let sum : 56 - p + p ≡ 56 = omega arith in
    let whole : 2 ^ 56 ≡ 2 ^ (56 - p) * 2 ^ p = ap (λ n. 2 ^ n) (sym sum) ∙ all in
    let below : page * 2 ^ p < 2 ^ (56 - p) * 2 ^ p = subst (λ n. page * 2 ^ p < n) whole (omega (arith, h)) in
    let few : page < 2 ^ (56 - p) = lt_of_mul-lt-mul_right (2 ^ p) below in
    let more : (page + 1) * 2 ^ p ≤ 2 ^ (56 - p) * 2 ^ p = mul-le-mul_right (2 ^ p) (omega (arith, few)) in
    let step : (page + 1) * 2 ^ p ≡ page * 2 ^ p + 1 * 2 ^ p = add-mul page 1 (2 ^ p) in
    omega (arith, more, step, whole)

-- the slots of a hop end within the unit
pub last_slot_there : (w x size slots : ℕ) → 0 < w → 1 ≤ size → x + size ≤ slots * w → (x + size - 1) / w + 1 ≤ slots
last_slot_there w x size slots pos some within =
    let l : (x + size - 1) / w < slots = (div-lt_iff_lt-mul pos).1 (omega arith) in
    omega arith

pub max_below : (a b n : ℕ) → a ≤ n → b ≤ n → max a b ≤ n
max_below a b n l m = grind arith

-- the part of a stretch of addresses that lies in a page, in numbers: what begins at `base` for an address `lo`, and goes
-- on to an address `hi`
module _ (w base lo hi page : ℕ) (pos : 0 < w) (ordered : lo ≤ hi) (begins : base / w ≤ page) (ends : page ≤ (base + (hi - lo)) / w) where
  pub low : base < page * w + w
  low =
      let b : InPage w base (base / w) = in_page w base pos in
      let d = pages_between w (base / w) page begins in
      let to = b.to in
      let at = d.2 in
      omega arith

  pub high : page * w ≤ base + (hi - lo)
  high = (le-div_iff_mul-le pos).0 ends

  -- its first address and its last
  pub record IsPartIn (from to : ℕ) : Type 0 where
    pub onward : base ≤ from
    pub order : from ≤ to
    pub within : to ≤ base + (hi - lo)
    pub first : page * w ≤ from
    pub last : to < page * w + w

  pub part_in : (from to : ℕ) → from ≡ max base (page * w) → to ≡ min (base + (hi - lo)) (page * w + (w - 1)) → IsPartIn from to
  part_in from to ef et =
      let a = low in
      let b = high in
      record { onward = grind arith; order = grind arith; within = grind arith; first = grind arith; last = grind arith }

  -- an address lies in the part exactly where it lies in the stretch, and what it comes to in the page
  pub in_part : (from to : ℕ) → from ≡ max base (page * w) → to ≡ min (base + (hi - lo)) (page * w + (w - 1)) → (a : ℕ) → lo + (from - base) ≤ a → a ≤ lo + (to - base) → (lo ≤ a) × (a ≤ hi) × ((base + (a - lo)) / w ≡ page)
  in_part from to ef et a l m =
      let p : IsPartIn from to = part_in from to ef et in
      let p1 = p.onward in
      let p2 = p.order in
      let p3 = p.within in
      let p4 = p.first in
      let p5 = p.last in
      (omega arith, omega arith, page_is w (base + (a - lo)) page pos (omega arith) (omega arith))

  pub of_part : (from to : ℕ) → from ≡ max base (page * w) → to ≡ min (base + (hi - lo)) (page * w + (w - 1)) → (a : ℕ) → lo ≤ a → a ≤ hi → (base + (a - lo)) / w ≡ page → (lo + (from - base) ≤ a) × (a ≤ lo + (to - base))
  of_part from to ef et a l m e =
      let q : InPage w (base + (a - lo)) ((base + (a - lo)) / w) = in_page w (base + (a - lo)) pos in
      let f : page * w ≤ base + (a - lo) = subst (λ n. n * w ≤ base + (a - lo)) e q.from in
      let t : base + (a - lo) < page * w + w = subst (λ n. base + (a - lo) < n * w + w) e q.to in
      (grind arith, grind arith)

  -- and what it comes to is so far on in the page
  pub part_names : (from to : ℕ) → from ≡ max base (page * w) → to ≡ min (base + (hi - lo)) (page * w + (w - 1)) → (a out : ℕ) → lo + (from - base) ≤ a → a ≤ lo + (to - base) → out + from % w + (a - (lo + (from - base))) ≡ out + (base + (a - lo)) % w
  part_names from to ef et a out l m =
      let p : IsPartIn from to = part_in from to ef et in
      let p1 = p.onward in
      let p2 = p.order in
      let p4 = p.first in
      let p5 = p.last in
      let e : from / w ≡ page = page_is w from page pos p4 (omega arith) in
      let f : (base + (a - lo)) / w ≡ page = (in_part from to ef et a l m).2 in
      let x : from / w * w + from % w ≡ from = div-add-mod' from w in
      let y : (base + (a - lo)) / w * w + (base + (a - lo)) % w ≡ base + (a - lo) = div-add-mod' (base + (a - lo)) w in
      let xe : from / w * w ≡ page * w = ap (λ n. n * w) e in
      let ye : (base + (a - lo)) / w * w ≡ page * w = ap (λ n. n * w) f in
      omega arith

pub same_test : (b c : Bool) → (IsTrue b → IsTrue c) → (IsTrue c → IsTrue b) → b ≡ c
same_test true true f g = refl
same_test false false f g = refl
same_test true false f g = absurd (false≢true (f refl))
same_test false true f g = absurd (false≢true (g refl))

pub true_all : (a b c : Bool) → IsTrue a → IsTrue b → IsTrue c → IsTrue ((a && b) && c)
true_all true true true e f g = refl
true_all true true false e f g = g
true_all true false c e f g = f
true_all false b c e f g = e

pub all_true : (a b c : Bool) → IsTrue ((a && b) && c) → IsTrue a × IsTrue b × IsTrue c
all_true true true true e = (refl, refl, refl)
all_true true true false e = absurd (false≢true e)
all_true true false c e = absurd (false≢true e)
all_true false b c e = absurd (false≢true e)

-- pages ascend with addresses
pub pages_ascend : (w x y : ℕ) → 0 < w → x ≤ y → x / w ≤ y / w
pages_ascend w x y pos l = (le-div_iff_mul-le pos).1 (let f = (in_page w x pos).from in omega arith)

-- the addresses below a unit's reach
pub power_below : (n : ℕ) → n ≤ 56 → 2 ^ n ≤ 72057594037927936
power_below n l = let p : 2 ^ n ≤ 2 ^ 56 = pow-le-pow_right (omega arith) l in omega arith
