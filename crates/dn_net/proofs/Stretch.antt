-- Blocks in the order of their first addresses, each stretched to the greatest last address so far.
use Rattle.std.proofs.Common.{◌≡◌, ℕ, zero, suc, ◌<◌, ◌≤◌, ◌⊎◌, inl, inr, Bool, true, false, if◌then◌else◌, ◌&&◌, ◌||◌, nat_le, nat_lt, List, [], ◌∷◌, Some, None, refl, sym, ap, ◌∙◌, arith, leb-true, ltb-true, IsTrue, All, length, get_or, slice_get}
use Rattle.std.proofs.lemmas.Bool.{cases_lt, le-leb, leb-false, ltb-false}
use Rattle.std.proofs.lemmas.Option.{get_or_from_slice_get, slice_get_within, slice_get-get_or}
use Rattle.std.proofs.lemmas.List.Sorted.{All-permutation, list_any-IsPermutation}
use Rattle.std.specs.List.{list_all, list_any}
use Rattle.std.specs.List.Sorted.{IsNonDecreasingBy, IsPermutation}
use Rattle.dn_base.proofs.Booleans.{or_cases, or_left, or_right, and_from, and_parts}
use Rattle.dn_base.proofs.Lists.{list_all-at}
use Rattle.dn_net.specs.declared.node.Block.{Block}
use Rattle.dn_net.specs.Decode.{top, within, in_some_block}
use Rattle.dn_net.specs.Rules.{block_in_range}
use Rattle.dn_net.proofs.Sweep.{within_early, within_late}
use Rattle.dn_net.proofs.Least.{within_to, within_from}

abbrev pub higher : ℕ → ℕ → ℕ
higher m h = if nat_lt m h then h else m

-- each block from its first address to the greatest last address so far
abbrev pub raised : ℕ → List Block → List Block
raised m [] = []
raised m (b ∷ bs) = record { lo = b.lo; hi = higher m b.hi } ∷ raised (higher m b.hi) bs

higher_cases : (m h : ℕ) → ((m < h) × (higher m h ≡ h)) ⊎ ((h ≤ m) × (higher m h ≡ m))
higher_cases m h = by (nat_lt m h) refl
  where
    by : (b : Bool) → nat_lt m h ≡ b → ((m < h) × ((if b then h else m) ≡ h)) ⊎ ((h ≤ m) × ((if b then h else m) ≡ m))
    by true e = inl (ltb-true m h e, refl)
    by false e = inr (ltb-false m h e, refl)

higher_above : (m h : ℕ) → (m ≤ higher m h) × (h ≤ higher m h)
higher_above m h = by (higher_cases m h)
  where
    by : ((m < h) × (higher m h ≡ h)) ⊎ ((h ≤ m) × (higher m h ≡ m)) → (m ≤ higher m h) × (h ≤ higher m h)
    by (inl u) = let l = u.0 in let e = u.1 in (omega (arith, l, e), omega (arith, l, e))
    by (inr u) = let l = u.0 in let e = u.1 in (omega (arith, l, e), omega (arith, l, e))

raised_length : (m : ℕ) (bs : List Block) → length (raised m bs) ≡ length bs
raised_length m [] = refl
raised_length m (b ∷ bs) = simp (raised_length (higher m b.hi) bs)

raised_lo : (m : ℕ) (bs : List Block) (k : ℕ) (d : Block) → k < length bs → (get_or (raised m bs) k d).lo ≡ (get_or bs k d).lo
raised_lo m [] k d h = absurd (omega arith)
raised_lo m (b ∷ bs) zero d h = refl
raised_lo m (b ∷ bs) (suc k) d h = raised_lo (higher m b.hi) bs k d (omega arith)

-- the first addresses are the same
pub raised_firsts : (m : ℕ) (bs : List Block) → IsNonDecreasingBy (λ b. b.lo) bs → IsNonDecreasingBy (λ b. b.lo) (raised m bs)
raised_firsts m bs up i j d l h =
    let n = raised_length m bs in
    let k : j < length bs = omega (arith, n, h) in
    let e = raised_lo m bs i d (omega (arith, l, k)) in
    let f = raised_lo m bs j d k in
    let u = up i j d l k in
    omega (arith, e, f, u)

raised_above : (m : ℕ) (bs : List Block) (j : ℕ) (d : Block) → j < length (raised m bs) → m ≤ (get_or (raised m bs) j d).hi
raised_above m [] j d h = absurd (omega arith)
raised_above m (b ∷ bs) zero d h = (higher_above m b.hi).0
raised_above m (b ∷ bs) (suc j) d h =
    let p = (higher_above m b.hi).0 in
    let q = raised_above (higher m b.hi) bs j d (omega arith) in
    omega (arith, p, q)

-- the last addresses ascend
pub raised_lasts : (m : ℕ) (bs : List Block) → IsNonDecreasingBy (λ b. b.hi) (raised m bs)
raised_lasts m [] i j d l h = absurd (omega arith)
raised_lasts m (b ∷ bs) zero zero d l h = omega arith
raised_lasts m (b ∷ bs) zero (suc j) d l h = raised_above (higher m b.hi) bs j d (omega arith)
raised_lasts m (b ∷ bs) (suc i) zero d l h = absurd (omega arith)
raised_lasts m (b ∷ bs) (suc i) (suc j) d l h = raised_lasts (higher m b.hi) bs i j d (omega arith) (omega arith)

grown : (a m : ℕ) (b : Block) → within a b ≡ true → (nat_le b.lo a && nat_le a (higher m b.hi)) ≡ true
grown a m b w =
    let p = within_to a b w in
    let q = (higher_above m b.hi).1 in
    let r = p.1 in
    and_from _ _ (le-leb _ _ p.0) (le-leb _ _ (omega (arith, q, r)))

grows : (a m : ℕ) (bs : List Block) → in_some_block a bs ≡ true → in_some_block a (raised m bs) ≡ true
grows a m [] h = h
grows a m (b ∷ bs) h = by (or_cases (within a b) (in_some_block a bs) h) (grows a (higher m b.hi) bs)
  where
    by : (within a b ≡ true) ⊎ (in_some_block a bs ≡ true) → (in_some_block a bs ≡ true → in_some_block a (raised (higher m b.hi) bs) ≡ true) → in_some_block a (raised m (b ∷ bs)) ≡ true
    by (inl w) more = or_left _ _ (grown a m b w)
    by (inr w) more = or_right _ _ (more w)

-- the address lies past the first addresses, and no further than the blocks before these reach
abbrev Carried : ℕ → ℕ → List Block → Type 0
Carried a m bs = (a ≤ m) × (0 < a) × ((l : ℕ) → ((k : ℕ) (d : Block) → k < length bs → l ≤ (get_or bs k d).lo) → l ≤ a)

shrinks_here : (a m : ℕ) (b : Block) (bs : List Block) → b.lo ≤ a → a ≤ higher m b.hi → (in_some_block a (b ∷ bs) ≡ true) ⊎ Carried a m (b ∷ bs)
shrinks_here a m b bs l h = by (cases_lt b.hi a) (higher_cases m b.hi)
  where
    by : (b.hi < a) ⊎ (a ≤ b.hi) → ((m < b.hi) × (higher m b.hi ≡ b.hi)) ⊎ ((b.hi ≤ m) × (higher m b.hi ≡ m)) → (in_some_block a (b ∷ bs) ≡ true) ⊎ Carried a m (b ∷ bs)
    by (inr w) e = inl (or_left _ _ (within_from a b l w))
    by (inl w) (inl e) = let f = e.1 in absurd (omega (arith, w, f, h))
    by (inl w) (inr e) = let f = e.1 in inr (omega (arith, f, h), omega (arith, w), λ n below. (let g : n ≤ b.lo = below 0 b (omega arith) in omega (arith, g, l)))

shrinks : (a m : ℕ) (bs : List Block) → IsNonDecreasingBy (λ b. b.lo) bs → in_some_block a (raised m bs) ≡ true → (in_some_block a bs ≡ true) ⊎ Carried a m bs
shrinks a m [] up h = inl h
shrinks a m (b ∷ bs) up h = by (or_cases (within a record { lo = b.lo; hi = higher m b.hi }) (in_some_block a (raised (higher m b.hi) bs)) h) (shrinks a (higher m b.hi) bs (λ i j d l k. up (suc i) (suc j) d (omega arith) (omega arith)))
  where
    later : (in_some_block a bs ≡ true) ⊎ Carried a (higher m b.hi) bs → (in_some_block a (b ∷ bs) ≡ true) ⊎ Carried a m (b ∷ bs)
    later (inl w) = inl (or_right _ _ w)
    later (inr c) = shrinks_here a m b bs (c.2 b.lo (λ k d q. up 0 (suc k) d (omega arith) (omega arith))) c.0

    by : (within a record { lo = b.lo; hi = higher m b.hi } ≡ true) ⊎ (in_some_block a (raised (higher m b.hi) bs) ≡ true) → (in_some_block a (raised (higher m b.hi) bs) ≡ true → (in_some_block a bs ≡ true) ⊎ Carried a (higher m b.hi) bs) → (in_some_block a (b ∷ bs) ≡ true) ⊎ Carried a m (b ∷ bs)
    by (inl w) more = let p = within_to a record { lo = b.lo; hi = higher m b.hi } w in shrinks_here a m b bs p.0 p.1
    by (inr w) more = later (more w)

-- the same addresses lie in the blocks
pub raised_same : (bs : List Block) → IsNonDecreasingBy (λ b. b.lo) bs → (a : ℕ) → in_some_block a (raised 0 bs) ≡ in_some_block a bs
raised_same bs up a = by (in_some_block a (raised 0 bs)) refl (in_some_block a bs) refl
  where
    none : (in_some_block a bs ≡ true) ⊎ Carried a 0 bs → in_some_block a bs ≡ true
    none (inl w) = w
    none (inr c) = let p = c.0 in let q = c.1 in absurd (omega (arith, p, q))

    by : (s : Bool) → in_some_block a (raised 0 bs) ≡ s → (t : Bool) → in_some_block a bs ≡ t → s ≡ t
    by true e true f = refl
    by false e false f = refl
    by true e false f = sym (none (shrinks a 0 bs up e)) ∙ f
    by false e true f = sym e ∙ grows a 0 bs f

pub any_within : (a : ℕ) (bs : List Block) → in_some_block a bs ≡ list_any (within a) bs
any_within a [] = refl
any_within a (b ∷ bs) = ap (λ (t : Bool). within a b || t) (any_within a bs)

-- in another order the blocks have the same addresses
pub moved_same : (bs cs : List Block) → IsPermutation bs cs → (a : ℕ) → in_some_block a cs ≡ in_some_block a bs
moved_same bs cs same a = any_within a cs ∙ sym (list_any-IsPermutation (within a) bs cs same) ∙ sym (any_within a bs)

higher_low : (m h : ℕ) → m ≤ top → h ≤ top → higher m h ≤ top
higher_low m h k l = by (higher_cases m h)
  where
    by : ((m < h) × (higher m h ≡ h)) ⊎ ((h ≤ m) × (higher m h ≡ m)) → higher m h ≤ top
    by (inl u) = let e = u.1 in omega (arith, e, l)
    by (inr u) = let e = u.1 in omega (arith, e, k)

range_parts : (b : Block) → IsTrue (block_in_range b) → (b.lo ≤ b.hi) × (b.hi ≤ top)
range_parts b r = let p = and_parts (nat_le b.lo b.hi) (nat_le b.hi top) r in (leb-true b.lo b.hi p.0, leb-true b.hi top p.1)

-- blocks in range are in range when they are stretched
pub raised_in_range : (m : ℕ) (bs : List Block) → m ≤ top → All (λ b. IsTrue (block_in_range b)) bs → All (λ b. IsTrue (block_in_range b)) (raised m bs)
raised_in_range m [] l valid k d h = absurd (omega arith)
raised_in_range m (b ∷ bs) l valid zero d h =
    let r = range_parts b (valid 0 b (omega arith)) in
    let o = r.0 in
    let u = (higher_above m b.hi).1 in
    and_from (nat_le b.lo (higher m b.hi)) (nat_le (higher m b.hi) top) (le-leb b.lo (higher m b.hi) (omega (arith, o, u))) (le-leb (higher m b.hi) top (higher_low m b.hi l r.1))
raised_in_range m (b ∷ bs) l valid (suc k) d h = raised_in_range (higher m b.hi) bs (higher_low m b.hi l (range_parts b (valid 0 b (omega arith))).1) (λ j e i. valid (suc j) e (omega arith)) k d (omega arith)

-- each block of a list in range, in any order
pub each_in_range : (bs cs : List Block) → IsPermutation bs cs → IsTrue (list_all block_in_range bs) → All (λ b. IsTrue (block_in_range b)) cs
each_in_range bs cs same all = All-permutation (λ b. IsTrue (block_in_range b)) bs cs same (λ k d l. list_all-at block_in_range bs k (get_or bs k d) all (slice_get-get_or bs k d l))

none_has : (a : ℕ) (rows : List Block) → ((k : ℕ) (d : Block) → k < length rows → within a (get_or rows k d) ≡ false) → in_some_block a rows ≡ false
none_has a [] none = refl
none_has a (r ∷ rows) none = rw (none 0 r (omega arith), none_has a rows (λ k d h. none (suc k) d (omega arith))) refl

one_has : (a : ℕ) (rows : List Block) (k : ℕ) (r : Block) → slice_get rows k ≡ Some r → within a r ≡ true → in_some_block a rows ≡ true
one_has a [] k r at w = cc
one_has a (x ∷ rows) zero r at w = let s : x ≡ r = cc in or_left _ _ (ap (λ y. within a y) s ∙ w)
one_has a (x ∷ rows) (suc k) r at w = or_right _ _ (one_has a rows k r at w)

-- rows whose first and last addresses ascend, of which so many end before the address
module _ (rows : List Block) (a k : ℕ) (before : (j : ℕ) (d : Block) → j < k → j < length rows → nat_lt (get_or rows j d).hi a ≡ true) where
  pub no_row : slice_get rows k ≡ None → false ≡ in_some_block a rows
  no_row at = sym (none_has a rows (λ j d h. within_late _ a (ltb-true _ _ (before j d (by j d h (cases_lt j k)) h))))
    where
      by : (j : ℕ) (d : Block) → j < length rows → (j < k) ⊎ (k ≤ j) → j < k
      by j d h (inl l) = l
      by j d h (inr l) = let e : slice_get rows k ≡ Some (get_or rows k d) = slice_get-get_or rows k d (omega arith) in let f : None ≡ Some (get_or rows k d) = sym at ∙ e in cc

  pub found_row : (r : Block) → IsNonDecreasingBy (λ b. b.lo) rows → ((j : ℕ) (d : Block) → k ≤ j → j < length rows → nat_lt (get_or rows j d).hi a ≡ false) → slice_get rows k ≡ Some r → nat_le r.lo a ≡ in_some_block a rows
  found_row r up after at = by (nat_le r.lo a) refl
    where
      inside : k < length rows
      inside = slice_get_within rows k r at

      here : (d : Block) → get_or rows k d ≡ r
      here d = get_or_from_slice_get rows k r d at

      reached : a ≤ r.hi
      reached = let e : (get_or rows k r).hi ≡ r.hi = ap (λ b. b.hi) (here r) in let l = ltb-false _ _ (after k r (omega arith) inside) in omega (arith, e, l)

      misses : a < r.lo → (j : ℕ) (d : Block) → j < length rows → (j < k) ⊎ (k ≤ j) → within a (get_or rows j d) ≡ false
      misses l j d h (inl q) = within_late _ a (ltb-true _ _ (before j d q h))
      misses l j d h (inr q) = within_early _ a (let e : (get_or rows k d).lo ≡ r.lo = ap (λ b. b.lo) (here d) in let u = up k j d q h in omega (arith, e, u, l))

      by : (b : Bool) → nat_le r.lo a ≡ b → b ≡ in_some_block a rows
      by true e = sym (one_has a rows k r at (and_from _ _ e (le-leb _ _ reached)))
      by false e = sym (none_has a rows (λ j d h. misses (leb-false _ _ e) j d h (cases_lt j k)))
