-- The map entry that has an address, where no address lies in two map blocks.
use Rattle.std.proofs.Common.{◌≡◌, ℕ, zero, suc, ◌+◌, ◌-◌, ◌<◌, ◌≤◌, Bool, true, false, if◌then◌else◌, nat_le, List, [], ◌∷◌, map, Option, Some, refl, sym, ap, ◌∙◌, subst, arith, leb-true, IsTrue, All, Contains, length, get_or, slice_get}
use Rattle.std.proofs.lemmas.Bool.{le-leb}
use Rattle.std.proofs.lemmas.List.Elements.{All-cons, All-contains, All-nil}
use Rattle.std.proofs.lemmas.List.Sorted.{All-permutation, Contains-permutation, IsPermutation-sym}
use Rattle.std.specs.List.{list_all}
use Rattle.std.specs.List.Sorted.{IsPermutation}
use Rattle.dn_base.proofs.Booleans.{and_parts, and_from}
use Rattle.dn_base.proofs.Lists.{list_all-at}
use Rattle.dn_net.specs.declared.node.Block.{Block}
use Rattle.dn_net.specs.declared.node.Entry.{Entry}
use Rattle.dn_net.specs.declared.entries.Place.{Place}
use Rattle.dn_net.specs.Decode.{top, within, Sent, by_over, by_entries}
use Rattle.dn_net.specs.Rules.{block_in_range, entry_in_range, dest_in_range}
use Rattle.dn_net.specs.Order.{places_from}
use Rattle.dn_net.proofs.Least.{maps_at, maps_at-cons}
use Rattle.dn_net.proofs.Sweep.{within_early}

place_of : (n : ℕ) (es : List Entry) (k : ℕ) (e : Entry) → slice_get es k ≡ Some e → Contains (places_from n es) record { block = e.block; entry = n + k }
place_of n [] k e at = cc
place_of n (f ∷ es) zero e at =
    let s : f ≡ e = cc in
    let t : n ≡ n + 0 = omega arith in
    (0, omega arith, λ i. record { block = (s i).block; entry = t i })
place_of n (f ∷ es) (suc k) e at =
    let t : (n + 1) + k ≡ n + suc k = omega arith in
    let c : Contains (places_from (n + 1) es) record { block = e.block; entry = n + suc k } = subst (λ m. Contains (places_from (n + 1) es) record { block = e.block; entry = m }) t (place_of (n + 1) es k e at) in
    let l = c.1 in
    (suc c.0, omega (arith, l), c.2)

-- an entry that stands at a place
pub record IsOf (es : List Entry) (n : ℕ) (p : Place) (k : ℕ) : Type 0 where
  pub entry : Entry
  pub place : p.entry ≡ n + k
  pub at : slice_get es k ≡ Some entry
  pub block : p.block ≡ entry.block

entry_of : (n : ℕ) (es : List Entry) (k : ℕ) (p : Place) → k < length (places_from n es) → get_or (places_from n es) k p ≡ p → IsOf es n p k
entry_of n [] k p h e = absurd (omega arith)
entry_of n (f ∷ es) zero p h e = let m : n ≡ p.entry = ap (λ (q : Place). q.entry) e in record { entry = f; place = omega (arith, m); at = refl; block = sym (ap (λ (q : Place). q.block) e) }
entry_of n (f ∷ es) (suc k) p h e =
    let r = entry_of (n + 1) es k p (omega arith) e in
    let m = r.place in
    record { entry = r.entry; place = omega (arith, m); at = r.at; block = r.block }

-- where a place has its entry
pub place_stands : (es : List Entry) (p : Place) → Contains (places_from 0 es) p → IsOf es 0 p p.entry
place_stands es p d =
    let r = entry_of 0 es d.0 p d.1 d.2 in
    let m = r.place in
    let s : d.0 ≡ p.entry = omega (arith, m) in
    subst (λ k. IsOf es 0 p k) s r

-- the blocks of the places are those of the entries
pub place_blocks : (n : ℕ) (es : List Entry) → map (λ p. p.block) (places_from n es) ≡ map (λ e. e.block) es
place_blocks n [] = refl
place_blocks n (e ∷ es) = ap (λ l. e.block ∷ l) (place_blocks (n + 1) es)

-- those of entries in range are in range
pub places_in_range : (n : ℕ) (es : List Entry) → IsTrue (list_all entry_in_range es) → All (λ p. IsTrue (block_in_range p.block)) (places_from n es)
places_in_range n [] all = All-nil (λ (p : Place). IsTrue (block_in_range p.block))
places_in_range n (e ∷ es) all =
    let b = and_parts (entry_in_range e) (list_all entry_in_range es) all in
    let c = and_parts (block_in_range e.block) (list_all (dest_in_range e.block) e.dests) b.0 in
    All-cons (λ (p : Place). IsTrue (block_in_range p.block)) record { block = e.block; entry = n } (places_from (n + 1) es) c.0 (places_in_range (n + 1) es b.1)

with_one : (a : ℕ) (x e : Entry) (es : List Entry) → x ≡ e → within a e.block ≡ true → maps_at (x ∷ es) a ≡ 1 + maps_at es a
with_one a x e es s w = maps_at-cons x es a ∙ ap (λ (b : Bool). (if b then 1 else 0) + maps_at es a) (ap (λ (y : Entry). within a y.block) s ∙ w)

present : (a : ℕ) (es : List Entry) (i : ℕ) (e : Entry) → slice_get es i ≡ Some e → within a e.block ≡ true → 0 < maps_at es a
present a [] i e at w = cc
present a (x ∷ es) zero e at w = let s : x ≡ e = cc in let c = with_one a x e es s w in omega (arith, c)
present a (x ∷ es) (suc i) e at w =
    let c = maps_at-cons x es a in
    let d = present a es i e at w in
    omega (arith, c, d)

-- an address of two entries is that of one
pub only_one : (a : ℕ) (es : List Entry) (i j : ℕ) (e f : Entry) → maps_at es a ≤ 1 → slice_get es i ≡ Some e → slice_get es j ≡ Some f → within a e.block ≡ true → within a f.block ≡ true → i ≡ j
only_one a [] i j e f one at there v w = cc
only_one a (x ∷ es) zero zero e f one at there v w = refl
only_one a (x ∷ es) zero (suc j) e f one at there v w =
    let s : x ≡ e = cc in
    let c = with_one a x e es s v in
    let d = present a es j f there w in
    absurd (omega (arith, c, d, one))
only_one a (x ∷ es) (suc i) zero e f one at there v w =
    let s : x ≡ f = cc in
    let c = with_one a x f es s w in
    let d = present a es i e at v in
    absurd (omega (arith, c, d, one))
only_one a (x ∷ es) (suc i) (suc j) e f one at there v w =
    let c = maps_at-cons x es a in
    ap suc (only_one a es i j e f (omega (arith, c, one)) at there v w)

-- an address of an entry's block goes on by that entry
abbrev pub sent_by : ℕ → Entry → Option Sent
sent_by a e = Some (record { dests = e.dests; offset = a - e.block.lo })

-- the entry that has the address is the first that has it
pub found_by : (a : ℕ) (es : List Entry) (i : ℕ) (e : Entry) → maps_at es a ≤ 1 → slice_get es i ≡ Some e → within a e.block ≡ true → (over : Option ℕ) → by_entries a over es ≡ sent_by a e
found_by a [] i e one at w over = cc
found_by a (x ∷ es) zero e one at w over =
    let s : x ≡ e = cc in
    subst (λ (y : Entry). by_entries a over (y ∷ es) ≡ sent_by a e) (sym s) (rw w refl)
found_by a (x ∷ es) (suc i) e one at w over = by (within a x.block) refl (found_by a es i e (let c = maps_at-cons x es a in omega (arith, c, one)) at w over)
  where
    by : (b : Bool) → within a x.block ≡ b → by_entries a over es ≡ sent_by a e → ◌≡◌ {A = Option Sent} (if b then sent_by a x else by_entries a over es) (sent_by a e)
    by true v more = let z : 0 ≡ suc i = only_one a (x ∷ es) 0 (suc i) x e one refl at v w in absurd (omega (arith, z))
    by false v more = more

-- no entry has the address
pub not_found : (a : ℕ) (es : List Entry) → ((i : ℕ) (e : Entry) → slice_get es i ≡ Some e → within a e.block ≡ false) → (over : Option ℕ) → by_entries a over es ≡ by_over a over
not_found a [] none over = refl
not_found a (x ∷ es) none over = rw (none 0 x refl) (not_found a es (λ i e at. none (suc i) e at) over)

-- the places of the entries in the order of their first addresses
module _ (es : List Entry) (order : List Place) (every : IsPermutation (places_from 0 es) order) where
  kept : (P : Place → Type 0) → All P order → (i : ℕ) (e : Entry) → slice_get es i ≡ Some e → P record { block = e.block; entry = 0 + i }
  kept P all i e at = All-contains P order _ all (Contains-permutation (places_from 0 es) order _ every (place_of 0 es i e at))

  pub all_later : (a : ℕ) → All (λ p. a < p.block.lo) order → (i : ℕ) (e : Entry) → slice_get es i ≡ Some e → within a e.block ≡ false
  all_later a all i e at = within_early e.block a (kept (λ p. a < p.block.lo) all i e at)

  -- where a place of the order has its entry
  pub stands : (p : Place) → Contains order p → IsOf es 0 p p.entry
  stands p c = place_stands es p (Contains-permutation order (places_from 0 es) p (IsPermutation-sym (places_from 0 es) order every) c)

  pub order_in_range : IsTrue (list_all entry_in_range es) → All (λ p. IsTrue (block_in_range p.block)) order
  order_in_range all = All-permutation (λ p. IsTrue (block_in_range p.block)) (places_from 0 es) order every (places_in_range 0 es all)

  -- where the entry that begins last, of those that begin at or before the address, lacks it
  pub none_has : (a : ℕ) (p : Place) (e : Entry) → IsTrue (list_all entry_in_range es) → ((b : ℕ) → maps_at es b ≤ 1) → Contains order p → p.block.lo ≤ a → All (λ q. q.block.lo ≤ a → q.block.lo ≤ p.block.lo) order → slice_get es p.entry ≡ Some e → within a e.block ≡ false → (i : ℕ) (f : Entry) → slice_get es i ≡ Some f → within a f.block ≡ false
  none_has a p e range apart c begun last at lacks i f there = by (within a f.block) refl
    where
      first : p.block.lo ≡ e.block.lo
      first = let r = stands p c in let s : r.entry ≡ e = (let q : Some r.entry ≡ Some e = sym r.at ∙ at in cc) in ap (λ (b : Block). b.lo) r.block ∙ ap (λ (y : Entry). y.block.lo) s

      ordered : e.block.lo ≤ e.block.hi
      ordered = leb-true _ _ (and_parts (nat_le e.block.lo e.block.hi) (nat_le e.block.hi top) (and_parts (block_in_range e.block) (list_all (dest_in_range e.block) e.dests) (list_all-at entry_in_range es p.entry e range at)).0).0

      by : (b : Bool) → within a f.block ≡ b → b ≡ false
      by false v = refl
      by true v =
          let w = and_parts (nat_le f.block.lo a) (nat_le a f.block.hi) v in
          let l : f.block.lo ≤ a = leb-true _ _ w.0 in
          let h : a ≤ f.block.hi = leb-true _ _ w.1 in
          let g : f.block.lo ≤ p.block.lo = kept (λ q. q.block.lo ≤ a → q.block.lo ≤ p.block.lo) last i f there l in
          let n = first in
          let o = ordered in
          let m : within e.block.lo f.block ≡ true = and_from _ _ (le-leb f.block.lo e.block.lo (omega (arith, g, n))) (le-leb e.block.lo f.block.hi (omega (arith, n, begun, h))) in
          let t : within e.block.lo e.block ≡ true = and_from _ _ (le-leb e.block.lo e.block.lo (omega arith)) (le-leb e.block.lo e.block.hi o) in
          let z : i ≡ p.entry = only_one e.block.lo es i p.entry f e (apart e.block.lo) there at m t in
          let s : f ≡ e = (let q : Some f ≡ Some e = sym there ∙ ap (λ k. slice_get es k) z ∙ at in cc) in
          sym v ∙ ap (λ (y : Entry). within a y.block) s ∙ lacks
