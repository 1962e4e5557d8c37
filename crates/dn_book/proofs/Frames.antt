-- What putting and clearing slots leaves of a set: units, widths, uses, and the words of other slots.
use Rattle.std.proofs.Common.{◌≡◌, ℕ, zero, suc, ◌+◌, ◌-◌, ◌*◌, ◌<◌, ◌≤◌, ◌⊎◌, inl, inr, Bool, if◌then◌else◌, ◌==◌, List, [], ◌∷◌, ◌++◌, filter, length, take, drop, replicate, slice_get, slice_index_or, Option, Some, refl, sym, ap, ◌∙◌, subst, arith, append_assoc, length-append, length-drop}
use Rattle.std.specs.List.{flat_map}
use Rattle.std.proofs.lemmas.List.{take-append-drop, take-append-le, drop-append-le, length-take-le}
use Rattle.std.proofs.Math.Seq.{drop-append-add}
use Rattle.std.proofs.Math.Nat.{mul-le-mul_right, suc-mul}
use Rattle.dn_base.proofs.Orders.{cases_eq}
use Rattle.dn_net.specs.Chain.{Member}
use Rattle.dn_kind.specs.Kind.{Meaning}
use Rattle.dn_kind.specs.Tables.{slot_words}
use Rattle.dn_tables.specs.declared.table.NodeTable.{NodeTable}
use Rattle.dn_tables.specs.declared.table.SlotUse.{SlotUse}
use Rattle.dn_tables.specs.Set.{IsEmpty, KeepsFit, fits_by, no_use, packed_for, packed_in, put_over, unit_in, unit_of_table, use_in, uses_of_table, width_in, width_of_table, with_slot, with_table, with_words, words_in, words_of_table}
use Rattle.dn_tables.specs.Writes.{clear_writes, clears_from, put_writes, write_events, writes_from}
use Rattle.dn_tables.proofs.Kept.{all_changed, map_changed}
use Rattle.dn_book.specs.Sets.{after_clears, after_puts, clear_log, is_used_by, put_log}
use Rattle.dn_book.specs.Writes.{Put}
use Rattle.dn_book.proofs.Facts.{fit_none, fit_then}

-- what a change of a table leaves of what is read of the table of a node
pub kept_of : {Y : Type 0} (r : Option NodeTable → Y) (set : List NodeTable) (node m : ℕ) (f : NodeTable → NodeTable) → ((t : NodeTable) → r (Some (f t)) ≡ r (Some t)) → r (slice_get (with_table set node f) m) ≡ r (slice_get set m)
kept_of r [] node m f e = refl
kept_of r (t ∷ set) zero zero f e = e t
kept_of r (t ∷ set) zero (suc m) f e = refl
kept_of r (t ∷ set) (suc node) zero f e = refl
kept_of r (t ∷ set) (suc node) (suc m) f e = kept_of r set node m f e

-- a change of one table leaves the others
pub other_of : (set : List NodeTable) (node m : ℕ) (f : NodeTable → NodeTable) → (m ≡ node → ⊥) → slice_get (with_table set node f) m ≡ slice_get set m
other_of [] node m f ne = refl
other_of (t ∷ set) zero zero f ne = absurd (ne refl)
other_of (t ∷ set) zero (suc m) f ne = refl
other_of (t ∷ set) (suc node) zero f ne = refl
other_of (t ∷ set) (suc node) (suc m) f ne = other_of set node m f (λ e. ne (ap suc e))

-- one slot
pub unit_with_slot : (set : List NodeTable) (u q m : ℕ) (vs : List ℕ) → unit_in (with_slot set u q vs) m ≡ unit_in set m
unit_with_slot set u q m vs = kept_of unit_of_table set u m (λ t. with_words t (put_over t.words (q * t.width) vs)) (λ t. refl)

pub width_with_slot : (set : List NodeTable) (u q m : ℕ) (vs : List ℕ) → width_in (with_slot set u q vs) m ≡ width_in set m
width_with_slot set u q m vs = kept_of width_of_table set u m (λ t. with_words t (put_over t.words (q * t.width) vs)) (λ t. refl)

pub use_with_slot : (set : List NodeTable) (u q m p : ℕ) (vs : List ℕ) → use_in (with_slot set u q vs) m p ≡ use_in set m p
use_with_slot set u q m p vs = kept_of (λ o. slice_index_or (uses_of_table o) p no_use) set u m (λ t. with_words t (put_over t.words (q * t.width) vs)) (λ t. refl)

pub fit_with_slot : (set : List NodeTable) (u q : ℕ) (vs : List ℕ) → KeepsFit set (with_slot set u q vs)
fit_with_slot set u q vs = record {
  units = map_changed (λ t. t.unit) set u (λ t. with_words t (put_over t.words (q * t.width) vs)) (λ t. refl);
  wide = λ kinds f. all_changed (λ t. fits_by kinds t.width t.unit) set u (λ t. with_words t (put_over t.words (q * t.width) vs)) (λ t. refl) ∙ f;
}

-- slots one after the other, whatever words they get
pub record SameFrame (set set' : List NodeTable) : Type 0 where
  pub unit : (m : ℕ) → unit_in set' m ≡ unit_in set m
  pub width : (m : ℕ) → width_in set' m ≡ width_in set m
  pub use_of : (m p : ℕ) → use_in set' m p ≡ use_in set m p
  pub fits : KeepsFit set set'

pub frame_none : (set : List NodeTable) → SameFrame set set
frame_none set = record { unit = λ m. refl; width = λ m. refl; use_of = λ m p. refl; fits = fit_none set }

pub frame_one : (set : List NodeTable) (u q : ℕ) (vs : List ℕ) → SameFrame set (with_slot set u q vs)
frame_one set u q vs = record {
  unit = λ m. unit_with_slot set u q m vs;
  width = λ m. width_with_slot set u q m vs;
  use_of = λ m p. use_with_slot set u q m p vs;
  fits = fit_with_slot set u q vs;
}

pub frame_then : (a b c : List NodeTable) → SameFrame a b → SameFrame b c → SameFrame a c
frame_then a b c x y = record {
  unit = λ m. y.unit m ∙ x.unit m;
  width = λ m. y.width m ∙ x.width m;
  use_of = λ m p. y.use_of m p ∙ x.use_of m p;
  fits = fit_then a b c x.fits y.fits;
}

pub frame_puts : (kinds : List Meaning) (set : List NodeTable) (ss : List Put) → SameFrame set (after_puts kinds set ss)
frame_puts kinds set [] = frame_none set
frame_puts kinds set (s ∷ ss) =
    let next : List NodeTable = with_slot set s.unit s.slot (packed_in kinds set s.unit s.holds) in
    frame_then set next (after_puts kinds next ss) (frame_one set s.unit s.slot (packed_in kinds set s.unit s.holds)) (frame_puts kinds next ss)

pub frame_clears : (set : List NodeTable) (ss : List Put) → SameFrame set (after_clears set ss)
frame_clears set [] = frame_none set
frame_clears set (s ∷ ss) =
    let next : List NodeTable = with_slot set s.unit s.slot (replicate (width_in set s.unit) 0) in
    frame_then set next (after_clears next ss) (frame_one set s.unit s.slot (replicate (width_in set s.unit) 0)) (frame_clears next ss)

-- tests that are equal pass the same
pub same_filter : {X : Type 0} (p q : X → Bool) → ((x : X) → p x ≡ q x) → (xs : List X) → filter p xs ≡ filter q xs
same_filter p q e [] = refl
same_filter {X} p q e (x ∷ xs) = ap (λ b. if b then x ∷ filter p xs else filter p xs) (e x) ∙ ap (λ (l : List X). if q x then x ∷ l else l) (same_filter p q e xs)

pub used_in_frame : (uses : ℕ) (set set' : List NodeTable) → SameFrame set set' → (ss : List Put) → filter (is_used_by uses set') ss ≡ filter (is_used_by uses set) ss
used_in_frame uses set set' f ss = same_filter (is_used_by uses set') (is_used_by uses set) (λ s. ap (λ (u : SlotUse). u.uses == uses) (f.use_of s.unit s.slot)) ss

-- lists that are made alike
pub same_flat : {X Y : Type 0} (f g : X → List Y) → ((x : X) → f x ≡ g x) → (xs : List X) → flat_map f xs ≡ flat_map g xs
same_flat f g e [] = refl
same_flat {X} {Y} f g e (x ∷ xs) = ap (λ (l : List Y). l ++ flat_map f xs) (e x) ∙ ap (λ (l : List Y). g x ++ l) (same_flat f g e xs)

pub put_log_in_frame : (kinds : List Meaning) (set set' : List NodeTable) → SameFrame set set' → (ss : List Put) → put_log kinds set' ss ≡ put_log kinds set ss
put_log_in_frame kinds set set' f ss =
    same_flat (λ (s : Put). write_events s.unit (put_writes kinds set' s.unit s.slot s.holds)) (λ (s : Put). write_events s.unit (put_writes kinds set s.unit s.slot s.holds))
    (λ s. ap (λ w. write_events s.unit (writes_from (s.slot * w) (packed_in kinds set' s.unit s.holds))) (f.width s.unit) ∙ ap (λ o. write_events s.unit (writes_from (s.slot * width_in set s.unit) (packed_for kinds o s.holds))) (f.unit s.unit)) ss

pub clear_log_in_frame : (set set' : List NodeTable) → SameFrame set set' → (ss : List Put) → clear_log set' ss ≡ clear_log set ss
clear_log_in_frame set set' f ss =
    same_flat (λ (s : Put). write_events s.unit (clear_writes set' s.unit s.slot)) (λ (s : Put). write_events s.unit (clear_writes set s.unit s.slot))
    (λ s. ap (λ w. write_events s.unit (clears_from (s.slot * w) w)) (f.width s.unit)) ss

-- rows of puts
pub puts_append : (kinds : List Meaning) (set : List NodeTable) (xs ys : List Put) → after_puts kinds set (xs ++ ys) ≡ after_puts kinds (after_puts kinds set xs) ys
puts_append kinds set [] ys = refl
puts_append kinds set (x ∷ xs) ys = puts_append kinds (with_slot set x.unit x.slot (packed_in kinds set x.unit x.holds)) xs ys

pub clears_append : (set : List NodeTable) (xs ys : List Put) → after_clears set (xs ++ ys) ≡ after_clears (after_clears set xs) ys
clears_append set [] ys = refl
clears_append set (x ∷ xs) ys = clears_append (with_slot set x.unit x.slot (replicate (width_in set x.unit) 0)) xs ys

-- the words of slots

-- the words of a slot in the front part
front_words : (w q : ℕ) (a b : List ℕ) → q * w + w ≤ length a → slot_words w (a ++ b) q ≡ slot_words w a q
front_words w q a b l =
    let d : length (drop (q * w) a) ≡ length a - q * w = length-drop (q * w) a in
    ap (take w) (drop-append-le (q * w) a b (omega arith))
    ∙ take-append-le w (drop (q * w) a) b (omega arith)

-- and behind a part
behind_words : (w q : ℕ) (a b : List ℕ) → length a ≤ q * w → slot_words w (a ++ b) q ≡ take w (drop (q * w - length a) b)
behind_words w q a b l =
    let e : q * w ≡ length a + (q * w - length a) = omega arith in
    ap (λ n. take w (drop n (a ++ b))) e ∙ ap (take w) (drop-append-add a b (q * w - length a))

-- slots apart
pub below_slot : (w q s : ℕ) → q < s → q * w + w ≤ s * w
below_slot w q s l =
    let m : suc q * w ≤ s * w = mul-le-mul_right w l in
    let n : suc q * w ≡ q * w + w = suc-mul q w in
    omega arith

-- words put over a slot, no more than it has, leave the words of other slots
pub other_words : (w s q : ℕ) (ws vs : List ℕ) → length vs ≤ w → s * w + w ≤ length ws → (q ≡ s → ⊥) → slot_words w (put_over ws (s * w) vs) q ≡ slot_words w ws q
other_words w s q ws vs few room ne = go (cases q s)
  where
    cases : (q s : ℕ) → (q < s) ⊎ ((s < q) ⊎ (q ≡ s))
    cases q s = grind arith

    f : ℕ
    f = s * w

    go : (q < s) ⊎ ((s < q) ⊎ (q ≡ s)) → slot_words w (put_over ws (s * w) vs) q ≡ slot_words w ws q
    go (inl l) =
        let b : q * w + w ≤ s * w = below_slot w q s l in
        let t : length (take f ws) ≡ f = length-take-le f ws (omega arith) in
        front_words w q (take f ws) (vs ++ drop (length vs) (drop f ws)) (omega arith)
        ∙ sym (front_words w q (take f ws) (drop f ws) (omega arith))
        ∙ ap (λ l. slot_words w l q) (take-append-drop f ws)
    go (inr (inr e)) = absurd (ne e)
    go (inr (inl l)) =
        let b : s * w + w ≤ q * w = below_slot w s q l in
        let t : length (take f ws) ≡ f = length-take-le f ws (omega arith) in
        let d : length (drop f ws) ≡ length ws - f = length-drop f ws in
        let k : ℕ = length vs in
        let u : length (take k (drop f ws)) ≡ k = length-take-le k (drop f ws) (omega arith) in
        let n : length (take f ws ++ vs) ≡ length (take f ws) + length vs = length-append (take f ws) vs in
        let m : length (take f ws ++ take k (drop f ws)) ≡ length (take f ws) + length (take k (drop f ws)) = length-append (take f ws) (take k (drop f ws)) in
        let lead : length (take f ws ++ vs) ≡ length (take f ws ++ take k (drop f ws)) = omega arith in
        ap (λ l. slot_words w l q) (sym (append_assoc (take f ws) vs (drop k (drop f ws))))
        ∙ behind_words w q (take f ws ++ vs) (drop k (drop f ws)) (omega arith)
        ∙ ap (λ n. take w (drop (q * w - n) (drop k (drop f ws)))) lead
        ∙ sym (behind_words w q (take f ws ++ take k (drop f ws)) (drop k (drop f ws)) (omega arith))
        ∙ ap (λ l. slot_words w l q) (append_assoc (take f ws) (take k (drop f ws)) (drop k (drop f ws)))
        ∙ ap (λ l. slot_words w (take f ws ++ l) q) (take-append-drop k (drop f ws))
        ∙ ap (λ l. slot_words w l q) (take-append-drop f ws)

-- the words of a slot of a set
abbrev pub words_at : List NodeTable → ℕ → ℕ → List ℕ
words_at set m p = slot_words (width_in set m) (words_in set m) p

-- the words of the unit of a node that is changed
words_changed : (set : List NodeTable) (u q : ℕ) (vs : List ℕ) (t : NodeTable) → slice_get set u ≡ Some t → words_in (with_slot set u q vs) u ≡ put_over (words_in set u) (q * width_in set u) vs
words_changed [] u q vs t e = cc
words_changed (s ∷ set) zero q vs t e = refl
words_changed (s ∷ set) (suc u) q vs t e = words_changed set u q vs t e

-- how many words a node has, where as many are put as there were
put_length : (ws vs : List ℕ) (f : ℕ) → f + length vs ≤ length ws → length (put_over ws f vs) ≡ length ws
put_length ws vs f l =
    let t : length (take f ws) ≡ f = length-take-le f ws (omega arith) in
    let a : length (take f ws ++ (vs ++ drop (length vs) (drop f ws))) ≡ length (take f ws) + length (vs ++ drop (length vs) (drop f ws)) = length-append (take f ws) (vs ++ drop (length vs) (drop f ws)) in
    let b : length (vs ++ drop (length vs) (drop f ws)) ≡ length vs + length (drop (length vs) (drop f ws)) = length-append vs (drop (length vs) (drop f ws)) in
    let c : length (drop (length vs) (drop f ws)) ≡ length (drop f ws) - length vs = length-drop (length vs) (drop f ws) in
    let d : length (drop f ws) ≡ length ws - f = length-drop f ws in
    omega arith

-- words that may stand in a slot: as many as it has, and it is there
pub record CanStand (set : List NodeTable) (u q : ℕ) (vs : List ℕ) : Type 0 where
  pub table : NodeTable
  pub at : slice_get set u ≡ Some table
  pub wide : length vs ≡ width_in set u
  pub room : q * width_in set u + width_in set u ≤ length (words_in set u)

pub length_stays : (set : List NodeTable) (u q m : ℕ) (vs : List ℕ) → CanStand set u q vs → length (words_in (with_slot set u q vs) m) ≡ length (words_in set m)
length_stays set u q m vs c = go (cases_eq m u)
  where
    go : (m ≡ u) ⊎ (m ≡ u → ⊥) → length (words_in (with_slot set u q vs) m) ≡ length (words_in set m)
    go (inl e) =
        let r = c.room in
        let w = c.wide in
        ap (λ n. length (words_in (with_slot set u q vs) n)) e
        ∙ ap length (words_changed set u q vs c.table c.at)
        ∙ put_length (words_in set u) vs (q * width_in set u) (omega arith)
        ∙ ap (λ n. length (words_in set n)) (sym e)
    go (inr ne) = ap (λ o. length (words_of_table o)) (other_of set u m (λ t. with_words t (put_over t.words (q * t.width) vs)) ne)

-- other slots keep their words
pub words_stay : (set : List NodeTable) (u q m p : ℕ) (vs : List ℕ) → CanStand set u q vs → (m ≡ u → p ≡ q → ⊥) → words_at (with_slot set u q vs) m p ≡ words_at set m p
words_stay set u q m p vs c ne = go (cases_eq m u)
  where
    go : (m ≡ u) ⊎ (m ≡ u → ⊥) → words_at (with_slot set u q vs) m p ≡ words_at set m p
    go (inl e) =
        let w = c.wide in
        ap (λ n. words_at (with_slot set u q vs) n p) e
        ∙ ap (λ n. slot_words n (words_in (with_slot set u q vs) u) p) (width_with_slot set u q u vs)
        ∙ ap (λ l. slot_words (width_in set u) l p) (words_changed set u q vs c.table c.at)
        ∙ other_words (width_in set u) q p (words_in set u) vs (omega arith) c.room (ne e)
        ∙ ap (λ n. words_at set n p) (sym e)
    go (inr other) =
        ap (λ n. slot_words n (words_in (with_slot set u q vs) m) p) (width_with_slot set u q m vs)
        ∙ ap (λ o. slot_words (width_in set m) (words_of_table o) p) (other_of set u m (λ t. with_words t (put_over t.words (q * t.width) vs)) other)

-- the table of a node is there after a change too
table_stays : (set : List NodeTable) (u q m : ℕ) (vs : List ℕ) (t : NodeTable) → slice_get set m ≡ Some t → (t' : NodeTable) × (slice_get (with_slot set u q vs) m ≡ Some t')
table_stays [] u q m vs t e = cc
table_stays (s ∷ set) zero q zero vs t e = (with_words s (put_over s.words (q * s.width) vs), refl)
table_stays (s ∷ set) zero q (suc m) vs t e = (t, e)
table_stays (s ∷ set) (suc u) q zero vs t e = (t, e)
table_stays (s ∷ set) (suc u) q (suc m) vs t e = table_stays set u q m vs t e

-- and what may stand in a slot may stand there after it
pub can_stand_after : (set : List NodeTable) (u q m p : ℕ) (vs ws : List ℕ) → CanStand set u q vs → CanStand set m p ws → CanStand (with_slot set u q vs) m p ws
can_stand_after set u q m p vs ws c d =
    let w : width_in (with_slot set u q vs) m ≡ width_in set m = width_with_slot set u q m vs in
    let l : length (words_in (with_slot set u q vs) m) ≡ length (words_in set m) = length_stays set u q m vs c in
    let t = table_stays set u q m vs d.table d.at in
    record {
      table = t.0;
      at = t.1;
      wide = d.wide ∙ sym w;
      room = subst (λ n. p * n + n ≤ length (words_in (with_slot set u q vs) m)) (sym w) (let r = d.room in omega arith);
    }

-- an empty slot stays so while others are put
pub empty_stays : (kinds : List Meaning) (set : List NodeTable) (ss : List Put) (m p : ℕ) → ((s : Put) → Member s ss → CanStand set s.unit s.slot (packed_in kinds set s.unit s.holds)) → ((s : Put) → Member s ss → m ≡ s.unit → p ≡ s.slot → ⊥) → IsEmpty set m p → IsEmpty (after_puts kinds set ss) m p
empty_stays kinds set [] m p can apart empty = empty
empty_stays kinds set (s ∷ ss) m p can apart empty =
    let vs : List ℕ = packed_in kinds set s.unit s.holds in
    let next : List NodeTable = with_slot set s.unit s.slot vs in
    let here : CanStand set s.unit s.slot vs = can s (inl refl) in
    empty_stays kinds next ss m p
    (λ t i. subst (λ l. CanStand next t.unit t.slot l) (ap (λ o. packed_for kinds o t.holds) (sym (unit_with_slot set s.unit s.slot t.unit vs))) (can_stand_after set s.unit s.slot t.unit t.slot vs (packed_in kinds set t.unit t.holds) here (can t (inr i))))
    (λ t i. apart t (inr i))
    (words_stay set s.unit s.slot m p vs here (apart s (inl refl)) ∙ empty ∙ ap (λ n. replicate n 0) (sym (width_with_slot set s.unit s.slot m vs)))
