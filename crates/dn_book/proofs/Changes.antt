-- Uses that are changed slot by slot and hop by hop.
use Rattle.std.proofs.Common.{◌≡◌, ◌≢◌, ℕ, zero, suc, ◌+◌, ◌-◌, ◌<◌, ◌≤◌, inl, inr, Bool, true, false, if◌then◌else◌, ◌&&◌, ◌||◌, nat_eq, nat_le, nat_lt, List, [], ◌∷◌, ◌++◌, length, map, take, slice_get, slice_set, slice_index_or, is_some, Option, Some, None, IsTrue, refl, sym, ap, ◌∙◌, subst, arith, eqb-true, eq-eqb, leb-true, ltb-true}
use Rattle.std.specs.List.{list_any, AllPairs}
use Rattle.std.proofs.lemmas.List.{length-take-le, take_more}
use Rattle.std.proofs.lemmas.Option.{same_Some, get_or_from_slice_get, slice_get_within}
use Rattle.dn_base.proofs.Booleans.{and_parts}
use Rattle.dn_base.specs.declared.device.UnitWords.{UnitWords}
use Rattle.dn_net.specs.declared.node.NodeDecl.{NodeDecl}
use Rattle.dn_net.specs.declared.node.Unit.{Unit as UnitPart}
use Rattle.dn_net.specs.Chain.{Member}
use Rattle.dn_net.specs.Decode.{unit_at}
use Rattle.dn_kind.specs.declared.rights.Rights.{Rights}
use Rattle.dn_kind.specs.Rights.{both_rights}
use Rattle.dn_tables.specs.declared.placement.Hop.{Hop}
use Rattle.dn_tables.specs.declared.table.NodeTable.{NodeTable}
use Rattle.dn_tables.specs.declared.table.SlotUse.{SlotUse}
use Rattle.dn_tables.specs.Set.{IsSet, fits_by, fits_kinds, has_slot, table_on_device, has_slot_by, tables_from, tables_of_set, unit_in, units_of, no_use, use_in, with_use, with_uses, words_of}
use Rattle.dn_tables.proofs.Kept.{IsSlot, all_changed, map_changed, slot_in_set, table_of_unit}
use Rattle.dn_placement.specs.Records.{first_slot, last_slot, hop_record_by, is_taken_by, slot_record}
use Rattle.dn_book.specs.Book.{is_taken}
use Rattle.dn_book.specs.Sets.{AreChanged, AreHopsChanged, TakesSlots, changed_by, is_at, put_at}
use Rattle.dn_book.specs.Writes.{Put, hop_slots, hop_slots_by, slots_from}
use Rattle.dn_book.proofs.Facts.{fit_none, fit_then}
use Rattle.dn_book.proofs.Hops.{first_before}
use Rattle.dn_book.proofs.InOrder.{units_apart}
use Rattle.dn_tables.proofs.Units.{unit_by_units}
use Rattle.dn_book.proofs.Ranges.{in_hop, of_hop, slot_count, slot_there, so_far, so_far_all, so_far_more}

-- ONE SLOT

-- the use of one slot of a table that is there
use_changed : (set : List NodeTable) (u q : ℕ) (t : NodeTable) (x : SlotUse) → slice_get set u ≡ Some t → q < length t.uses → use_in (with_use set u q x) u q ≡ x
use_changed [] u q t x e l = cc
use_changed (s ∷ set) zero q t x e l = at s.uses q (subst (λ (w : NodeTable). q < length w.uses) (sym (same_Some s t e)) l)
  where
    at : (us : List SlotUse) (q : ℕ) → q < length us → slice_index_or (slice_set us q x) q no_use ≡ x
    at [] q l = absurd (omega arith)
    at (v ∷ us) zero l = refl
    at (v ∷ us) (suc q) l = at us q (omega arith)
use_changed (s ∷ set) (suc u) q t x e l = use_changed set u q t x e l

-- and of the others
use_kept : (set : List NodeTable) (u q m p : ℕ) (x : SlotUse) → (m ≡ u → p ≡ q → ⊥) → use_in (with_use set u q x) m p ≡ use_in set m p
use_kept [] u q m p x ne = refl
use_kept (s ∷ set) zero q zero p x ne = at s.uses q p (λ e. ne refl e)
  where
    at : (us : List SlotUse) (q p : ℕ) → (p ≡ q → ⊥) → slice_index_or (slice_set us q x) p no_use ≡ slice_index_or us p no_use
    at [] q p ne = refl
    at (v ∷ us) zero zero ne = absurd (ne refl)
    at (v ∷ us) zero (suc p) ne = refl
    at (v ∷ us) (suc q) zero ne = refl
    at (v ∷ us) (suc q) (suc p) ne = at us q p (λ e. ne (ap suc e))
use_kept (s ∷ set) zero q (suc m) p x ne = refl
use_kept (s ∷ set) (suc u) q zero p x ne = refl
use_kept (s ∷ set) (suc u) q (suc m) p x ne = use_kept set u q m p x (λ e f. ne (ap suc e) f)

told_kept : (set : List NodeTable) (n u q : ℕ) (x : SlotUse) → tables_from n (with_use set u q x) ≡ tables_from n set
told_kept [] n u q x = refl
told_kept (s ∷ set) n zero q x = refl
told_kept (s ∷ set) n (suc u) q x = ap (λ (l : List UnitWords). table_on_device n s.words s.unit ++ l) (told_kept set (suc n) u q x)

-- a slot that is there
pub slot_held : (set : List NodeTable) (u q : ℕ) → IsSet set → IsTrue (has_slot set u q) → (t : NodeTable) × (slice_get set u ≡ Some t) × (q < length t.uses)
slot_held set u q is_set there = go (unit_in set u) refl
  where
    go : (o : Option UnitPart) → unit_in set u ≡ o → (t : NodeTable) × (slice_get set u ≡ Some t) × (q < length t.uses)
    go None e = let f : IsTrue (has_slot_by None q) = subst (λ o. IsTrue (has_slot_by o q)) e there in cc
    go (Some w) e =
        let k = table_of_unit set u w e in
        let s : IsSlot set u q k.0 = slot_in_set set set u u q k.0 refl refl is_set there (sym (get_or_from_slice_get set u k.0 k.0 k.1)) in
        let many = s.sized.uses in
        let l = s.within in
        (k.0, k.1, (omega arith))

pub is_at_self : (u q : ℕ) (s : Put) → u ≡ s.unit → q ≡ s.slot → is_at u q s ≡ true
is_at_self u q s e f = rw (eq-eqb u s.unit e, eq-eqb q s.slot f) refl

pub is_at_parts : (u q : ℕ) (s : Put) → is_at u q s ≡ true → (u ≡ s.unit) × (q ≡ s.slot)
is_at_parts u q s e = let p = and_parts (nat_eq u s.unit) (nat_eq q s.slot) e in (eqb-true u s.unit p.0, eqb-true q s.slot p.1)

-- one slot was changed
pub changed_one : (change : SlotUse → SlotUse) (set set' : List NodeTable) (s : Put) (x : SlotUse) → IsSet set → IsTrue (has_slot set s.unit s.slot) → x ≡ change (use_in set s.unit s.slot) → set' ≡ with_use set s.unit s.slot x → AreChanged change (s ∷ []) set set'
changed_one change set set' s x is_set there e is = record {
  uses = λ m p h. ap (λ l. use_in l m p) is ∙ go m p (is_at m p s) refl;
  same_words = ap words_of is ∙ map_changed (λ t. t.words) set s.unit (λ t. with_uses t (slice_set t.uses s.slot x)) (λ t. refl);
  told = ap tables_of_set is ∙ told_kept set 0 s.unit s.slot x;
  fits = record {
    units = ap units_of is ∙ map_changed (λ t. t.unit) set s.unit (λ t. with_uses t (slice_set t.uses s.slot x)) (λ t. refl);
    wide = λ kinds f. ap (fits_kinds kinds) is ∙ all_changed (λ t. fits_by kinds t.width t.unit) set s.unit (λ t. with_uses t (slice_set t.uses s.slot x)) (λ t. refl) ∙ f;
  };
}
  where
    go : (m p : ℕ) (b : Bool) → is_at m p s ≡ b → use_in (with_use set s.unit s.slot x) m p ≡ (if b || false then change (use_in set m p) else use_in set m p)
    go m p true h =
        let k = is_at_parts m p s h in
        let t = slot_held set s.unit s.slot is_set there in
        ap (λ n. use_in (with_use set s.unit s.slot x) n p) k.0
        ∙ ap (λ n. use_in (with_use set s.unit s.slot x) s.unit n) k.1
        ∙ use_changed set s.unit s.slot t.0 x t.1 t.2
        ∙ e
        ∙ ap (λ n. change (use_in set n s.slot)) (sym k.0)
        ∙ ap (λ n. change (use_in set m n)) (sym k.1)
    go m p false h = use_kept set s.unit s.slot m p x (λ a b. let c : true ≡ false = sym (is_at_self m p s a b) ∙ h in cc)

-- SLOT AFTER SLOT

any_append : (m p : ℕ) (xs ys : List Put) → list_any (is_at m p) (xs ++ ys) ≡ (list_any (is_at m p) xs || list_any (is_at m p) ys)
any_append m p [] ys = refl
any_append m p (x ∷ xs) ys = by (is_at m p x) (any_append m p xs ys)
  where
    by : (b : Bool) → list_any (is_at m p) (xs ++ ys) ≡ (list_any (is_at m p) xs || list_any (is_at m p) ys) → (b || list_any (is_at m p) (xs ++ ys)) ≡ ((b || list_any (is_at m p) xs) || list_any (is_at m p) ys)
    by true e = refl
    by false e = e

-- none yet
pub changed_none : (change : SlotUse → SlotUse) (ss : List Put) (set : List NodeTable) → [] ≡ ss → AreChanged change ss set set
changed_none change ss set e = subst (λ l. AreChanged change l set set) e (record { uses = λ m p h. refl; same_words = refl; told = refl; fits = fit_none set })

pub has_slot_kept : (set set' : List NodeTable) (m p : ℕ) → units_of set' ≡ units_of set → has_slot set' m p ≡ has_slot set m p
has_slot_kept set set' m p e = by set set' m e
  where
    by : (set set' : List NodeTable) (m : ℕ) → units_of set' ≡ units_of set → has_slot set' m p ≡ has_slot set m p
    by [] [] m e = refl
    by [] (t ∷ ts) m e = cc
    by (t ∷ ts) [] m e = cc
    by (t ∷ ts) (w ∷ ws) zero e = let f : w.unit ≡ t.unit = cc in ap (λ o. has_slot_by o p) f
    by (t ∷ ts) (w ∷ ws) (suc m) e = let f : units_of ws ≡ units_of ts = cc in by ts ws m f

-- slots, and then others
pub changed_then : (change : SlotUse → SlotUse) (xs ys whole : List Put) (a b c : List NodeTable) → whole ≡ xs ++ ys → ((m p : ℕ) → list_any (is_at m p) ys ≡ true → list_any (is_at m p) xs ≡ false) → AreChanged change xs a b → AreChanged change ys b c → AreChanged change whole a c
changed_then change xs ys whole a b c e apart x y = subst (λ l. AreChanged change l a c) (sym e) (record {
  uses = uses;
  same_words = y.same_words ∙ x.same_words;
  told = y.told ∙ x.told;
  fits = fit_then a b c x.fits y.fits;
})
  where
    uses : (m p : ℕ) → IsTrue (has_slot a m p) → use_in c m p ≡ (if list_any (is_at m p) (xs ++ ys) then change (use_in a m p) else use_in a m p)
    uses m p h = y.uses m p (has_slot_kept a b m p x.fits.units ∙ h) ∙ ap (λ u. if list_any (is_at m p) ys then change u else u) (x.uses m p h) ∙ by (list_any (is_at m p) xs) (list_any (is_at m p) ys) refl refl ∙ ap (λ t. if t then change (use_in a m p) else use_in a m p) (sym (any_append m p xs ys))
      where
        by : (s t : Bool) → list_any (is_at m p) xs ≡ s → list_any (is_at m p) ys ≡ t → (if t then change (if s then change (use_in a m p) else use_in a m p) else (if s then change (use_in a m p) else use_in a m p)) ≡ (if s || t then change (use_in a m p) else use_in a m p)
        by true true es et = let f : true ≡ false = sym es ∙ apart m p et in cc
        by true false es et = refl
        by false true es et = refl
        by false false es et = refl

-- the slots of a hop before one of them are not at it
pub before_apart : (u : UnitPart) (r : Rights) (hop : Hop) (from k q m p : ℕ) → from + k ≡ q → list_any (is_at m p) (put_at hop.unit q (slot_record u r hop q) ∷ []) ≡ true → list_any (is_at m p) (slots_from u r hop from k) ≡ false
before_apart u r hop from k q m p e h = by k from e
  where
    at : p ≡ q
    at = (is_at_parts m p (put_at hop.unit q (slot_record u r hop q)) (one (is_at m p (put_at hop.unit q (slot_record u r hop q))) h)).1
      where
        one : (b : Bool) → (b || false) ≡ true → b ≡ true
        one true e = refl
        one false e = cc

    by : (k from : ℕ) → from + k ≡ q → list_any (is_at m p) (slots_from u r hop from k) ≡ false
    by zero from e = refl
    by (suc k) from e = go (is_at m p (put_at hop.unit from (slot_record u r hop from))) refl (by k (suc from) (omega arith))
      where
        go : (b : Bool) → is_at m p (put_at hop.unit from (slot_record u r hop from)) ≡ b → list_any (is_at m p) (slots_from u r hop (suc from) k) ≡ false → (b || list_any (is_at m p) (slots_from u r hop (suc from) k)) ≡ false
        go true f g = let s : p ≡ from = (is_at_parts m p (put_at hop.unit from (slot_record u r hop from)) f).1 in let w : p ≡ q = at in absurd (omega arith)
        go false f g = g

-- what is known before the use of one slot of a hop is changed
pub record IsUseTurn (a b : List NodeTable) (u : UnitPart) (size : ℕ) (hop : Hop) (q : ℕ) : Type 0 where
  pub there : IsTrue (has_slot b hop.unit q)
  pub is_in : Member (put_at hop.unit q (slot_record u both_rights hop q)) (hop_slots_by (Some u) size both_rights hop)
  pub same : use_in b hop.unit q ≡ use_in a hop.unit q

pub use_turn : (change : SlotUse → SlotUse) (a b : List NodeTable) (u : UnitPart) (size : ℕ) (hop : Hop) (q : ℕ) → unit_in a hop.unit ≡ Some u → TakesSlots u size hop → first_slot u hop ≤ q → q < suc (last_slot u size hop) → AreChanged change (so_far u both_rights hop q) a b → IsUseTurn a b u size hop q
use_turn change a b u size hop q e f low high x =
    let before : IsTrue (has_slot a hop.unit q) = slot_there a u size hop q e f high in
    let s : Put = put_at hop.unit q (slot_record u both_rights hop q) in
    let none : list_any (is_at hop.unit q) (so_far u both_rights hop q) ≡ false = before_apart u both_rights hop (first_slot u hop) (q - first_slot u hop) q hop.unit q (omega arith) (ap (λ t. t || false) (is_at_self hop.unit q s refl refl)) in
    let count : first_slot u hop + slot_count u size hop ≡ suc (last_slot u size hop) = omega arith in
    record {
      there = has_slot_kept a b hop.unit q x.fits.units ∙ before;
      is_in = in_hop u both_rights hop (first_slot u hop) (slot_count u size hop) q low (omega arith);
      same = x.uses hop.unit q before ∙ ap (λ t. if t then change (use_in a hop.unit q) else use_in a hop.unit q) none;
    }

-- one slot more
pub changed_slot : (change : SlotUse → SlotUse) (a b c : List NodeTable) (u : UnitPart) (hop : Hop) (q : ℕ) → first_slot u hop ≤ q → AreChanged change (so_far u both_rights hop q) a b → AreChanged change (put_at hop.unit q (slot_record u both_rights hop q) ∷ []) b c → AreChanged change (so_far u both_rights hop (q + 1)) a c
changed_slot change a b c u hop q low x y =
    changed_then change (so_far u both_rights hop q) (put_at hop.unit q (slot_record u both_rights hop q) ∷ []) (so_far u both_rights hop (q + 1)) a b c (so_far_more u both_rights hop q low)
    (λ m p h. before_apart u both_rights hop (first_slot u hop) (q - first_slot u hop) q m p (omega arith) h) x y

-- all slots of a hop
pub changed_whole : (change : SlotUse → SlotUse) (a b : List NodeTable) (u : UnitPart) (size : ℕ) (hop : Hop) (q : ℕ) → q ≡ suc (last_slot u size hop) → AreChanged change (so_far u both_rights hop q) a b → AreChanged change (hop_slots_by (Some u) size both_rights hop) a b
changed_whole change a b u size hop q e x = subst (λ l. AreChanged change l a b) (so_far_all u size both_rights hop q e) x

-- HOP AFTER HOP

-- the slots of a hop are those that it takes
any_slots : (u : UnitPart) (r : Rights) (hop : Hop) (m p from k : ℕ) → list_any (is_at m p) (slots_from u r hop from k) ≡ (nat_eq m hop.unit && (nat_le from p && nat_lt p (from + k)))
any_slots u r hop m p from zero = by (nat_eq m hop.unit) (nat_le from p) (nat_lt p (from + zero)) refl refl
  where
    by : (a b c : Bool) → nat_le from p ≡ b → nat_lt p (from + zero) ≡ c → false ≡ (a && (b && c))
    by true true true e f = let x = leb-true from p e in let y = ltb-true p (from + zero) f in absurd (omega arith)
    by true true false e f = refl
    by true false c e f = refl
    by false b c e f = refl
any_slots u r hop m p from (suc k) = ap (λ b. (nat_eq m hop.unit && nat_eq p from) || b) (any_slots u r hop m p (suc from) k) ∙ grind arith

pub taken_is : (net : List NodeDecl) (size : ℕ) (r : Rights) (hop : Hop) (m p : ℕ) → ((u : UnitPart) → unit_at net hop.unit ≡ Some u → first_slot u hop ≤ last_slot u size hop) → list_any (is_at m p) (hop_slots net size r hop) ≡ is_taken net size m p hop
taken_is net size r hop m p ordered = go (unit_at net hop.unit) refl
  where
    go : (o : Option UnitPart) → unit_at net hop.unit ≡ o → list_any (is_at m p) (hop_slots_by o size r hop) ≡ is_some (hop_record_by o size both_rights hop m p)
    go None e = refl
    go (Some u) e =
        let l = ordered u e in
        let n : first_slot u hop + slot_count u size hop ≡ suc (last_slot u size hop) = omega arith in
        any_slots u r hop m p (first_slot u hop) (slot_count u size hop)
        ∙ ap (λ k. nat_eq m hop.unit && (nat_le (first_slot u hop) p && nat_lt p k)) n
        ∙ by (nat_eq m hop.unit) (nat_le (first_slot u hop) p) (nat_le p (last_slot u size hop)) (nat_lt p (suc (last_slot u size hop))) (below p (last_slot u size hop))
      where
        below : (p n : ℕ) → nat_lt p (suc n) ≡ nat_le p n
        below p n = grind arith

        by : (a b c d : Bool) → d ≡ c → (a && (b && d)) ≡ is_some (if a && (b && c) then Some (slot_record u both_rights hop p) else None)
        by true true true d e = e
        by true true false d e = e
        by true false c d e = refl
        by false b c d e = refl

-- a hop takes slots of its unit alone
pub taken_unit : (net : List NodeDecl) (size : ℕ) (hop : Hop) (m p : ℕ) → is_taken net size m p hop ≡ true → m ≡ hop.unit
taken_unit net size hop m p e = go (unit_at net hop.unit) e
  where
    go : (o : Option UnitPart) → is_some (hop_record_by o size both_rights hop m p) ≡ true → m ≡ hop.unit
    go None e = cc
    go (Some u) e = by (nat_eq m hop.unit) (is_taken_by u size hop p) refl e
      where
        by : (a b : Bool) → nat_eq m hop.unit ≡ a → is_some (if a && b then Some (slot_record u both_rights hop p) else None) ≡ true → m ≡ hop.unit
        by true b ea e = eqb-true m hop.unit ea
        by false b ea e = cc

-- one hop more
changed_snoc : (net : List NodeDecl) (size : ℕ) (changes : ℕ → SlotUse → SlotUse) (first : ℕ) (hops : List Hop) (hop : Hop) (m p : ℕ) (u : SlotUse) → ((h : Hop) → Member h hops → is_taken net size m p hop ≡ true → is_taken net size m p h ≡ false) → changed_by net size changes first (hops ++ hop ∷ []) m p u ≡ (if is_taken net size m p hop then changes (first + length hops) (changed_by net size changes first hops m p u) else changed_by net size changes first hops m p u)
changed_snoc net size changes first [] hop m p u apart =
    let e : first ≡ first + zero = omega arith in
    ap (λ n. if is_taken net size m p hop then changes n u else u) e
changed_snoc net size changes first (h ∷ hops) hop m p u apart = go (is_taken net size m p h) refl (changed_snoc net size changes (suc first) hops hop m p u (λ k i t. apart k (inr i) t))
  where
    go : (b : Bool) → is_taken net size m p h ≡ b → changed_by net size changes (suc first) (hops ++ hop ∷ []) m p u ≡ (if is_taken net size m p hop then changes (suc first + length hops) (changed_by net size changes (suc first) hops m p u) else changed_by net size changes (suc first) hops m p u) → (if b then changes first u else changed_by net size changes (suc first) (hops ++ hop ∷ []) m p u) ≡ (if is_taken net size m p hop then changes (first + suc (length hops)) (if b then changes first u else changed_by net size changes (suc first) hops m p u) else (if b then changes first u else changed_by net size changes (suc first) hops m p u))
    go true e later = by (is_taken net size m p hop) refl
      where
        by : (t : Bool) → is_taken net size m p hop ≡ t → changes first u ≡ (if t then changes (first + suc (length hops)) (changes first u) else changes first u)
        by true f = let c : true ≡ false = sym e ∙ apart h (inl refl) f in cc
        by false f = refl
    go false e later =
        let n : suc first + length hops ≡ first + suc (length hops) = omega arith in
        later ∙ ap (λ k. if is_taken net size m p hop then changes k (changed_by net size changes (suc first) hops m p u) else changed_by net size changes (suc first) hops m p u) n

pub hops_none : (net : List NodeDecl) (size : ℕ) (changes : ℕ → SlotUse → SlotUse) (set : List NodeTable) → AreHopsChanged net size changes [] set set
hops_none net size changes set = record { uses = λ m p h. refl; same_words = refl; told = refl; fits = fit_none set }

member_taken : {X : Type 0} (xs : List X) (i : ℕ) (x : X) → Member x (take i xs) → (j : ℕ) × (j < i) × (slice_get xs j ≡ Some x)
member_taken [] zero x m = absurd m
member_taken [] (suc i) x m = absurd m
member_taken (y ∷ xs) zero x m = absurd m
member_taken (y ∷ xs) (suc i) x (inl e) = (0, (omega arith), ap Some e)
member_taken (y ∷ xs) (suc i) x (inr m) = let r = member_taken xs i x m in let l = r.1 in (suc r.0, (omega arith), r.2)

-- the slots of one hop more were changed
pub hops_next : (net : List NodeDecl) (size : ℕ) (changes : ℕ → SlotUse → SlotUse) (hops : List Hop) (i : ℕ) (hop : Hop) (a b c : List NodeTable) → AllPairs (λ (x y : Hop). x.unit ≢ y.unit) hops → slice_get hops i ≡ Some hop → ((u : UnitPart) → unit_at net hop.unit ≡ Some u → first_slot u hop ≤ last_slot u size hop) → AreHopsChanged net size changes (take i hops) a b → AreChanged (changes i) (hop_slots net size both_rights hop) b c → AreHopsChanged net size changes (take (i + 1) hops) a c
hops_next net size changes hops i hop a b c pairs at ordered x y = record {
  uses = uses;
  same_words = y.same_words ∙ x.same_words;
  told = y.told ∙ x.told;
  fits = fit_then a b c x.fits y.fits;
}
  where
    low : i < length hops
    low = slice_get_within hops i hop at

    more : take (i + 1) hops ≡ take i hops ++ hop ∷ []
    more = take_more hops i hop low ∙ ap (λ (h : Hop). take i hops ++ h ∷ []) (get_or_from_slice_get hops i hop hop at)

    count : length (take i hops) ≡ i
    count = length-take-le i hops (let l = low in omega arith)

    apart : (m p : ℕ) (h : Hop) → Member h (take i hops) → is_taken net size m p hop ≡ true → is_taken net size m p h ≡ false
    apart m p h k t = by (is_taken net size m p h) refl
      where
        by : (s : Bool) → is_taken net size m p h ≡ s → s ≡ false
        by true e =
            let j = member_taken hops i h k in
            let l = j.1 in
            absurd (units_apart hops j.0 i h hop pairs j.2 at (λ q. absurd (omega arith)) (sym (taken_unit net size h m p e) ∙ taken_unit net size hop m p t))
        by false e = refl

    uses : (m p : ℕ) → IsTrue (has_slot a m p) → use_in c m p ≡ changed_by net size changes 0 (take (i + 1) hops) m p (use_in a m p)
    uses m p h =
        let z : 0 + length (take i hops) ≡ i = (let n = count in omega arith) in
        y.uses m p (has_slot_kept a b m p x.fits.units ∙ h)
        ∙ ap (λ t. if t then changes i (use_in b m p) else use_in b m p) (taken_is net size both_rights hop m p ordered)
        ∙ ap (λ u. if is_taken net size m p hop then changes i u else u) (x.uses m p h)
        ∙ ap (λ n. if is_taken net size m p hop then changes n (changed_by net size changes 0 (take i hops) m p (use_in a m p)) else changed_by net size changes 0 (take i hops) m p (use_in a m p)) (sym z)
        ∙ sym (changed_snoc net size changes 0 (take i hops) hop m p (use_in a m p) (λ k n t. apart m p k n t))
        ∙ ap (λ l. changed_by net size changes 0 l m p (use_in a m p)) (sym more)

-- the uses of slots of a later hop are as they were
pub hops_later : (net : List NodeDecl) (size : ℕ) (changes : ℕ → SlotUse → SlotUse) (hops : List Hop) (i : ℕ) (hop : Hop) (a b : List NodeTable) → AllPairs (λ (x y : Hop). x.unit ≢ y.unit) hops → slice_get hops i ≡ Some hop → AreHopsChanged net size changes (take i hops) a b → (m p : ℕ) → m ≡ hop.unit → IsTrue (has_slot a m p) → use_in b m p ≡ use_in a m p
hops_later net size changes hops i hop a b pairs at x m p e h = x.uses m p h ∙ none 0 (take i hops) (λ k n. n)
  where
    apart : (k : Hop) → Member k (take i hops) → is_taken net size m p k ≡ false
    apart k n = by (is_taken net size m p k) refl
      where
        by : (s : Bool) → is_taken net size m p k ≡ s → s ≡ false
        by true f =
            let j = member_taken hops i k n in
            let l = j.1 in
            absurd (units_apart hops j.0 i k hop pairs j.2 at (λ q. absurd (omega arith)) (sym (taken_unit net size k m p f) ∙ e))
        by false f = refl

    none : (first : ℕ) (ks : List Hop) → ((k : Hop) → Member k ks → Member k (take i hops)) → changed_by net size changes first ks m p (use_in a m p) ≡ use_in a m p
    none first [] sub = refl
    none first (k ∷ ks) sub = ap (λ t. if t then changes first (use_in a m p) else changed_by net size changes (suc first) ks m p (use_in a m p)) (apart k (sub k (inl refl))) ∙ none (suc first) ks (λ j n. sub j (inr n))

-- the slots of a hop are there
pub hop_slot_there : (net : List NodeDecl) (set : List NodeTable) (size : ℕ) (r : Rights) (hop : Hop) → units_of set ≡ map (λ d. d.unit) net → (u : UnitPart) × (unit_at net hop.unit ≡ Some u) × TakesSlots u size hop → (s : Put) → Member s (hop_slots net size r hop) → (s.unit ≡ hop.unit) × IsTrue (has_slot set s.unit s.slot)
hop_slot_there net set size r hop units f s m =
    let n : Member s (hop_slots_by (Some f.0) size r hop) = subst (λ o. Member s (hop_slots_by o size r hop)) f.1 m in
    let i = of_hop f.0 r hop (first_slot f.0 hop) (slot_count f.0 size hop) s n in
    let l = i.low in
    let h = i.high in
    let b = first_before f.0 size hop f.2 in
    let e : s.unit ≡ hop.unit = ap (λ (t : Put). t.unit) i.is in
    let at : unit_in set hop.unit ≡ Some f.0 = unit_by_units net set units hop.unit ∙ f.1 in
    (e, subst (λ n. IsTrue (has_slot set n s.slot)) (sym e) (slot_there set f.0 size hop s.slot at f.2 (omega arith)))

-- the slots of a hop are in order
pub hop_ordered : (net : List NodeDecl) (size : ℕ) (hop : Hop) → (u : UnitPart) × (unit_at net hop.unit ≡ Some u) × TakesSlots u size hop → (v : UnitPart) → unit_at net hop.unit ≡ Some v → first_slot v hop ≤ last_slot v size hop
hop_ordered net size hop f v e = first_before v size hop (subst (λ w. TakesSlots w size hop) (same_Some f.0 v (sym f.1 ∙ e)) f.2)
