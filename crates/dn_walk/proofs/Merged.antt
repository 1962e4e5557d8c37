-- Legs of entries that are merged with those of gaps are the legs in order.
use Rattle.std.proofs.Common.{◌≡◌, ℕ, suc, ◌+◌, ◌<◌, ◌≤◌, Bool, true, false, cond, ◌&&◌, not, nat_lt, List, [], ◌∷◌, ◌++◌, map, length, get_or, drop, slice_get, Some, refl, sym, ap, ◌∙◌, subst, arith}
use Rattle.std.specs.List.{Contains, filter, flat_map}
use Rattle.std.specs.List.Sorted.{IsNonDecreasingBy, IsStableByKey, ties}
use Rattle.std.specs.Ordering.{nat_cmp}
use Rattle.std.proofs.lemmas.Bool.{le-ltb, ltb-false}
use Rattle.std.proofs.lemmas.List.Elements.{filter-append}
use Rattle.std.proofs.lemmas.List.Sorted.{IsStrictWeakOrder-by_number}
use Rattle.dn_base.proofs.Lists.{Each, slice_get-at, slice_get_within}
use Rattle.dn_interval.specs.declared.row.Seg.{Seg}
use Rattle.dn_interval.specs.declared.span.Span.{Span}
use Rattle.dn_interval.specs.Spans.{AreMaximal, StandFrom}
use Rattle.dn_net.specs.declared.entries.Place.{Place}
use Rattle.dn_net.specs.declared.node.Block.{Block}
use Rattle.dn_net.specs.declared.node.Dest.{Dest}
use Rattle.dn_net.specs.declared.node.Entry.{Entry}
use Rattle.dn_net.specs.Order.{places_from}
use Rattle.dn_net.specs.Walks.{in_order}
use Rattle.dn_net.proofs.Latest.{place_stands}
use Rattle.dn_net.proofs.Members.{some_same}
use Rattle.dn_net.proofs.Woven.{Ascends, lower, ascends_from, ascends_to, woven, woven_all, woven_ascends, woven_more, woven_passes}
use Rattle.dn_walk.specs.Legs.{BareLeg, leg_view, dest_leg, dests_of, place_legs, bare_entry_legs, gap_leg, leg_before, span_view}
use Rattle.dn_walk.proofs.BareWalks.{rise_back}
use Rattle.dn_walk.proofs.Keys.{places_stay}
use Rattle.dn_walk.proofs.Sorting.{Rises, rising_is}

-- the legs of places of entries, with other legs before those that begin no lower
abbrev pub merged : List Entry → List Place → List Seg → List BareLeg
merged entries order gaps = woven (λ (p : Place). p.block.lo) (λ (s : Seg). s.span.lo) (place_legs entries) leg_view order gaps

-- one place more, as a loop puts its legs behind what is made
pub merged_more : (entries : List Entry) (made whole : List BareLeg) (order : List Place) (i : ℕ) (d : Place) (rest : List Seg) → i < length order → made ++ merged entries (drop i order) rest ≡ whole → ((made ++ map leg_view (filter (λ s. nat_lt s.span.lo (get_or order i d).block.lo) rest)) ++ place_legs entries (get_or order i d)) ++ merged entries (drop (i + 1) order) (filter (λ s. not (nat_lt s.span.lo (get_or order i d).block.lo)) rest) ≡ whole
merged_more entries = woven_more (λ (p : Place). p.block.lo) (λ (s : Seg). s.span.lo) (place_legs entries) leg_view

-- and all of them
pub merged_all : (entries : List Entry) (made whole : List BareLeg) (order : List Place) (i : ℕ) (rest : List Seg) → length order ≤ i → made ++ merged entries (drop i order) rest ≡ whole → made ++ map leg_view rest ≡ whole
merged_all entries = woven_all (λ (p : Place). p.block.lo) (λ (s : Seg). s.span.lo) (place_legs entries) leg_view

-- the legs of the places of all entries are those of the entries
places_legs : (all : List Entry) (n : ℕ) (es : List Entry) → ((k : ℕ) → slice_get all (n + k) ≡ slice_get es k) → flat_map (place_legs all) (places_from n es) ≡ bare_entry_legs es
places_legs all n [] at = refl
places_legs all n (e ∷ es) at =
    let z : n ≡ n + 0 = omega arith in
    let rest = places_legs all (n + 1) es (λ k. let s : (n + 1) + k ≡ n + suc k = omega arith in ap (slice_get all) s ∙ at (suc k)) in
    ap (λ o. map (dest_leg e.block) (dests_of o) ++ flat_map (place_legs all) (places_from (n + 1) es)) (ap (slice_get all) z ∙ at 0)
    ∙ ap (λ l. map (dest_leg e.block) e.dests ++ l) rest

-- a place of some entries is within them, and has the block of its entry
pub entry_within : (es : List Entry) (p : Place) → Contains (places_from 0 es) p → p.entry < length es
entry_within es p c = let r = place_stands es p c in slice_get_within es p.entry r.entry r.at

pub entry_there : (es : List Entry) (p : Place) (e : Entry) → Contains (places_from 0 es) p → e ≡ get_or es p.entry e → (slice_get es p.entry ≡ Some e) × (p.block ≡ e.block)
entry_there es p e c is =
    let r = place_stands es p c in
    let at : slice_get es p.entry ≡ Some e = sym (slice_get-at es p.entry e (entry_within es p c) is) in
    let s : r.entry ≡ e = some_same r.entry e (sym r.at ∙ at) in
    (at, r.block ∙ ap (λ (f : Entry). f.block) s)

-- so the legs of the place are those of the entry
pub entry_legs : (es : List Entry) (p : Place) (e : Entry) → slice_get es p.entry ≡ Some e → place_legs es p ≡ map (dest_leg p.block) e.dests
entry_legs es p e at = ap (λ o. map (dest_leg p.block) (dests_of o)) at

-- each leg of a place begins where its block does
firsts : (b : Block) (ds : List Dest) → Each (λ (l : BareLeg). l.lo ≡ b.lo) (map (dest_leg b) ds)
firsts b [] = tt
firsts b (d ∷ ds) = (refl, firsts b ds)

-- so all or none of them tie with a leg
tied : (t : BareLeg) (b : Block) (ds : List Dest) (rest : List BareLeg) → filter (ties leg_before t) (map (dest_leg b) ds ++ rest) ≡ cond (not (nat_lt t.lo b.lo) && not (nat_lt b.lo t.lo)) (map (dest_leg b) ds ++ filter (ties leg_before t) rest) (filter (ties leg_before t) rest)
tied t b ds rest = by (not (nat_lt t.lo b.lo) && not (nat_lt b.lo t.lo)) refl ds
  where
    by : (c : Bool) → (not (nat_lt t.lo b.lo) && not (nat_lt b.lo t.lo)) ≡ c → (ds : List Dest) → filter (ties leg_before t) (map (dest_leg b) ds ++ rest) ≡ cond c (map (dest_leg b) ds ++ filter (ties leg_before t) rest) (filter (ties leg_before t) rest)
    by true e [] = refl
    by false e [] = refl
    by true e (d ∷ ds) = ap (λ c. cond c (dest_leg b d ∷ filter (ties leg_before t) (map (dest_leg b) ds ++ rest)) (filter (ties leg_before t) (map (dest_leg b) ds ++ rest))) e ∙ ap (λ l. dest_leg b d ∷ l) (by true e ds)
    by false e (d ∷ ds) = ap (λ c. cond c (dest_leg b d ∷ filter (ties leg_before t) (map (dest_leg b) ds ++ rest)) (filter (ties leg_before t) (map (dest_leg b) ds ++ rest))) e ∙ by false e ds

-- a place whose block begins where the leg does
abbrev place_at : BareLeg → Place
place_at t = record { block = record { lo = t.lo; hi = t.hi }; entry = 0 }

abbrev place_before : Place → Place → Bool
place_before p q = nat_lt p.block.lo q.block.lo

-- the legs that tie with one are those of the places that tie with such a place
tied_places : (entries : List Entry) (t : BareLeg) (ps : List Place) → filter (ties leg_before t) (flat_map (place_legs entries) ps) ≡ flat_map (place_legs entries) (filter (ties place_before (place_at t)) ps)
tied_places entries t [] = refl
tied_places entries t (p ∷ ps) = tied t p.block (dests_of (slice_get entries p.entry)) (flat_map (place_legs entries) ps) ∙ by (ties place_before (place_at t) p) (tied_places entries t ps)
  where
    by : (c : Bool) → filter (ties leg_before t) (flat_map (place_legs entries) ps) ≡ flat_map (place_legs entries) (filter (ties place_before (place_at t)) ps) → cond c (place_legs entries p ++ filter (ties leg_before t) (flat_map (place_legs entries) ps)) (filter (ties leg_before t) (flat_map (place_legs entries) ps)) ≡ flat_map (place_legs entries) (cond c (p ∷ filter (ties place_before (place_at t)) ps) (filter (ties place_before (place_at t)) ps))
    by true ih = ap (λ l. place_legs entries p ++ l) ih
    by false ih = ih

-- a leg that ties begins where the other does
tie_is : (t l : BareLeg) → ties leg_before t l ≡ true → l.lo ≡ t.lo
tie_is t l h = by (nat_lt t.lo l.lo) (nat_lt l.lo t.lo) refl refl h
  where
    by : (a b : Bool) → nat_lt t.lo l.lo ≡ a → nat_lt l.lo t.lo ≡ b → (not a && not b) ≡ true → l.lo ≡ t.lo
    by false false e f g = let m = ltb-false t.lo l.lo e in let n = ltb-false l.lo t.lo f in omega (arith, m, n)
    by false true e f g = cc
    by true b e f g = cc

-- legs whose first addresses do not fall
rises : (n : ℕ) (ls : List BareLeg) → Ascends (λ (l : BareLeg). l.lo) n ls → Rises leg_before ls
rises n [] a = tt
rises n (l ∷ ls) a = (none l.lo ls a.1, rises l.lo ls a.1)
  where
    none : (k : ℕ) (ms : List BareLeg) → Ascends (λ (m : BareLeg). m.lo) k ms → Each (λ (m : BareLeg). nat_lt m.lo k ≡ false) ms
    none k [] b = tt
    none k (m ∷ ms) b =
        let s : k ≤ m.lo = b.0 in
        (le-ltb m.lo k s, none k ms (lower (λ (x : BareLeg). x.lo) k m.lo ms s b.1))

-- the legs that are merged are the legs in order
pub merged_is : (entries : List Entry) (order : List Place) (gaps : List Seg) → IsStableByKey (λ p. p.block.lo) nat_cmp (places_from 0 entries) order → IsNonDecreasingBy (λ p. p.block.lo) order → IsNonDecreasingBy (λ s. s.span.lo) gaps → merged entries order gaps ≡ in_order leg_before (bare_entry_legs entries ++ map leg_view gaps)
merged_is entries order gaps stable up down = rising_is leg_before (IsStrictWeakOrder-by_number (λ (l : BareLeg). l.lo)) (bare_entry_legs entries ++ map leg_view gaps) (merged entries order gaps) (rises 0 (merged entries order gaps) in_turn) same
  where
    places : Ascends (λ (p : Place). p.block.lo) 0 order
    places = ascends_from (λ (p : Place). p.block.lo) 0 order up (λ d l. omega arith)

    in_turn : Ascends (λ (l : BareLeg). l.lo) 0 (merged entries order gaps)
    in_turn = woven_ascends (λ (p : Place). p.block.lo) (λ (s : Seg). s.span.lo) (place_legs entries) leg_view (λ (l : BareLeg). l.lo) (λ p. firsts p.block (dests_of (slice_get entries p.entry))) (λ s. refl) 0 order gaps places (ascends_from (λ (s : Seg). s.span.lo) 0 gaps down (λ d l. omega arith))

    same : (t : BareLeg) → filter (ties leg_before t) (merged entries order gaps) ≡ filter (ties leg_before t) (bare_entry_legs entries ++ map leg_view gaps)
    same t =
        woven_passes (λ (p : Place). p.block.lo) (λ (s : Seg). s.span.lo) (place_legs entries) leg_view (λ (l : BareLeg). l.lo) (λ p. firsts p.block (dests_of (slice_get entries p.entry))) (λ s. refl) (ties leg_before t) t.lo (tie_is t) 0 order gaps places
        ∙ ap (λ l. l ++ filter (ties leg_before t) (map leg_view gaps)) (tied_places entries t order ∙ ap (flat_map (place_legs entries)) (places_stay (places_from 0 entries) order stable (place_at t)) ∙ sym (tied_places entries t (places_from 0 entries)) ∙ ap (filter (ties leg_before t)) (places_legs entries 0 entries (λ k. let z : 0 + k ≡ k = omega arith in ap (slice_get entries) z)))
        ∙ sym (filter-append (ties leg_before t) (bare_entry_legs entries) (map leg_view gaps))

-- the legs of maximal spans ascend
stand_rise : (m from : ℕ) (spans : List Span) → StandFrom from spans → Ascends (λ (l : BareLeg). l.lo) from (map (gap_leg m) (map span_view spans))
stand_rise m from [] h = tt
stand_rise m from (s ∷ spans) h =
    let o : s.lo ≤ s.hi = s.ordered in
    (h.0, lower (λ (l : BareLeg). l.lo) s.lo (s.hi + 2) (map (gap_leg m) (map span_view spans)) (omega (arith, o)) (stand_rise m (s.hi + 2) spans h.1))

pub gaps_rise : (m : ℕ) (spans : List Span) (segs : List Seg) → AreMaximal spans → map leg_view segs ≡ map (gap_leg m) (map span_view spans) → IsNonDecreasingBy (λ s. s.span.lo) segs
gaps_rise m spans segs maximal e = rise_back leg_view (λ (l : BareLeg). l.lo) segs (subst (λ ls. IsNonDecreasingBy (λ (l : BareLeg). l.lo) ls) (sym e) (ascends_to (λ (l : BareLeg). l.lo) 0 (map (gap_leg m) (map span_view spans)) (stand_rise m 0 spans maximal)))
