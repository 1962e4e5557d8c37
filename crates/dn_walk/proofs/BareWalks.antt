-- WalkLevels without the choices: what each row of them keeps, and how the next one is made.
use Rattle.std.proofs.Common.{◌≡◌, ℕ, zero, suc, ◌+◌, ◌-◌, ◌<◌, ◌≤◌, inl, inr, Bool, true, false, cond, List, [], ◌∷◌, ◌++◌, map, length, get_or, slice_get, take, drop, Option, Some, None, IfSome, refl, sym, ap, ◌∙◌, subst, arith, IsTrue}
use Rattle.std.specs.List.{All, filter, flat_map}
use Rattle.std.specs.List.Sorted.{IsNonDecreasingBy}
use Rattle.std.proofs.lemmas.List.{take_more, map-append, length-append, take-map, length-map, get_or-map, append-nil, drop-append-le}
use Rattle.std.proofs.lemmas.List.Elements.{filter_passes}
use Rattle.std.proofs.lemmas.Option.{slice_get-get_or}
use Rattle.std.proofs.lemmas.Grind.{flat_map-append}
use Rattle.std.proofs.lemmas.List.Folds.{length-flat_map-take}
use Rattle.dn_interval.specs.declared.row.Seg.{Seg}
use Rattle.dn_net.specs.Chain.{Member}
use Rattle.dn_net.specs.Decode.{top}
use Rattle.dn_net.specs.Walks.{greater_of, lesser_of, in_order}
use Rattle.dn_net.specs.WalkRules.{Broken, is_wide, walk_limit}
use Rattle.dn_walk.specs.declared.walks.WalkRow.{WalkRow}
use Rattle.dn_walk.specs.Rows.{BareWalk, row_view}
use Rattle.dn_walk.specs.Legs.{BareLeg, AreLegs, IsLegOf, leg_view}
use Rattle.dn_walk.specs.Levels.{bare_meets, bare_onto, bare_extensions_by, bare_extensions, bare_still_walk, bare_still_walks, bare_level, bare_walks, bare_levels, bare_before, IsRowOf}
use Rattle.dn_base.proofs.Members.{map_member, member_map, member_get_or, member_of_all}
use Rattle.dn_net.proofs.Members.{member_filter, member_flat_map}
use Rattle.dn_walk.proofs.Meets.{meets_parts, max_is, min_is}
use Rattle.dn_walk.proofs.Sorting.{length_in_order}

-- the definitions, one step each
pub level-zero : (legs : List (List BareLeg)) → bare_level legs 0 ≡ bare_still_walks 0 (length legs)
unfolding bare_level
level-zero legs = refl

pub level-suc : (legs : List (List BareLeg)) (k : ℕ) → bare_level legs (suc k) ≡ flat_map (bare_extensions legs) (bare_level legs k)
unfolding bare_level
level-suc legs k = refl

pub walks-zero : (legs : List (List BareLeg)) → bare_walks legs 0 ≡ []
unfolding bare_walks
walks-zero legs = refl

pub walks-suc : (legs : List (List BareLeg)) (k : ℕ) → bare_walks legs (suc k) ≡ bare_walks legs k ++ in_order bare_before (bare_level legs (suc k))
unfolding bare_walks
walks-suc legs k = refl

pub levels-zero : (legs : List (List BareLeg)) → bare_levels legs 0 ≡ []
unfolding bare_levels
levels-zero legs = refl

pub levels-suc : (legs : List (List BareLeg)) (k : ℕ) → bare_levels legs (suc k) ≡ bare_levels legs k ++ in_order bare_before (bare_level legs k) ∷ []
unfolding bare_levels
levels-suc legs k = refl

pub length_levels : (legs : List (List BareLeg)) (k : ℕ) → length (bare_levels legs k) ≡ k
length_levels legs zero = ap length (levels-zero legs)
length_levels legs (suc k) =
    let ih = length_levels legs k in
    ap length (levels-suc legs k) ∙ length-append (bare_levels legs k) (in_order bare_before (bare_level legs k) ∷ []) ∙ omega (arith, ih)

-- how many walks there are
pub length_walks : (legs : List (List BareLeg)) (k : ℕ) → length (bare_walks legs (suc k)) ≡ length (bare_walks legs k) + length (bare_level legs (suc k))
length_walks legs k = ap length (walks-suc legs k) ∙ length-append (bare_walks legs k) (in_order bare_before (bare_level legs (suc k))) ∙ ap (λ n. length (bare_walks legs k) + n) (length_in_order bare_before (bare_level legs (suc k)))

pub rise_back : {X Y : Type 0} (f : X → Y) (n : Y → ℕ) (xs : List X) → IsNonDecreasingBy n (map f xs) → IsNonDecreasingBy (λ x. n (f x)) xs
rise_back f n xs h i j d l m =
    let k = length-map xs f in
    let a = get_or-map f xs i d (f d) (omega arith) in
    let b = get_or-map f xs j d (f d) m in
    subst (λ t. n (f (get_or xs i d)) ≤ n t) b (subst (λ t. n t ≤ n (get_or (map f xs) j (f d))) a (h i j (f d) l (omega arith)))

-- stills
pub stills_more : (n k : ℕ) → bare_still_walks n (suc k) ≡ bare_still_walks n k ++ bare_still_walk (n + k) ∷ []
stills_more n zero = let e : n ≡ n + 0 = omega arith in ap (λ m. bare_still_walk m ∷ []) e
stills_more n (suc k) = let e : suc n + k ≡ n + suc k = omega arith in ap (λ l. bare_still_walk n ∷ l) (stills_more (suc n) k ∙ ap (λ m. bare_still_walks (suc n) k ++ bare_still_walk m ∷ []) e)

still_is : (count n k : ℕ) (t : BareWalk) → n + k ≤ count → Member t (bare_still_walks n k) → IsRowOf count 0 t
still_is count n zero t l m = absurd m
still_is count n (suc k) t l (inl e) = subst (λ u. IsRowOf count 0 u) e record { order = omega arith; low = omega arith; start = omega arith; end = omega arith; reach = omega arith; len = omega arith }
still_is count n (suc k) t l (inr m) = still_is count (suc n) k t (omega arith) m

onto_is : (count k : ℕ) (t : BareWalk) (l : BareLeg) → IsRowOf count k t → IsLegOf count l → IsTrue (bare_meets t l) → IsRowOf count (suc k) (bare_onto t l)
onto_is count k t l r g h =
    let m = meets_parts t l h in
    let m0 : t.base ≤ l.hi = m.0 in
    let m1 : l.lo ≤ t.base + (t.hi - t.lo) = m.1 in
    let o = r.order in
    let p = r.low in
    let q = r.reach in
    let u = g.order in
    let v = g.low in
    let w = g.reach in
    let n = r.len in
    let a = max_is t.base l.lo in
    let b = min_is (t.base + (t.hi - t.lo)) l.hi in
    let order : t.lo + (greater_of t.base l.lo - t.base) ≤ t.lo + (lesser_of (t.base + (t.hi - t.lo)) l.hi - t.base) = omega (arith, a, b) in
    let low : t.lo + (lesser_of (t.base + (t.hi - t.lo)) l.hi - t.base) ≤ top = omega (arith, a, b) in
    let reach : (l.addr + (greater_of t.base l.lo - l.lo)) + ((t.lo + (lesser_of (t.base + (t.hi - t.lo)) l.hi - t.base)) - (t.lo + (greater_of t.base l.lo - t.base))) ≤ top = omega (arith, a, b) in
    record { order = order; low = low; start = r.start; end = g.node; reach = reach; len = omega arith }

-- each walk of a level
pub level_is : (legs : List (List BareLeg)) → All (AreLegs (length legs)) legs → (k : ℕ) (t : BareWalk) → Member t (bare_level legs k) → IsRowOf (length legs) k t
level_is legs all zero t m = still_is (length legs) 0 (length legs) t (omega arith) (subst (λ l. Member t l) (level-zero legs) m)
level_is legs all (suc k) t m =
    let p = member_flat_map (bare_extensions legs) (bare_level legs k) t (subst (λ l. Member t l) (level-suc legs k) m) in
    let r = level_is legs all k p.0 p.1 in
    let ls = get_or legs p.0.end [] in
    let are : AreLegs (length legs) ls = all p.0.end [] r.end in
    let q = map_member (bare_onto p.0) (filter (bare_meets p.0) ls) t p.2 in
    let f = member_filter (bare_meets p.0) ls q.0 q.1 in
    subst (λ u. IsRowOf (length legs) (suc k) u) q.2 (onto_is (length legs) k p.0 q.0 r (member_of_all (IsLegOf (length legs)) ls q.0 are.each f.0) f.1)

row_of_more : (count k n : ℕ) (t : BareWalk) → k ≤ n → IsRowOf count k t → IsRowOf count n t
row_of_more count k n t l r = let m = r.len in record { order = r.order; low = r.low; start = r.start; end = r.end; reach = r.reach; len = omega arith }

-- the rows of a level
pub rows_are : (legs : List (List BareLeg)) → All (AreLegs (length legs)) legs → (k n : ℕ) → k ≤ n → (rows : List WalkRow) → map row_view rows ≡ bare_level legs k → All (λ r. IsRowOf (length legs) n (row_view r)) rows
rows_are legs all k n l rows e = λ j d b.
    row_of_more (length legs) k n (row_view (get_or rows j d)) l (level_is legs all k (row_view (get_or rows j d)) (subst (λ x. Member (row_view (get_or rows j d)) x) e (member_map row_view rows (get_or rows j d) (member_get_or rows j d b))))

-- one more row goes on
pub extended_more : (legs : List (List BareLeg)) (rows : List WalkRow) (i : ℕ) (r : WalkRow) → i < length rows → r ≡ get_or rows i r → flat_map (bare_extensions legs) (map row_view (take (i + 1) rows)) ≡ flat_map (bare_extensions legs) (map row_view (take i rows)) ++ bare_extensions legs (row_view r)
extended_more legs rows i r l e =
    ap (λ x. flat_map (bare_extensions legs) (map row_view x)) (take_more rows i r l ∙ ap (λ x. take i rows ++ x ∷ []) (sym e))
    ∙ ap (flat_map (bare_extensions legs)) (map-append row_view (take i rows) (r ∷ []))
    ∙ flat_map-append (bare_extensions legs) (map row_view (take i rows)) (row_view r ∷ [])
    ∙ ap (λ x. flat_map (bare_extensions legs) (map row_view (take i rows)) ++ x) (nothing_behind (bare_extensions legs (row_view r)))
  where
    nothing_behind : (xs : List BareWalk) → xs ++ [] ≡ xs
    nothing_behind [] = refl
    nothing_behind (x ∷ xs) = ap (λ l. x ∷ l) (nothing_behind xs)

-- and there are no fewer in all
pub extended_least : (legs : List (List BareLeg)) (rows : List WalkRow) (i : ℕ) (r : WalkRow) → i < length rows → r ≡ get_or rows i r → length (flat_map (bare_extensions legs) (map row_view (take i rows))) + length (bare_extensions legs (row_view r)) ≤ length (flat_map (bare_extensions legs) (map row_view rows))
extended_least legs rows i r l e =
    let n : length (map row_view rows) ≡ length rows = length-map rows row_view in
    let h = length-flat_map-take (bare_extensions legs) (map row_view rows) i (row_view r) (omega arith) in
    let a : get_or (map row_view rows) i (row_view r) ≡ row_view r = get_or-map row_view rows i r (row_view r) l ∙ ap row_view (sym e) in
    let b : take i (map row_view rows) ≡ map row_view (take i rows) = take-map row_view i rows in
    subst (λ x. length (flat_map (bare_extensions legs) x) + length (bare_extensions legs (row_view r)) ≤ length (flat_map (bare_extensions legs) (map row_view rows))) b
    (subst (λ x. length (flat_map (bare_extensions legs) (take i (map row_view rows))) + length (bare_extensions legs x) ≤ length (flat_map (bare_extensions legs) (map row_view rows))) a h)

-- the legs of a node, by its number
pub legs_same : (legs : List (List BareLeg)) (end : ℕ) (ls : List BareLeg) → end < length legs → slice_get legs end ≡ Some ls → get_or legs end [] ≡ ls
legs_same legs end ls l e =
    let s : ◌≡◌ {A = Option (List BareLeg)} (Some (get_or legs end [])) (Some ls) = sym (slice_get-get_or legs end [] l) ∙ e in
    let g : get_or legs end [] ≡ ls = cc in
    g

pub legs_there : (legs : List (List BareLeg)) → All (AreLegs (length legs)) legs → (end : ℕ) (ls : List BareLeg) → end < length legs → slice_get legs end ≡ Some ls → AreLegs (length legs) ls
legs_there legs all end ls l e = subst (AreLegs (length legs)) (legs_same legs end ls l e) (all end [] l)

-- the legs that a walk meets
pub met_meet : (t : BareWalk) (legs met : List Seg) → met ≡ filter (λ s. bare_meets t (leg_view s)) legs → All (λ s. IsTrue (bare_meets t (leg_view s))) met
met_meet t legs met e = subst (All (λ (s : Seg). IsTrue (bare_meets t (leg_view s)))) (sym e) (filter_passes (λ s. bare_meets t (leg_view s)) legs)

met_view : (t : BareWalk) (legs : List Seg) → map leg_view (filter (λ s. bare_meets t (leg_view s)) legs) ≡ filter (bare_meets t) (map leg_view legs)
met_view t [] = refl
met_view t (s ∷ legs) = by (bare_meets t (leg_view s)) (met_view t legs)
  where
    by : (b : Bool) → map leg_view (filter (λ x. bare_meets t (leg_view x)) legs) ≡ filter (bare_meets t) (map leg_view legs) → map leg_view (cond b (s ∷ filter (λ x. bare_meets t (leg_view x)) legs) (filter (λ x. bare_meets t (leg_view x)) legs)) ≡ cond b (leg_view s ∷ filter (bare_meets t) (map leg_view legs)) (filter (bare_meets t) (map leg_view legs))
    by true e = ap (λ x. leg_view s ∷ x) e
    by false e = e

pub met_on : (t : BareWalk) (legs met : List Seg) → met ≡ filter (λ s. bare_meets t (leg_view s)) legs → map (bare_onto t) (map leg_view met) ≡ bare_extensions_by (map leg_view legs) t
met_on t legs met e = ap (λ x. map (bare_onto t) (map leg_view x)) e ∙ ap (map (bare_onto t)) (met_view t legs)

-- the next level, and how many walks there are with it
pub grown_wide : (legs : List (List BareLeg)) (k room : ℕ) (newest : List BareWalk) → newest ≡ bare_level legs k → room + length (bare_walks legs k) ≡ walk_limit → room < length (flat_map (bare_extensions legs) newest) → walk_limit < length (bare_walks legs (k + 1))
grown_wide legs k room newest e r l =
    let a : k + 1 ≡ suc k = omega arith in
    let b : length (flat_map (bare_extensions legs) newest) ≡ length (bare_level legs (suc k)) = ap (λ x. length (flat_map (bare_extensions legs) x)) e ∙ ap length (sym (level-suc legs k)) in
    let c = length_walks legs k in
    subst (λ n. walk_limit < length (bare_walks legs n)) (sym a) (omega arith)

pub grown_room : (legs : List (List BareLeg)) (k room n : ℕ) (newest next : List BareWalk) → newest ≡ bare_level legs k → next ≡ flat_map (bare_extensions legs) newest → room + length (bare_walks legs k) ≡ walk_limit → n ≡ length next → n ≤ room → (room - n) + length (bare_walks legs (k + 1)) ≡ walk_limit
grown_room legs k room n newest next e f r s l =
    let a : k + 1 ≡ suc k = omega arith in
    let b : length next ≡ length (bare_level legs (suc k)) = ap length (f ∙ ap (flat_map (bare_extensions legs)) e ∙ sym (level-suc legs k)) in
    let c = length_walks legs k in
    subst (λ m. (room - n) + length (bare_walks legs m) ≡ walk_limit) (sym a) (omega arith)

pub grown_level : (legs : List (List BareLeg)) (k : ℕ) (newest next : List BareWalk) → newest ≡ bare_level legs k → next ≡ flat_map (bare_extensions legs) newest → next ≡ bare_level legs (k + 1)
grown_level legs k newest next e f =
    let a : suc k ≡ k + 1 = omega arith in
    f ∙ ap (flat_map (bare_extensions legs)) e ∙ sym (level-suc legs k) ∙ ap (bare_level legs) a

pub grown_sorted : (legs : List (List BareLeg)) (k : ℕ) (sorted : List (List WalkRow)) (rows last : List WalkRow) → map (map row_view) sorted ≡ bare_levels legs k → map row_view rows ≡ bare_level legs k → map row_view last ≡ in_order bare_before (map row_view rows) → map (map row_view) (sorted ++ last ∷ []) ≡ bare_levels legs (k + 1)
grown_sorted legs k sorted rows last s e f =
    let a : suc k ≡ k + 1 = omega arith in
    map-append (map row_view) sorted (last ∷ [])
    ∙ ap (λ x. x ++ map row_view last ∷ []) s
    ∙ ap (λ x. bare_levels legs k ++ x ∷ []) (f ∙ ap (in_order bare_before) e)
    ∙ sym (levels-suc legs k)
    ∙ ap (bare_levels legs) a

-- the walks of the sorted levels but the first
walks_of : (legs : List (List BareLeg)) (k : ℕ) → flat_map (λ x. x) (drop 1 (bare_levels legs (suc k))) ≡ bare_walks legs k
walks_of legs zero = ap (λ l. flat_map (λ x. x) (drop 1 l)) (levels-suc legs 0 ∙ ap (λ l. l ++ in_order bare_before (bare_level legs 0) ∷ []) (levels-zero legs)) ∙ sym (walks-zero legs)
walks_of legs (suc k) =
    let n = length_levels legs (suc k) in
    ap (λ l. flat_map (λ x. x) (drop 1 l)) (levels-suc legs (suc k))
    ∙ ap (flat_map (λ x. x)) (drop-append-le 1 (bare_levels legs (suc k)) (in_order bare_before (bare_level legs (suc k)) ∷ []) (omega arith))
    ∙ flat_map-append (λ x. x) (drop 1 (bare_levels legs (suc k))) (in_order bare_before (bare_level legs (suc k)) ∷ [])
    ∙ ap (λ l. l ++ flat_map (λ x. x) (in_order bare_before (bare_level legs (suc k)) ∷ [])) (walks_of legs k)
    ∙ ap (λ l. bare_walks legs k ++ l) (append-nil (in_order bare_before (bare_level legs (suc k))))
    ∙ sym (walks-suc legs k)

map_flat : (xss : List (List WalkRow)) → map row_view (flat_map (λ x. x) xss) ≡ flat_map (λ x. x) (map (map row_view) xss)
map_flat [] = refl
map_flat (xs ∷ xss) = map-append row_view xs (flat_map (λ x. x) xss) ∙ ap (λ l. map row_view xs ++ l) (map_flat xss)

pub table_is : (legs : List (List BareLeg)) (k : ℕ) (sorted : List (List WalkRow)) → 0 < k → map (map row_view) sorted ≡ bare_levels legs k → map row_view (flat_map (λ x. x) (drop 1 sorted)) ≡ bare_walks legs (k - 1)
table_is legs zero sorted l s = absurd (omega arith)
table_is legs (suc k) sorted l s =
    let a : k ≡ suc k - 1 = omega arith in
    map_flat (drop 1 sorted) ∙ ap (flat_map (λ x. x)) (dropped sorted ∙ ap (drop 1) s) ∙ walks_of legs k ∙ ap (bare_walks legs) a
  where
    dropped : (xss : List (List WalkRow)) → map (map row_view) (drop 1 xss) ≡ drop 1 (map (map row_view) xss)
    dropped [] = refl
    dropped (xs ∷ xss) = refl

-- what `Wide` stands for may be weakened
pub wide_weaker : (P Q : Type 0) (o : Option Broken) → (P → Q) → IfSome o (λ b. (b ≡ is_wide) × P) → IfSome o (λ b. (b ≡ is_wide) × Q)
wide_weaker P Q None f h = tt
wide_weaker P Q (Some b) f h = (h.0, f h.1)
