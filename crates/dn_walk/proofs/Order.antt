-- The live walks stand in order of length, start, span and choices, each once.
use Rattle.std.proofs.Common.{◌≡◌, ℕ, zero, suc, ◌+◌, ◌-◌, ◌<◌, ◌≤◌, ◌⊎◌, inl, inr, Bool, true, false, ◌&&◌, ◌||◌, ◌==◌, nat_lt, List, [], ◌∷◌, ◌++◌, filter, length, slice_get, Option, Some, None, refl, sym, ap, ◌∙◌, subst, arith, IsTrue, ltb-true, eqb-true}
use Rattle.std.proofs.lemmas.Bool.{lt-ltb, le-ltb, eq-eqb, ltb-false}
use Rattle.dn_net.specs.declared.node.Block.{Block}
use Rattle.dn_net.specs.declared.node.Dest.{Dest}
use Rattle.dn_net.specs.declared.node.Entry.{Entry}
use Rattle.dn_net.specs.declared.node.NodeDecl.{NodeDecl}
use Rattle.dn_net.specs.Chain.{Member}
use Rattle.dn_net.specs.Decode.{within}
use Rattle.dn_net.specs.Walks.{Choice, in_some_entry, gaps, Leg, dest_legs, entry_legs, gap_legs, legs, legs_of, in_order, Walk, meets, onto, extensions_of, still_walk, still_walks, level, starts_before, live_walks, EarlierDest, ChooseBefore, SameSpan, Precedes}
use Rattle.dn_net.specs.WalkRules.{LiveWalksAreInOrder}
use Rattle.dn_net.specs.Rules.{KeepsNodeRules}
use Rattle.dn_net.proofs.Least.{within_from, within_to}
use Rattle.dn_net.proofs.Apart.{IsApart, node_apart}
use Rattle.dn_net.proofs.Choices.{free_parts}
use Rattle.dn_net.proofs.Gaps.{Stand, gaps_stand, stand_member, gap_of_member}
use Rattle.dn_net.proofs.Legs.{dest_leg, gap_leg, member_dest_legs, member_entry_legs, member_gap_legs, leads_in_range, leads_of_leg}
use Rattle.dn_net.proofs.Levels.{IsRow, level_is_row, onto_within}
use Rattle.dn_walk.proofs.Listed.{level_of_listed}
use Rattle.dn_base.proofs.Members.{map_member}
use Rattle.dn_base.proofs.Booleans.{or_cases, and_parts, or_left, or_right, and_from}
use Rattle.dn_base.proofs.Orders.{cases_lt}
use Rattle.dn_net.proofs.Members.{member_filter, member_order, some_same}
use Rattle.dn_walk.proofs.Pairs.{Pairwise, NotBefore, pair_at, pairs_more, pairs_append, pairs_map, pairs_filter, pairs_flat_map, pairs_order, order_sorted, pairs_both}

-- where two legs share an address, they are of one entry, and the first of an earlier destination
abbrev pub LegBefore : Leg → Leg → Type 0
LegBefore l m = (a : ℕ) → IsTrue (within a l.block) → IsTrue (within a m.block) → EarlierDest l.choice m.choice × (l.block ≡ m.block)

dest_legs_ordered : (i j : ℕ) (b : Block) (ds : List Dest) → Pairwise LegBefore (dest_legs i j b ds)
dest_legs_ordered i j b [] = tt
dest_legs_ordered i j b (d ∷ ds) = (first, dest_legs_ordered i (suc j) b ds)
  where
    first : (m : Leg) → Member m (dest_legs i (suc j) b ds) → LegBefore (dest_leg i j b d) m
    first m n =
        let r = member_dest_legs i (suc j) b ds m n in
        let l : j < suc j + r.0 = omega arith in
        subst (λ k. LegBefore (dest_leg i j b d) k) r.3 (λ a u v. ((refl, l), refl))

entry_legs_ordered : (i : ℕ) (es : List Entry) → ((p q a : ℕ) (e f : Entry) → slice_get es p ≡ Some e → slice_get es q ≡ Some f → IsTrue (within a e.block) → IsTrue (within a f.block) → p ≡ q) → Pairwise LegBefore (entry_legs i es)
entry_legs_ordered i [] apart = tt
entry_legs_ordered i (e ∷ es) apart = pairs_append LegBefore (dest_legs i 0 e.block e.dests) (entry_legs (suc i) es) (dest_legs_ordered i 0 e.block e.dests) (entry_legs_ordered (suc i) es (λ p q a f g s t u v. fewer p q (apart (suc p) (suc q) a f g s t u v))) across
  where
    fewer : (p q : ℕ) → suc p ≡ suc q → p ≡ q
    fewer p q s = omega arith

    never : (p : ℕ) → 0 ≡ suc p → ⊥
    never p s = omega arith

    across : (l m : Leg) → Member l (dest_legs i 0 e.block e.dests) → Member m (entry_legs (suc i) es) → LegBefore l m
    across l m x y =
        let r = member_dest_legs i 0 e.block e.dests l x in
        let s = member_entry_legs (suc i) es m y in
        subst (λ k. LegBefore k m) r.3 (subst (λ k. LegBefore (dest_leg i (0 + r.0) e.block r.1) k) s.leg (λ a u v. absurd (never s.entry (apart 0 (suc s.entry) a e s.e refl s.is_entry u v))))

stand_ordered : (from : ℕ) (bs : List Block) → Stand from bs → Pairwise (λ b c. b.hi < c.lo) bs
stand_ordered from [] h = tt
stand_ordered from (b ∷ bs) h = ((λ c m. let r = stand_member (b.hi + 2) bs c h.3 m in let l : b.hi + 2 ≤ c.lo = r.0 in (omega arith)), stand_ordered (b.hi + 2) bs h.3)

gap_legs_ordered : (over : Option ℕ) (bs : List Block) → Stand 0 bs → Pairwise LegBefore (gap_legs over bs)
gap_legs_ordered None bs h = tt
gap_legs_ordered (Some m) bs h = pairs_map LegBefore (gap_leg m) bs (pairs_more (λ b c. b.hi < c.lo) (λ b c. LegBefore (gap_leg m b) (gap_leg m c)) bs apart (stand_ordered 0 bs h))
  where
    apart : (b c : Block) → Member b bs → Member c bs → b.hi < c.lo → LegBefore (gap_leg m b) (gap_leg m c)
    apart b c x y l a u v = let p : a ≤ b.hi = (within_to a b u).1 in let q : c.lo ≤ a = (within_to a c v).0 in absurd (omega arith)

in_an_entry : (es : List Entry) (i a : ℕ) (e : Entry) → slice_get es i ≡ Some e → IsTrue (within a e.block) → in_some_entry a es ≡ true
in_an_entry [] i a e at w = cc
in_an_entry (f ∷ es) zero a e at w = let s : f ≡ e = some_same f e at in or_left (within a f.block) (in_some_entry a es) (ap (λ x. within a x.block) s ∙ w)
in_an_entry (f ∷ es) (suc i) a e at w = or_right (within a f.block) (in_some_entry a es) (in_an_entry es i a e at w)

-- the legs of a node are in order
pub legs_ordered : (n : NodeDecl) → IsApart n → Pairwise LegBefore (legs n)
legs_ordered n apart = pairs_order LegBefore (λ l m. nat_lt l.block.lo m.block.lo) (entry_legs 0 n.entries ++ gap_legs n.over (gaps n)) change (pairs_append LegBefore (entry_legs 0 n.entries) (gap_legs n.over (gaps n)) (entry_legs_ordered 0 n.entries apart.map_apart) (gap_legs_ordered n.over (gaps n) (gaps_stand n apart)) across)
  where
    change : (l m : Leg) → LegBefore l m → nat_lt m.block.lo l.block.lo ≡ true → LegBefore m l
    change l m p h a u v =
        let e : l.block.lo ≡ m.block.lo = ap (λ (b : Block). b.lo) (p a v u).1 in
        let k : m.block.lo < l.block.lo = ltb-true m.block.lo l.block.lo h in
        absurd (omega arith)

    across : (l m : Leg) → Member l (entry_legs 0 n.entries) → Member m (gap_legs n.over (gaps n)) → LegBefore l m
    across l m x y =
        let r = member_entry_legs 0 n.entries l x in
        let s = member_gap_legs n.over (gaps n) m y in
        let g = gap_of_member n apart s.gap s.is_gap in
        subst (λ k. LegBefore k m) r.leg (subst (λ k. LegBefore (dest_leg (0 + r.entry) r.dest r.e.block r.d) k) s.leg (λ a u v.
        let w = within_to a s.gap v in
        let f = (free_parts n a (g.free a w.0 w.1)).1 in
        let t = in_an_entry n.entries r.entry a r.e r.is_entry u in
        let z : true ≡ false = sym t ∙ f in
        cc))

-- neither the first nor the last addresses of the legs fall
abbrev pub Rises : Leg → Leg → Type 0
Rises l m = (l.block.lo ≤ m.block.lo) × (l.block.hi ≤ m.block.hi)

abbrev leg_before : Leg → Leg → Bool
leg_before l m = nat_lt l.block.lo m.block.lo

rise_by : (l m : Leg) → m.block.lo ≤ m.block.hi → l.block.lo ≤ m.block.lo → LegBefore l m → (l.block.hi < m.block.lo) ⊎ (m.block.lo ≤ l.block.hi) → Rises l m
rise_by l m o k before (inl h) = (k, (omega arith))
rise_by l m o k before (inr h) =
    let e : l.block.hi ≡ m.block.hi = ap (λ (b : Block). b.hi) (before m.block.lo (within_from m.block.lo l.block k h) (within_from m.block.lo m.block (omega arith) o)).1 in
    (k, (omega arith))

pub legs_rise : (n : NodeDecl) → IsApart n → Pairwise Rises (legs n)
legs_rise n apart = pairs_more (λ l m. NotBefore leg_before l m × LegBefore l m) Rises (legs n) each (pairs_both (NotBefore leg_before) LegBefore (legs n) sorted (legs_ordered n apart))
  where
    turned : (l m : Leg) → leg_before l m ≡ true → leg_before m l ≡ false
    turned l m h = let k = ltb-true l.block.lo m.block.lo h in le-ltb m.block.lo l.block.lo (omega arith)

    still : (l m r : Leg) → leg_before m l ≡ false → leg_before r m ≡ false → leg_before r l ≡ false
    still l m r p q = let k = ltb-false m.block.lo l.block.lo p in let h = ltb-false r.block.lo m.block.lo q in le-ltb r.block.lo l.block.lo (omega arith)

    sorted : Pairwise (NotBefore leg_before) (legs n)
    sorted = order_sorted leg_before turned still (entry_legs 0 n.entries ++ gap_legs n.over (gaps n))

    each : (l m : Leg) → Member l (legs n) → Member m (legs n) → NotBefore leg_before l m × LegBefore l m → Rises l m
    each l m x y p = rise_by l m (leads_in_range (Some n) (λ k e. subst (λ j. IsApart j) (some_same n k e) apart) m.choice m.block m.to (leads_of_leg (Some n) (λ k e. subst (λ j. IsApart j) (some_same n k e) apart) m y)).0 (ltb-false m.block.lo l.block.lo p.0) p.1 (cases_lt l.block.hi m.block.lo)

legs_of_ordered : (o : Option NodeDecl) → ((n : NodeDecl) → o ≡ Some n → IsApart n) → Pairwise LegBefore (legs_of o)
legs_of_ordered None apart = tt
legs_of_ordered (Some n) apart = legs_ordered n (apart n refl)

-- lists of choices with the same front, and with more behind them
choose_behind : (cs : List Choice) (c d : Choice) → EarlierDest c d → ChooseBefore (cs ++ c ∷ []) (cs ++ d ∷ [])
choose_behind [] c d h = inl h
choose_behind (b ∷ cs) c d h = inr (refl, choose_behind cs c d h)

choose_more : (cs ds xs ys : List Choice) → ChooseBefore cs ds → ChooseBefore (cs ++ xs) (ds ++ ys)
choose_more [] ds xs ys h = absurd h
choose_more (c ∷ cs) [] xs ys h = absurd h
choose_more (c ∷ cs) (d ∷ ds) xs ys (inl e) = inl e
choose_more (c ∷ cs) (d ∷ ds) xs ys (inr h) = inr (h.0, choose_more cs ds xs ys h.1)

-- where two walks of one start share an address, the choices of the first come before those of the other
abbrev pub WalkBefore : Walk → Walk → Type 0
WalkBefore w v = w.start ≡ v.start → (a : ℕ) → IsTrue (within a w.span) → IsTrue (within a v.span) → ChooseBefore w.choices v.choices

stills_ordered : (n : ℕ) (ds : List NodeDecl) → Pairwise WalkBefore (still_walks n ds)
stills_ordered n [] = tt
stills_ordered n (d ∷ ds) = (first, stills_ordered (suc n) ds)
  where
    never : (i : ℕ) → n ≡ suc n + i → ⊥
    never i e = omega arith

    place : (from : ℕ) (rest : List NodeDecl) (v : Walk) → Member v (still_walks from rest) → (i : ℕ) × (still_walk (from + i) ≡ v)
    place from [] v m = absurd m
    place from (x ∷ rest) v (inl e) = let s : from + 0 ≡ from = omega arith in (0, ap still_walk s ∙ e)
    place from (x ∷ rest) v (inr m) = let r = place (suc from) rest v m in let s : from + suc r.0 ≡ suc from + r.0 = omega arith in (suc r.0, ap still_walk s ∙ r.1)

    first : (v : Walk) → Member v (still_walks (suc n) ds) → WalkBefore (still_walk n) v
    first v m =
        let r = place (suc n) ds v m in
        subst (λ x. WalkBefore (still_walk n) x) r.1 (λ e. absurd (never r.0 e))

-- what is kept of a leg by which a walk goes on
record GoesOn (net : List NodeDecl) (w u : Walk) : Type 0 where
  leg : Leg
  is_leg : Member leg (legs_of (slice_get net w.to.node))
  met : meets w leg ≡ true
  same : onto w leg ≡ u

goes_on_by : (net : List NodeDecl) (w u : Walk) → Member u (extensions_of net w) → GoesOn net w u
goes_on_by net w u m =
    let q = map_member (onto w) (filter (meets w) (legs_of (slice_get net w.to.node))) u m in
    let f = member_filter (meets w) (legs_of (slice_get net w.to.node)) q.0 q.1 in
    record { leg = q.0; is_leg = f.0; met = f.1; same = q.2 }

module _ (net : List NodeDecl) (checked : KeepsNodeRules net) where
  apart_at : (i : ℕ) (n : NodeDecl) → slice_get net i ≡ Some n → IsApart n
  apart_at i n at = node_apart net checked.each i n at

  inside : (k : ℕ) (w : Walk) → Member w (level net k) → (l : Leg) → Member l (legs_of (slice_get net w.to.node)) → meets w l ≡ true → (a : ℕ) → IsTrue (within a (onto w l).span) → IsTrue (within a w.span) × IsTrue (within (w.to.addr + (a - w.span.lo)) l.block)
  inside k w m l n met a h = onto_within net checked k w (level_is_row net checked k w m) l (leads_of_leg (slice_get net w.to.node) (λ n e. apart_at w.to.node n e) l n) met a h

  -- the walks that go on from one walk
  extended_ordered : (k : ℕ) (w : Walk) → Member w (level net k) → Pairwise WalkBefore (extensions_of net w)
  extended_ordered k w m = pairs_map WalkBefore (onto w) (filter (meets w) (legs_of (slice_get net w.to.node))) (pairs_more LegBefore (λ l n. WalkBefore (onto w l) (onto w n)) (filter (meets w) (legs_of (slice_get net w.to.node))) each (pairs_filter LegBefore (meets w) (legs_of (slice_get net w.to.node)) (legs_of_ordered (slice_get net w.to.node) (λ n e. apart_at w.to.node n e))))
    where
      each : (l n : Leg) → Member l (filter (meets w) (legs_of (slice_get net w.to.node))) → Member n (filter (meets w) (legs_of (slice_get net w.to.node))) → LegBefore l n → WalkBefore (onto w l) (onto w n)
      each l n x y before e a u v =
          let f = member_filter (meets w) (legs_of (slice_get net w.to.node)) l x in
          let g = member_filter (meets w) (legs_of (slice_get net w.to.node)) n y in
          let p = inside k w m l f.0 f.1 a u in
          let q = inside k w m n g.0 g.1 a v in
          choose_behind w.choices l.choice n.choice (before (w.to.addr + (a - w.span.lo)) p.1 q.1).0

  pub level_ordered : (k : ℕ) → Pairwise WalkBefore (level net k)
  level_ordered zero = stills_ordered 0 net
  level_ordered (suc k) = pairs_flat_map WalkBefore WalkBefore (extensions_of net) (level net k) (level_ordered k) (extended_ordered k) across
    where
      across : (w v u x : Walk) → Member w (level net k) → Member v (level net k) → WalkBefore w v → Member u (extensions_of net w) → Member x (extensions_of net v) → WalkBefore u x
      across w v u x m n before p q =
          let r = goes_on_by net w u p in
          let s = goes_on_by net v x q in
          let made : WalkBefore (onto w r.leg) (onto v s.leg) = λ e a g h. choose_more w.choices v.choices (r.leg.choice ∷ []) (s.leg.choice ∷ []) (before e a (inside k w m r.leg r.is_leg r.met a g).0 (inside k v n s.leg s.is_leg s.met a h).0) in
          subst (λ y. WalkBefore y x) r.same (subst (λ y. WalkBefore (onto w r.leg) y) s.same made)

-- the order of starts and spans
abbrev StartLater : Walk → Walk → Type 0
StartLater w v = (w.start < v.start) ⊎ (((w.start ≡ v.start) × (w.span.lo < v.span.lo)) ⊎ ((w.start ≡ v.start) × (w.span.lo ≡ v.span.lo) × (w.span.hi ≤ v.span.hi)))

before_lower : (w v : Walk) → w.start < v.start → starts_before w v ≡ true
before_lower w v l = or_left _ _ (lt-ltb w.start v.start l)

before_left : (w v : Walk) → w.start ≡ v.start → w.span.lo < v.span.lo → starts_before w v ≡ true
before_left w v e l = or_right (nat_lt w.start v.start) _ (and_from _ _ (eq-eqb w.start v.start e) (or_left _ _ (lt-ltb w.span.lo v.span.lo l)))

before_shorter : (w v : Walk) → w.start ≡ v.start → w.span.lo ≡ v.span.lo → w.span.hi < v.span.hi → starts_before w v ≡ true
before_shorter w v e f l = or_right (nat_lt w.start v.start) _ (and_from _ _ (eq-eqb w.start v.start e) (or_right (nat_lt w.span.lo v.span.lo) _ (and_from _ _ (eq-eqb w.span.lo v.span.lo f) (lt-ltb w.span.hi v.span.hi l))))

before_is : (w v : Walk) → starts_before w v ≡ true → (w.start < v.start) ⊎ (((w.start ≡ v.start) × (w.span.lo < v.span.lo)) ⊎ ((w.start ≡ v.start) × (w.span.lo ≡ v.span.lo) × (w.span.hi < v.span.hi)))
before_is w v h = elim (or_cases (nat_lt w.start v.start) _ h) [
  | inl e ↦ inl (ltb-true w.start v.start e)
  | inr e ↦ inr (same (and_parts (w.start == v.start) _ e))
]
  where
    same : ((w.start == v.start) ≡ true) × ((nat_lt w.span.lo v.span.lo || ((w.span.lo == v.span.lo) && nat_lt w.span.hi v.span.hi)) ≡ true) → ((w.start ≡ v.start) × (w.span.lo < v.span.lo)) ⊎ ((w.start ≡ v.start) × (w.span.lo ≡ v.span.lo) × (w.span.hi < v.span.hi))
    same b = elim (or_cases (nat_lt w.span.lo v.span.lo) _ b.1) [
      | inl e ↦ inl (eqb-true w.start v.start b.0, ltb-true w.span.lo v.span.lo e)
      | inr e ↦ (let c = and_parts (w.span.lo == v.span.lo) (nat_lt w.span.hi v.span.hi) e in inr (eqb-true w.start v.start b.0, eqb-true w.span.lo v.span.lo c.0, ltb-true w.span.hi v.span.hi c.1))
    ]

three : (a b : ℕ) → (a < b) ⊎ ((a ≡ b) ⊎ (b < a))
three a b = grind arith

two : (a b : ℕ) → (a ≤ b) ⊎ (b < a)
two a b = grind arith

-- what does not come before another is later, or the same
later_of : (w v : Walk) → starts_before v w ≡ false → StartLater w v
later_of w v h = by (three w.start v.start) (three w.span.lo v.span.lo) (two w.span.hi v.span.hi)
  where
    never : starts_before v w ≡ true → ⊥
    never t = let z : true ≡ false = sym t ∙ h in cc

    by : (w.start < v.start) ⊎ ((w.start ≡ v.start) ⊎ (v.start < w.start)) → (w.span.lo < v.span.lo) ⊎ ((w.span.lo ≡ v.span.lo) ⊎ (v.span.lo < w.span.lo)) → (w.span.hi ≤ v.span.hi) ⊎ (v.span.hi < w.span.hi) → StartLater w v
    by (inl l) b c = inl l
    by (inr (inr l)) b c = absurd (never (before_lower v w l))
    by (inr (inl e)) (inl l) c = inr (inl (e, l))
    by (inr (inl e)) (inr (inr l)) c = absurd (never (before_left v w (sym e) l))
    by (inr (inl e)) (inr (inl f)) (inl l) = inr (inr (e, f, l))
    by (inr (inl e)) (inr (inl f)) (inr l) = absurd (never (before_shorter v w (sym e) (sym f) l))

later_before : (w v : Walk) → StartLater w v → starts_before v w ≡ true → ⊥
later_before w v p h = by p (before_is v w h)
  where
    by : StartLater w v → (v.start < w.start) ⊎ (((v.start ≡ w.start) × (v.span.lo < w.span.lo)) ⊎ ((v.start ≡ w.start) × (v.span.lo ≡ w.span.lo) × (v.span.hi < w.span.hi))) → ⊥
    by (inl l) (inl m) = omega arith
    by (inl l) (inr (inl m)) = let e = m.0 in omega arith
    by (inl l) (inr (inr m)) = let e = m.0 in omega arith
    by (inr (inl l)) (inl m) = let e = l.0 in omega arith
    by (inr (inl l)) (inr (inl m)) = let e = l.1 in let f = m.1 in omega arith
    by (inr (inl l)) (inr (inr m)) = let e = l.1 in let f = m.1 in omega arith
    by (inr (inr l)) (inl m) = let e = l.0 in omega arith
    by (inr (inr l)) (inr (inl m)) = let e = l.1 in let f = m.1 in omega arith
    by (inr (inr l)) (inr (inr m)) = let e = l.2 in let f = m.2 in omega arith

not_before : (w v : Walk) → StartLater w v → starts_before v w ≡ false
not_before w v p = by (starts_before v w) refl
  where
    by : (b : Bool) → starts_before v w ≡ b → b ≡ false
    by false e = refl
    by true e = absurd (later_before w v p e)

later_still : (x y z : Walk) → StartLater x y → StartLater y z → StartLater x z
later_still x y z (inl l) (inl m) = inl (omega arith)
later_still x y z (inl l) (inr (inl m)) = let e = m.0 in inl (omega arith)
later_still x y z (inl l) (inr (inr m)) = let e = m.0 in inl (omega arith)
later_still x y z (inr (inl l)) (inl m) = let e = l.0 in inl (omega arith)
later_still x y z (inr (inl l)) (inr (inl m)) = let e = l.1 in let f = m.1 in inr (inl (l.0 ∙ m.0, (omega arith)))
later_still x y z (inr (inl l)) (inr (inr m)) = let e = l.1 in let f = m.1 in inr (inl (l.0 ∙ m.0, (omega arith)))
later_still x y z (inr (inr l)) (inl m) = let e = l.0 in inl (omega arith)
later_still x y z (inr (inr l)) (inr (inl m)) = let e = l.1 in let f = m.1 in inr (inl (l.0 ∙ m.0, (omega arith)))
later_still x y z (inr (inr l)) (inr (inr m)) = let e = l.2 in let f = m.2 in inr (inr (l.0 ∙ m.0, l.1 ∙ m.1, (omega arith)))

strictly : (x y : Walk) → starts_before x y ≡ true → StartLater x y
strictly x y h = elim (before_is x y h) [
  | inl l ↦ inl l
  | inr e ↦ inr (elim e [ inl l ↦ inl l | inr l ↦ (let m = l.2 in inr (l.0, l.1, (omega arith))) ])
]

-- walks of one level in order
abbrev SpanBefore : Walk → Walk → Type 0
SpanBefore w v = SameSpan w v → ChooseBefore w.choices v.choices

in_level : (net : List NodeDecl) → KeepsNodeRules net → (k : ℕ) → Pairwise Precedes (in_order starts_before (level net k))
in_level net checked k = pairs_more (λ w v. NotBefore starts_before w v × SpanBefore w v) Precedes (in_order starts_before (level net k)) each (pairs_both (NotBefore starts_before) SpanBefore (in_order starts_before (level net k)) sorted spans)
  where
    sorted : Pairwise (NotBefore starts_before) (in_order starts_before (level net k))
    sorted = order_sorted starts_before (λ x y h. not_before x y (strictly x y h)) (λ x y z p q. not_before x z (later_still x y z (later_of x y p) (later_of y z q))) (level net k)

    row : (w : Walk) → Member w (level net k) → IsRow net k w
    row w m = level_is_row net checked k w m

    same : (w v : Walk) → Member w (level net k) → Member v (level net k) → WalkBefore w v → SpanBefore w v
    same w v m n before s =
        let o : w.span.lo ≤ w.span.hi = (row w m).order in
        let e : w.span.lo ≡ v.span.lo = s.1 in
        let f : w.span.hi ≡ v.span.hi = s.2 in
        before s.0 w.span.lo (within_from w.span.lo w.span (omega arith) o) (within_from w.span.lo v.span (omega arith) (omega arith))

    change : (w v : Walk) → SpanBefore w v → starts_before v w ≡ true → SpanBefore v w
    change w v p h s =
        let f : v.span.hi ≡ w.span.hi = s.2 in
        absurd (later_before w v (inr (inr (sym s.0, sym s.1, (omega arith)))) h)

    spans : Pairwise SpanBefore (in_order starts_before (level net k))
    spans = pairs_order SpanBefore starts_before (level net k) change (pairs_more WalkBefore SpanBefore (level net k) same (level_ordered net checked k))

    each : (w v : Walk) → Member w (in_order starts_before (level net k)) → Member v (in_order starts_before (level net k)) → NotBefore starts_before w v × SpanBefore w v → Precedes w v
    each w v m n p = inr ((row w ((member_order starts_before (level net k) w).0 m)).long ∙ sym (row v ((member_order starts_before (level net k) v).0 n)).long, by (starts_before w v) refl)
      where
        equal : StartLater w v → StartLater v w → SameSpan w v
        equal (inl l) (inl r) = absurd (omega arith)
        equal (inl l) (inr (inl r)) = let e = r.0 in absurd (omega arith)
        equal (inl l) (inr (inr r)) = let e = r.0 in absurd (omega arith)
        equal (inr (inl l)) (inl r) = let e = l.0 in absurd (omega arith)
        equal (inr (inl l)) (inr (inl r)) = let e = l.1 in let f = r.1 in absurd (omega arith)
        equal (inr (inl l)) (inr (inr r)) = let e = l.1 in let f = r.1 in absurd (omega arith)
        equal (inr (inr l)) (inl r) = let e = l.0 in absurd (omega arith)
        equal (inr (inr l)) (inr (inl r)) = let e = l.1 in let f = r.1 in absurd (omega arith)
        equal (inr (inr l)) (inr (inr r)) = let e = l.2 in let f = r.2 in (l.0, l.1, (omega arith))

        by : (b : Bool) → starts_before w v ≡ b → IsTrue (starts_before w v) ⊎ (SameSpan w v × ChooseBefore w.choices v.choices)
        by true e = inl e
        by false e = let s = equal (later_of w v p.0) (later_of v w e) in inr (s, p.1 s)

live_ordered : (net : List NodeDecl) → KeepsNodeRules net → (k : ℕ) → Pairwise Precedes (live_walks net k)
live_ordered net checked zero = tt
live_ordered net checked (suc k) = pairs_append Precedes (live_walks net k) (in_order starts_before (level net (suc k))) (live_ordered net checked k) (in_level net checked (suc k)) across
  where
    shorter : (a b j : ℕ) → a ≡ j → j ≤ k → b ≡ suc k → a < b
    shorter a b j e l f = omega arith

    across : (w v : Walk) → Member w (live_walks net k) → Member v (in_order starts_before (level net (suc k))) → Precedes w v
    across w v m n =
        let r = level_of_listed net k w m in
        inl (shorter (length w.choices) (length v.choices) r.0 (level_is_row net checked r.0 w r.3).long r.2 (level_is_row net checked (suc k) v ((member_order starts_before (level net (suc k)) v).0 n)).long)

pub live_walks_are_in_order : LiveWalksAreInOrder
live_walks_are_in_order net checked k i j w v at bt l = pair_at Precedes (live_walks net k) i j w v (live_ordered net checked k) at bt l
