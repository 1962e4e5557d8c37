-- The list of a node's gaps ascends, leaves out an address between two, and has exactly the addresses that are free.
use Rattle.std.proofs.Common.{◌≡◌, ℕ, zero, suc, ◌+◌, ◌-◌, ◌<◌, ◌≤◌, ◌⊎◌, inl, inr, Bool, true, false, if◌then◌else◌, not, ◌&&◌, ◌||◌, nat_le, nat_lt, List, [], ◌∷◌, ◌++◌, map, slice_get, Some, refl, sym, ap, ◌∙◌, subst, arith, IsTrue, leb-true, le-leb, ltb-true}
use Rattle.std.proofs.lemmas.Bool.{lt-ltb, ltb-false, leb-false}
use Rattle.std.specs.List.{list_all}
use Rattle.dn_base.proofs.Booleans.{or_cases, and_parts, or_left, and_from, same_tests}
use Rattle.dn_base.proofs.Orders.{le_antisymm}
use Rattle.dn_net.specs.declared.node.Block.{Block}
use Rattle.dn_net.specs.declared.node.Entry.{Entry}
use Rattle.dn_net.specs.declared.node.NodeDecl.{NodeDecl}
use Rattle.dn_net.specs.Chain.{Member}
use Rattle.dn_net.specs.Decode.{top, within, in_some_block}
use Rattle.dn_net.specs.Rules.{block_in_range}
use Rattle.dn_net.specs.Walks.{in_some_entry, is_in_no_block, IsGap, below, above, cut_out, cut_each, all_addresses, gaps}
use Rattle.dn_net.proofs.Least.{within_from, within_to}
use Rattle.dn_net.specs.WalkRules.{GapsAreAll}
use Rattle.dn_net.proofs.Apart.{IsApart, node_apart}

-- the blocks stand at an address or above it, in range, ascending, and leave out at least one address between two
abbrev pub Stand : ℕ → List Block → Type 0
Stand from [] = Unit {0}
Stand from (b ∷ bs) = (from ≤ b.lo) × (b.lo ≤ b.hi) × (b.hi ≤ top) × Stand (b.hi + 2) bs

stand_lower : (from to : ℕ) (bs : List Block) → from ≤ to → Stand to bs → Stand from bs
stand_lower from to [] l h = tt
stand_lower from to (b ∷ bs) l h = let m : to ≤ b.lo = h.0 in ((omega arith), h.1, h.2, h.3)

-- what is left of a span when a block is cut out, with the spans above it
cut_front : (b s : Block) (from : ℕ) (rest : List Block) → b.lo ≤ b.hi → from ≤ s.lo → s.lo ≤ s.hi → s.hi ≤ top → Stand (s.hi + 2) rest → Stand from ((below b s ++ above b s) ++ rest)
cut_front b s from rest o f p t h = by (nat_lt s.lo b.lo) refl (nat_lt s.hi b.lo) refl (nat_lt b.hi s.hi) refl (nat_lt b.hi s.lo) refl
  where
    by : (u : Bool) → nat_lt s.lo b.lo ≡ u → (v : Bool) → nat_lt s.hi b.lo ≡ v → (w : Bool) → nat_lt b.hi s.hi ≡ w → (x : Bool) → nat_lt b.hi s.lo ≡ x → Stand from (((if u then record { lo = s.lo; hi = if v then s.hi else b.lo - 1 } ∷ [] else []) ++ (if w then record { lo = if x then s.lo else b.hi + 1; hi = s.hi } ∷ [] else [])) ++ rest)
    by true a true c true e x g = let k = ltb-true s.hi b.lo c in let l = ltb-true b.hi s.hi e in absurd (omega arith)
    by true a true c false e x g = (f, p, t, h)
    by true a false c true e true g = let k = ltb-true s.lo b.lo a in let l = ltb-true b.hi s.lo g in absurd (omega arith)
    by true a false c true e false g =
        let k = ltb-true s.lo b.lo a in
        let l = ltb-false s.hi b.lo c in
        let m = ltb-true b.hi s.hi e in
        (f, (omega arith), (omega arith), ((omega arith), (omega arith), t, h))
    by true a false c false e x g =
        let k = ltb-true s.lo b.lo a in
        let l = ltb-false s.hi b.lo c in
        (f, (omega arith), (omega arith), stand_lower (b.lo - 1 + 2) (s.hi + 2) rest (omega arith) h)
    by false a v c true e true g = (f, p, t, h)
    by false a v c true e false g =
        let k = ltb-false b.hi s.lo g in
        let l = ltb-true b.hi s.hi e in
        ((omega arith), (omega arith), t, h)
    by false a v c false e x g = stand_lower from (s.hi + 2) rest (omega arith) h

cut_stands : (b : Block) (from : ℕ) (ss : List Block) → b.lo ≤ b.hi → Stand from ss → Stand from (cut_out b ss)
cut_stands b from [] o h = tt
cut_stands b from (s ∷ ss) o h = cut_front b s from (cut_out b ss) o h.0 h.1 h.2 (cut_stands b (s.hi + 2) ss o h.3)

-- each block runs upwards
abbrev pub Upward : List Block → Type 0
Upward [] = Unit {0}
Upward (b ∷ bs) = (b.lo ≤ b.hi) × Upward bs

pub cut_each_stands : (bs : List Block) (from : ℕ) (ss : List Block) → Upward bs → Stand from ss → Stand from (cut_each bs ss)
cut_each_stands [] from ss u h = h
cut_each_stands (b ∷ bs) from ss u h = cut_stands b from (cut_each bs ss) u.0 (cut_each_stands bs from ss u.1 h)

pub accepts_upward : (bs : List Block) → IsTrue (list_all block_in_range bs) → Upward bs
accepts_upward [] all = tt
accepts_upward (b ∷ bs) all =
    let r = and_parts (block_in_range b) (list_all block_in_range bs) all in
    (leb-true b.lo b.hi (and_parts (nat_le b.lo b.hi) (nat_le b.hi top) r.0).0, accepts_upward bs r.1)

blocks_upward : (es : List Entry) (bs : List Block) → ((i : ℕ) (e : Entry) → slice_get es i ≡ Some e → (e.block.lo ≤ e.block.hi) × (e.block.hi ≤ top)) → Upward bs → Upward (map (λ e. e.block) es ++ bs)
blocks_upward [] bs each u = u
blocks_upward (e ∷ es) bs each u = ((each 0 e refl).0, blocks_upward es bs (λ i f at. each (suc i) f at) u)

-- the gaps of a node ascend, with an address between two
pub gaps_stand : (n : NodeDecl) → IsApart n → Stand 0 (gaps n)
gaps_stand n apart = cut_each_stands (map (λ e. e.block) n.entries ++ n.accepts) 0 (all_addresses ∷ []) (blocks_upward n.entries n.accepts apart.block (accepts_upward n.accepts apart.accepts)) ((omega arith), (omega arith), (omega arith), tt)

pub in_append : (a : ℕ) (xs ys : List Block) → in_some_block a (xs ++ ys) ≡ (in_some_block a xs || in_some_block a ys)
in_append a [] ys = refl
in_append a (x ∷ xs) ys = by (within a x) (in_append a xs ys)
  where
    by : (p : Bool) → in_some_block a (xs ++ ys) ≡ (in_some_block a xs || in_some_block a ys) → (p || in_some_block a (xs ++ ys)) ≡ ((p || in_some_block a xs) || in_some_block a ys)
    by true e = refl
    by false e = e

one_in : (a : ℕ) (b : Block) → in_some_block a (b ∷ []) ≡ true → (b.lo ≤ a) × (a ≤ b.hi)
one_in a b h = elim (or_cases (within a b) false h) [ inl e ↦ within_to a b e | inr e ↦ cc ]

below_has : (a : ℕ) (b s : Block) → in_some_block a (below b s) ≡ (within a s && nat_lt a b.lo)
below_has a b s = by (nat_lt s.lo b.lo) refl (nat_lt s.hi b.lo) refl
  where
    by : (u : Bool) → nat_lt s.lo b.lo ≡ u → (v : Bool) → nat_lt s.hi b.lo ≡ v → in_some_block a (if u then record { lo = s.lo; hi = if v then s.hi else b.lo - 1 } ∷ [] else []) ≡ (within a s && nat_lt a b.lo)
    by true e true f = same_tests _ _ there back
      where
        there : in_some_block a (record { lo = s.lo; hi = s.hi } ∷ []) ≡ true → (within a s && nat_lt a b.lo) ≡ true
        there h = let r = one_in a (record { lo = s.lo; hi = s.hi }) h in let p : s.lo ≤ a = r.0 in let q : a ≤ s.hi = r.1 in let l = ltb-true s.hi b.lo f in let m : a < b.lo = omega arith in and_from (within a s) (nat_lt a b.lo) (within_from a s p q) (lt-ltb a b.lo m)

        back : (within a s && nat_lt a b.lo) ≡ true → in_some_block a (record { lo = s.lo; hi = s.hi } ∷ []) ≡ true
        back h = let r = and_parts (within a s) (nat_lt a b.lo) h in or_left (within a s) false r.0
    by true e false f = same_tests _ _ there back
      where
        there : in_some_block a (record { lo = s.lo; hi = b.lo - 1 } ∷ []) ≡ true → (within a s && nat_lt a b.lo) ≡ true
        there h =
            let r = one_in a (record { lo = s.lo; hi = b.lo - 1 }) h in
            let p : s.lo ≤ a = r.0 in
            let q : a ≤ b.lo - 1 = r.1 in
            let l = ltb-true s.lo b.lo e in
            let l' = ltb-false s.hi b.lo f in
            let m : a < b.lo = omega arith in
            let k : a ≤ s.hi = omega arith in
            and_from (within a s) (nat_lt a b.lo) (within_from a s p k) (lt-ltb a b.lo m)

        back : (within a s && nat_lt a b.lo) ≡ true → in_some_block a (record { lo = s.lo; hi = b.lo - 1 } ∷ []) ≡ true
        back h =
            let r = and_parts (within a s) (nat_lt a b.lo) h in
            let w = within_to a s r.0 in
            let p : s.lo ≤ a = w.0 in
            let m = ltb-true a b.lo r.1 in
            let q : a ≤ b.lo - 1 = omega arith in
            or_left (within a (record { lo = s.lo; hi = b.lo - 1 })) false (within_from a (record { lo = s.lo; hi = b.lo - 1 }) p q)
    by false e v f = same_tests _ _ (λ h. cc) back
      where
        back : (within a s && nat_lt a b.lo) ≡ true → false ≡ true
        back h =
            let r = and_parts (within a s) (nat_lt a b.lo) h in
            let w = within_to a s r.0 in
            let p : s.lo ≤ a = w.0 in
            let m = ltb-true a b.lo r.1 in
            let l = ltb-false s.lo b.lo e in
            absurd (omega arith)

above_has : (a : ℕ) (b s : Block) → in_some_block a (above b s) ≡ (within a s && nat_lt b.hi a)
above_has a b s = by (nat_lt b.hi s.hi) refl (nat_lt b.hi s.lo) refl
  where
    by : (u : Bool) → nat_lt b.hi s.hi ≡ u → (v : Bool) → nat_lt b.hi s.lo ≡ v → in_some_block a (if u then record { lo = if v then s.lo else b.hi + 1; hi = s.hi } ∷ [] else []) ≡ (within a s && nat_lt b.hi a)
    by true e true f = same_tests _ _ there back
      where
        there : in_some_block a (record { lo = s.lo; hi = s.hi } ∷ []) ≡ true → (within a s && nat_lt b.hi a) ≡ true
        there h = let r = one_in a (record { lo = s.lo; hi = s.hi }) h in let p : s.lo ≤ a = r.0 in let q : a ≤ s.hi = r.1 in let l = ltb-true b.hi s.lo f in let m : b.hi < a = omega arith in and_from (within a s) (nat_lt b.hi a) (within_from a s p q) (lt-ltb b.hi a m)

        back : (within a s && nat_lt b.hi a) ≡ true → in_some_block a (record { lo = s.lo; hi = s.hi } ∷ []) ≡ true
        back h = let r = and_parts (within a s) (nat_lt b.hi a) h in or_left (within a s) false r.0
    by true e false f = same_tests _ _ there back
      where
        there : in_some_block a (record { lo = b.hi + 1; hi = s.hi } ∷ []) ≡ true → (within a s && nat_lt b.hi a) ≡ true
        there h =
            let r = one_in a (record { lo = b.hi + 1; hi = s.hi }) h in
            let p : b.hi + 1 ≤ a = r.0 in
            let q : a ≤ s.hi = r.1 in
            let l = ltb-false b.hi s.lo f in
            let m : b.hi < a = omega arith in
            let k : s.lo ≤ a = omega arith in
            and_from (within a s) (nat_lt b.hi a) (within_from a s k q) (lt-ltb b.hi a m)

        back : (within a s && nat_lt b.hi a) ≡ true → in_some_block a (record { lo = b.hi + 1; hi = s.hi } ∷ []) ≡ true
        back h =
            let r = and_parts (within a s) (nat_lt b.hi a) h in
            let w = within_to a s r.0 in
            let q : a ≤ s.hi = w.1 in
            let m = ltb-true b.hi a r.1 in
            let p : b.hi + 1 ≤ a = omega arith in
            or_left (within a (record { lo = b.hi + 1; hi = s.hi })) false (within_from a (record { lo = b.hi + 1; hi = s.hi }) p q)
    by false e v f = same_tests _ _ (λ h. cc) back
      where
        back : (within a s && nat_lt b.hi a) ≡ true → false ≡ true
        back h =
            let r = and_parts (within a s) (nat_lt b.hi a) h in
            let w = within_to a s r.0 in
            let q : a ≤ s.hi = w.1 in
            let m = ltb-true b.hi a r.1 in
            let l = ltb-false b.hi s.hi e in
            absurd (omega arith)

-- an address is below a number, or the number is at most it
turned_order : (a b : ℕ) → nat_lt a b ≡ not (nat_le b a)
turned_order a b = by (nat_lt a b) refl (nat_le b a) refl
  where
    by : (p : Bool) → nat_lt a b ≡ p → (q : Bool) → nat_le b a ≡ q → p ≡ not q
    by true e true f = let l = ltb-true a b e in let m = leb-true b a f in absurd (omega arith)
    by true e false f = refl
    by false e true f = refl
    by false e false f = let l = ltb-false a b e in let m = leb-false b a f in absurd (omega arith)

cut_one : (w p q : Bool) → ((w && not p) || (w && not q)) ≡ (w && not (p && q))
cut_one true true true = refl
cut_one true true false = refl
cut_one true false q = refl
cut_one false p q = refl

span_has : (a : ℕ) (b s : Block) → in_some_block a (below b s ++ above b s) ≡ (within a s && not (within a b))
span_has a b s = in_append a (below b s) (above b s) ∙ ((λ i. below_has a b s i || above_has a b s i) ∙ ((λ i. (within a s && turned_order a b.lo i) || (within a s && turned_order b.hi a i)) ∙ cut_one (within a s) (nat_le b.lo a) (nat_le a b.hi)))

cut_more : (w v x : Bool) → ((w && not x) || (v && not x)) ≡ ((w || v) && not x)
cut_more true true true = refl
cut_more true true false = refl
cut_more true false true = refl
cut_more true false false = refl
cut_more false v x = refl

-- cutting out a block leaves the addresses that it does not have
pub cut_has : (a : ℕ) (b : Block) (ss : List Block) → in_some_block a (cut_out b ss) ≡ (in_some_block a ss && not (within a b))
cut_has a b [] = refl
cut_has a b (s ∷ ss) = in_append a (below b s ++ above b s) (cut_out b ss) ∙ ((λ i. span_has a b s i || cut_has a b ss i) ∙ cut_more (within a s) (in_some_block a ss) (within a b))

cut_again : (w v x : Bool) → ((w && not v) && not x) ≡ (w && not (x || v))
cut_again true true true = refl
cut_again true true false = refl
cut_again true false true = refl
cut_again true false false = refl
cut_again false v x = refl

nothing_cut : (w : Bool) → w ≡ (w && not false)
nothing_cut true = refl
nothing_cut false = refl

pub cut_each_has : (a : ℕ) (bs ss : List Block) → in_some_block a (cut_each bs ss) ≡ (in_some_block a ss && not (in_some_block a bs))
cut_each_has a [] ss = nothing_cut (in_some_block a ss)
cut_each_has a (b ∷ bs) ss = cut_has a b (cut_each bs ss) ∙ (ap (λ p. p && not (within a b)) (cut_each_has a bs ss) ∙ cut_again (in_some_block a ss) (in_some_block a bs) (within a b))

-- an address lies in one of the entries' blocks, or of those behind them
pub blocks_have : (a : ℕ) (es : List Entry) (bs : List Block) → in_some_block a (map (λ e. e.block) es ++ bs) ≡ (in_some_entry a es || in_some_block a bs)
blocks_have a [] bs = refl
blocks_have a (e ∷ es) bs = by (within a e.block) (blocks_have a es bs)
  where
    by : (p : Bool) → in_some_block a (map (λ e. e.block) es ++ bs) ≡ (in_some_entry a es || in_some_block a bs) → (p || in_some_block a (map (λ e. e.block) es ++ bs)) ≡ ((p || in_some_entry a es) || in_some_block a bs)
    by true h = refl
    by false h = h

free_is : (p q : Bool) → not (p || q) ≡ (not q && not p)
free_is true true = refl
free_is true false = refl
free_is false true = refl
free_is false false = refl

pub whole_has : (a : ℕ) → in_some_block a (all_addresses ∷ []) ≡ nat_le a top
whole_has a = same_tests _ _ (λ h. let r = one_in a all_addresses h in le-leb a top r.1) (λ h. let l : a ≤ top = leb-true a top h in let z : 0 ≤ a = omega arith in or_left (within a all_addresses) false (within_from a all_addresses z l))

-- the gaps have exactly the addresses that are free
pub gaps_have : (n : NodeDecl) (a : ℕ) → in_some_block a (gaps n) ≡ (nat_le a top && is_in_no_block n a)
gaps_have n a = cut_each_has a (map (λ e. e.block) n.entries ++ n.accepts) (all_addresses ∷ []) ∙ ((λ i. whole_has a i && not (blocks_have a n.entries n.accepts i)) ∙ ap (λ p. nat_le a top && p) (free_is (in_some_entry a n.entries) (in_some_block a n.accepts)))

pub has_member : (a : ℕ) (ss : List Block) → in_some_block a ss ≡ true → (s : Block) × Member s ss × (s.lo ≤ a) × (a ≤ s.hi)
has_member a [] h = cc
has_member a (s ∷ ss) h = elim (or_cases (within a s) (in_some_block a ss) h) [
  | inl e ↦ (let w = within_to a s e in (s, inl refl, w.0, w.1))
  | inr e ↦ (let r = has_member a ss e in (r.0, inr r.1, r.2, r.3))
]

pub member_has : (a : ℕ) (ss : List Block) (s : Block) → Member s ss → s.lo ≤ a → a ≤ s.hi → in_some_block a ss ≡ true
member_has a [] s m l h = absurd m
member_has a (t ∷ ss) s (inl e) l h = or_left (within a t) (in_some_block a ss) (subst (λ r. within a r ≡ true) (sym e) (within_from a s l h))
member_has a (t ∷ ss) s (inr m) l h = by (within a t) (member_has a ss s m l h)
  where
    by : (p : Bool) → in_some_block a ss ≡ true → (p || in_some_block a ss) ≡ true
    by true e = refl
    by false e = e

-- a block that stands in such a list
pub stand_member : (from : ℕ) (ss : List Block) (s : Block) → Stand from ss → Member s ss → (from ≤ s.lo) × (s.lo ≤ s.hi) × (s.hi ≤ top)
stand_member from [] s h m = absurd m
stand_member from (t ∷ ss) s h (inl e) = subst (λ r. (from ≤ r.lo) × (r.lo ≤ r.hi) × (r.hi ≤ top)) e (h.0, h.1, h.2)
stand_member from (t ∷ ss) s h (inr m) =
    let r = stand_member (t.hi + 2) ss s h.3 m in
    let k : t.hi + 2 ≤ s.lo = r.0 in
    let l : from ≤ t.lo = h.0 in
    let o : t.lo ≤ t.hi = h.1 in
    ((omega arith), r.1, r.2)

-- of two, one is the other, or an address lies between them
pub stand_two : (from : ℕ) (ss : List Block) (s t : Block) → Stand from ss → Member s ss → Member t ss → (s ≡ t) ⊎ ((s.hi + 2 ≤ t.lo) ⊎ (t.hi + 2 ≤ s.lo))
stand_two from [] s t h m n = absurd m
stand_two from (r ∷ ss) s t h (inl e) (inl f) = inl (sym e ∙ f)
stand_two from (r ∷ ss) s t h (inl e) (inr n) = let k = stand_member (r.hi + 2) ss t h.3 n in inr (inl (subst (λ x. x.hi + 2 ≤ t.lo) e k.0))
stand_two from (r ∷ ss) s t h (inr m) (inl f) = let k = stand_member (r.hi + 2) ss s h.3 m in inr (inr (subst (λ x. x.hi + 2 ≤ s.lo) f k.0))
stand_two from (r ∷ ss) s t h (inr m) (inr n) = stand_two (r.hi + 2) ss s t h.3 m n

-- an address beside one of them is in none
beside : (ss : List Block) (s : Block) (a : ℕ) → Stand 0 ss → Member s ss → (suc a ≡ s.lo) ⊎ (a ≡ suc s.hi) → in_some_block a ss ≡ false
beside ss s a h m next = by (in_some_block a ss) refl
  where
    never : (t : Block) → t.lo ≤ a → a ≤ t.hi → s.lo ≤ s.hi → (s ≡ t) ⊎ ((s.hi + 2 ≤ t.lo) ⊎ (t.hi + 2 ≤ s.lo)) → (suc a ≡ s.lo) ⊎ (a ≡ suc s.hi) → ⊥
    never t p q o (inl e) (inl f) = let l : s.lo ≡ t.lo = ap (λ x. x.lo) e in omega arith
    never t p q o (inl e) (inr f) = let l : s.hi ≡ t.hi = ap (λ x. x.hi) e in omega arith
    never t p q o (inr (inl l)) (inl f) = omega arith
    never t p q o (inr (inl l)) (inr f) = omega arith
    never t p q o (inr (inr l)) (inl f) = omega arith
    never t p q o (inr (inr l)) (inr f) = omega arith

    by : (v : Bool) → in_some_block a ss ≡ v → v ≡ false
    by false e = refl
    by true e = let r = has_member a ss e in absurd (never r.0 r.2 r.3 (stand_member 0 ss s h m).1 (stand_two 0 ss s r.0 h m r.1) next)

free_here : (n : NodeDecl) (a : ℕ) → in_some_block a (gaps n) ≡ true → (a ≤ top) × (is_in_no_block n a ≡ true)
free_here n a h = let r = and_parts (nat_le a top) (is_in_no_block n a) (sym (gaps_have n a) ∙ h) in (leb-true a top r.0, r.1)

taken_here : (n : NodeDecl) (a : ℕ) → a ≤ top → in_some_block a (gaps n) ≡ false → is_in_no_block n a ≡ false
taken_here n a l h = by (nat_le a top) (le-leb a top l) (sym (gaps_have n a) ∙ h)
  where
    by : (p : Bool) → p ≡ true → (p && is_in_no_block n a) ≡ false → is_in_no_block n a ≡ false
    by true e f = f
    by false e f = cc

-- each block of the list is a gap
pub gap_of_member : (n : NodeDecl) → IsApart n → (b : Block) → Member b (gaps n) → IsGap n b.lo b.hi
gap_of_member n apart b m = record { order = r.1; low = r.2; free = free; below = under; above = over }
  where
    stand : Stand 0 (gaps n)
    stand = gaps_stand n apart

    r : (0 ≤ b.lo) × (b.lo ≤ b.hi) × (b.hi ≤ top)
    r = stand_member 0 (gaps n) b stand m

    free : (a : ℕ) → b.lo ≤ a → a ≤ b.hi → is_in_no_block n a ≡ true
    free a l h = (free_here n a (member_has a (gaps n) b m l h)).1

    under : (a : ℕ) → b.lo ≡ suc a → is_in_no_block n a ≡ false
    under a e =
        let o : b.lo ≤ b.hi = r.1 in
        let t : b.hi ≤ top = r.2 in
        taken_here n a (omega arith) (beside (gaps n) b a stand m (inl (sym e)))

    over : b.hi < top → is_in_no_block n (suc b.hi) ≡ false
    over l = taken_here n (suc b.hi) (omega arith) (beside (gaps n) b (suc b.hi) stand m (inr refl))

-- gaps that share an address are one
lows_same : (n : NodeDecl) (lo hi lo' hi' a : ℕ) → IsGap n lo hi → IsGap n lo' hi' → lo ≤ a → a ≤ hi → lo' ≤ a → a ≤ hi' → lo' ≤ lo
lows_same n lo hi zero hi' a g g' p q p' q' = omega arith
lows_same n lo hi (suc b) hi' a g g' p q p' q' = by (order (suc b) lo)
  where
    order : (x y : ℕ) → (x ≤ y) ⊎ (y < x)
    order x y = grind arith

    by : (suc b ≤ lo) ⊎ (lo < suc b) → suc b ≤ lo
    by (inl l) = l
    by (inr l) = let f = g.free b (omega arith) (omega arith) in let e = g'.below b refl in let c : true ≡ false = sym f ∙ e in cc

highs_same : (n : NodeDecl) (lo hi lo' hi' a : ℕ) → IsGap n lo hi → IsGap n lo' hi' → lo ≤ a → a ≤ hi → lo' ≤ a → a ≤ hi' → hi' ≤ hi
highs_same n lo hi lo' hi' a g g' p q p' q' = by (order hi' hi)
  where
    order : (x y : ℕ) → (x ≤ y) ⊎ (y < x)
    order x y = grind arith

    by : (hi' ≤ hi) ⊎ (hi < hi') → hi' ≤ hi
    by (inl l) = l
    by (inr l) = let t : hi' ≤ top = g'.low in let f = g'.free (suc hi) (omega arith) (omega arith) in let e = g.above (omega arith) in let c : true ≡ false = sym f ∙ e in cc

pub gap_once : (n : NodeDecl) (lo hi lo' hi' a : ℕ) → IsGap n lo hi → IsGap n lo' hi' → lo ≤ a → a ≤ hi → lo' ≤ a → a ≤ hi' → (lo ≡ lo') × (hi ≡ hi')
gap_once n lo hi lo' hi' a g g' p q p' q' = (le_antisymm (lows_same n lo' hi' lo hi a g' g p' q' p q) (lows_same n lo hi lo' hi' a g g' p q p' q'), le_antisymm (highs_same n lo' hi' lo hi a g' g p' q' p q) (highs_same n lo hi lo' hi' a g g' p q p' q'))

-- each gap is in the list
pub member_of_gap : (n : NodeDecl) → IsApart n → (lo hi : ℕ) → IsGap n lo hi → Member (record { lo = lo; hi = hi }) (gaps n)
member_of_gap n apart lo hi g =
    let o : lo ≤ hi = g.order in
    let t : hi ≤ top = g.low in
    let l : lo ≤ top = omega arith in
    let k : lo ≤ lo = omega arith in
    let h : in_some_block lo (gaps n) ≡ true = gaps_have n lo ∙ and_from (nat_le lo top) (is_in_no_block n lo) (le-leb lo top l) (g.free lo k o) in
    let r = has_member lo (gaps n) h in
    let s = gap_once n r.0.lo r.0.hi lo hi lo (gap_of_member n apart r.0 r.1) g r.2 r.3 k o in
    subst (λ b. Member b (gaps n)) (λ i. record { lo = s.0 i; hi = s.1 i }) r.1

pub gaps_are_all : GapsAreAll
gaps_are_all net checked i n e lo hi = (
  λ m. gap_of_member n (node_apart net checked.each i n e) (record { lo = lo; hi = hi }) m,
  λ g. member_of_gap n (node_apart net checked.each i n e) lo hi g,
)
