-- The least overlap: an address that overlaps has the first address of a block at or below it that overlaps too.
use Rattle.std.proofs.Common.{◌≡◌, ℕ, ◌+◌, ◌<◌, ◌≤◌, inl, inr, Bool, true, false, cond, if◌then◌else◌, ◌&&◌, nat_le, nat_lt, List, [], ◌∷◌, map, filter, count_by, Option, Some, None, IsSome, refl, sym, ap, ◌∙◌, subst, arith, rules, leb-true, ltb-true}
use Rattle.std.proofs.lemmas.Bool.{le-leb, lt-ltb, leb-false}
use Rattle.std.proofs.lemmas.List.Sums.{sum_by-cons}
use Rattle.dn_net.specs.declared.node.Block.{Block}
use Rattle.dn_net.specs.declared.node.Entry.{Entry}
use Rattle.dn_net.specs.declared.node.NodeDecl.{NodeDecl}
use Rattle.dn_net.specs.Chain.{Member}
use Rattle.dn_net.specs.Decode.{within, in_some_block}
use Rattle.dn_net.specs.Rules.{map_blocks_at, overlaps, first_addresses, lesser_number, least_number, LeastOverlapIsLeast}
use Rattle.dn_base.proofs.Members.{member_left, member_right}
use Rattle.dn_base.proofs.Booleans.{or_cases, and_parts, or_left, or_right, and_from}

-- how many of the entries' blocks have the address
abbrev pub maps_at : List Entry → ℕ → ℕ
maps_at es a = count_by (λ e. within a e.block) es

pub maps_at-cons : (e : Entry) (es : List Entry) (a : ℕ) → maps_at (e ∷ es) a ≡ (if within a e.block then 1 else 0) + maps_at es a
maps_at-cons e es a = sum_by-cons (λ e. cond (within a e.block) 1 0) e es

abbrev pub entry_first : Entry → ℕ
entry_first e = e.block.lo

abbrev pub block_first : Block → ℕ
block_first b = b.lo

pub within_from : (a : ℕ) (b : Block) → b.lo ≤ a → a ≤ b.hi → within a b ≡ true
within_from a b l m = rw (le-leb b.lo a l, le-leb a b.hi m) refl

pub within_to : (a : ℕ) (b : Block) → within a b ≡ true → (b.lo ≤ a) × (a ≤ b.hi)
within_to a b w = by (nat_le b.lo a) (nat_le a b.hi) refl refl w
  where
    by : (p q : Bool) → nat_le b.lo a ≡ p → nat_le a b.hi ≡ q → (p && q) ≡ true → (b.lo ≤ a) × (a ≤ b.hi)
    by true true e f w = (leb-true b.lo a e, leb-true a b.hi f)
    by true false e f w = cc
    by false q e f w = cc

-- a block that has the address, where addresses from its first on are mapped
pub record Mapped (es : List Entry) (b : ℕ) : Type 0 where
  pub lo : ℕ
  pub hi : ℕ
  pub first : Member lo (map (λ e. e.block.lo) es)
  pub below : lo ≤ b
  pub above : b ≤ hi
  pub all : (a : ℕ) → lo ≤ a → a ≤ hi → 0 < maps_at es a

some_map : (es : List Entry) (b : ℕ) → 0 < maps_at es b → Mapped es b
some_map [] b h = absurd (omega arith)
some_map (e ∷ es) b h = by (within b e.block) refl (some_map es b)
  where
    by : (w : Bool) → within b e.block ≡ w → (0 < maps_at es b → Mapped es b) → Mapped (e ∷ es) b
    by true at ih =
        let w = within_to b e.block at in
        record { lo = e.block.lo; hi = e.block.hi; first = inl refl; below = w.0; above = w.1; all = λ a l m. rw (maps_at-cons e es a, within_from a e.block l m) (omega arith) }
    by false at ih =
        let h' : 0 < (if within b e.block then 1 else 0) + maps_at es b = rw maps_at-cons at h in
        let h'' : 0 < 0 + maps_at es b = rw at at h' in
        let r = ih (omega arith) in
        record { lo = r.lo; hi = r.hi; first = inr r.first; below = r.below; above = r.above; all = λ a l m. let k = r.all a l m in rw maps_at-cons (omega arith) }

-- an address in a list, at or below another
pub record FirstBelow (xs : List ℕ) (P : ℕ → Type 0) (b : ℕ) : Type 0 where
  pub at : ℕ
  pub first : Member at xs
  pub below : at ≤ b
  pub holds : P at

two_maps : (es : List Entry) (b : ℕ) → 1 < maps_at es b → FirstBelow (map (λ e. e.block.lo) es) (λ a. 1 < maps_at es a) b
two_maps [] b h = absurd (omega arith)
two_maps (e ∷ es) b h = by (within b e.block) refl (two_maps es b)
  where
    both : (w : e.block.lo ≤ b) → b ≤ e.block.hi → (r : Mapped es b) → (c : Bool) → nat_le e.block.lo r.lo ≡ c → FirstBelow (map (λ e. e.block.lo) (e ∷ es)) (λ a. 1 < maps_at (e ∷ es) a) b
    both l m r true c =
        let le = leb-true _ _ c in
        let k = r.all r.lo (omega arith) (let p = r.below in let q = r.above in omega arith) in
        record { at = r.lo; first = inr r.first; below = r.below; holds = rw (maps_at-cons e es r.lo, within_from r.lo e.block le (let p = r.below in omega arith)) (omega arith) }
    both l m r false c =
        let lt = leb-false _ _ c in
        let k = r.all e.block.lo (omega arith) (let q = r.above in omega arith) in
        record { at = e.block.lo; first = inl refl; below = l; holds = rw (maps_at-cons e es e.block.lo, within_from e.block.lo e.block (omega arith) (omega arith)) (omega arith) }

    by : (w : Bool) → within b e.block ≡ w → (1 < maps_at es b → FirstBelow (map (λ e. e.block.lo) es) (λ a. 1 < maps_at es a) b) → FirstBelow (map (λ e. e.block.lo) (e ∷ es)) (λ a. 1 < maps_at (e ∷ es) a) b
    by true at ih =
        let h' : 1 < (if within b e.block then 1 else 0) + maps_at es b = rw maps_at-cons at h in
        let h'' : 1 < 1 + maps_at es b = rw at at h' in
        let w = within_to b e.block at in
        let r = some_map es b (omega arith) in
        both w.0 w.1 r (nat_le e.block.lo r.lo) refl
    by false at ih =
        let h' : 1 < (if within b e.block then 1 else 0) + maps_at es b = rw maps_at-cons at h in
        let h'' : 1 < 0 + maps_at es b = rw at at h' in
        let r = ih (omega arith) in
        let k = r.holds in
        record { at = r.at; first = inr r.first; below = r.below; holds = rw maps_at-cons (omega arith) }

-- a block that has the address, where addresses from its first on are accepted
pub record Accepted (bs : List Block) (b : ℕ) : Type 0 where
  pub lo : ℕ
  pub hi : ℕ
  pub first : Member lo (map (λ b. b.lo) bs)
  pub below : lo ≤ b
  pub above : b ≤ hi
  pub all : (a : ℕ) → lo ≤ a → a ≤ hi → in_some_block a bs ≡ true

some_accept : (bs : List Block) (b : ℕ) → in_some_block b bs ≡ true → Accepted bs b
some_accept [] b h = cc
some_accept (x ∷ bs) b h = by (within b x) refl (some_accept bs b)
  where
    by : (w : Bool) → within b x ≡ w → (in_some_block b bs ≡ true → Accepted bs b) → Accepted (x ∷ bs) b
    by true at ih =
        let w = within_to b x at in
        record { lo = x.lo; hi = x.hi; first = inl refl; below = w.0; above = w.1; all = λ a l m. rw (within_from a x l m) refl }
    by false at ih =
        let r = ih (rw at at h) in
        record { lo = r.lo; hi = r.hi; first = inr r.first; below = r.below; above = r.above; all = λ a l m. or_right (within a x) (in_some_block a bs) (r.all a l m) }

map_and_accept : (n : NodeDecl) (b : ℕ) → Mapped n.entries b → Accepted n.accepts b → FirstBelow (first_addresses n) (λ a. overlaps n a ≡ true) b
map_and_accept n b m r = by (nat_le m.lo r.lo) refl
  where
    by : (c : Bool) → nat_le m.lo r.lo ≡ c → FirstBelow (first_addresses n) (λ a. overlaps n a ≡ true) b
    by true c =
        let le = leb-true _ _ c in
        let k : 0 < map_blocks_at n r.lo = m.all r.lo le (let p = r.below in let q = m.above in omega arith) in
        let s : in_some_block r.lo n.accepts ≡ true = r.all r.lo (omega arith) (let p = r.below in let q = r.above in omega arith) in
        record { at = r.lo; first = member_right (map (λ e. e.block.lo) n.entries) (map (λ b. b.lo) n.accepts) r.lo r.first; below = r.below; holds = or_right _ _ (and_from _ _ (lt-ltb _ _ k) s) }
    by false c =
        let lt = leb-false _ _ c in
        let k : 0 < map_blocks_at n m.lo = m.all m.lo (omega arith) (let p = m.below in let q = m.above in omega arith) in
        let s : in_some_block m.lo n.accepts ≡ true = r.all m.lo (omega arith) (let p = m.below in let q = r.above in omega arith) in
        record { at = m.lo; first = member_left (map (λ e. e.block.lo) n.entries) (map (λ b. b.lo) n.accepts) m.lo m.first; below = m.below; holds = or_right _ _ (and_from _ _ (lt-ltb _ _ k) s) }

-- an address that overlaps has a first address of a block at or below it that overlaps
pub first_overlap : (n : NodeDecl) (b : ℕ) → overlaps n b ≡ true → FirstBelow (first_addresses n) (λ a. overlaps n a ≡ true) b
first_overlap n b h = elim (or_cases (nat_lt 1 (map_blocks_at n b)) (nat_lt 0 (map_blocks_at n b) && in_some_block b n.accepts) h) [
  | inl e ↦ (let r = two_maps n.entries b (ltb-true _ _ e) in record { at = r.at; first = member_left (map (λ e. e.block.lo) n.entries) (map (λ b. b.lo) n.accepts) r.at r.first; below = r.below; holds = or_left _ _ (lt-ltb _ _ r.holds) })
  | inr e ↦ (let p = and_parts (nat_lt 0 (map_blocks_at n b)) (in_some_block b n.accepts) e in map_and_accept n b (some_map n.entries b (ltb-true _ _ p.0)) (some_accept n.accepts b p.1))
]

filter_to : (p : ℕ → Bool) (xs : List ℕ) (a : ℕ) → Member a (filter p xs) → (p a ≡ true) × Member a xs
filter_to p [] a m = absurd m
filter_to p (x ∷ xs) a m = by (p x) refl (filter_to p xs a) m
  where
    by : (b : Bool) → p x ≡ b → (Member a (filter p xs) → (p a ≡ true) × Member a xs) → Member a (cond b (x ∷ filter p xs) (filter p xs)) → (p a ≡ true) × Member a (x ∷ xs)
    by true e ih (inl s) = (ap p (sym s) ∙ e, inl s)
    by true e ih (inr m) = let r = ih m in (r.0, inr r.1)
    by false e ih m = let r = ih m in (r.0, inr r.1)

filter_from : (p : ℕ → Bool) (xs : List ℕ) (a : ℕ) → p a ≡ true → Member a xs → Member a (filter p xs)
filter_from p [] a h m = absurd m
filter_from p (x ∷ xs) a h m = by (p x) refl (filter_from p xs a h) m
  where
    by : (b : Bool) → p x ≡ b → (Member a xs → Member a (filter p xs)) → Member a (x ∷ xs) → Member a (cond b (x ∷ filter p xs) (filter p xs))
    by true e ih (inl s) = inl s
    by true e ih (inr m) = inr (ih m)
    by false e ih (inl s) = let f : p x ≡ true = ap p s ∙ h in let g : false ≡ true = sym e ∙ f in cc
    by false e ih (inr m) = ih m

some_lesser : (x : ℕ) (l : Option ℕ) → lesser_number x l ≡ None → ⊥
some_lesser x None e = cc
some_lesser x (Some y) e = cc

none_least : (xs : List ℕ) (b : ℕ) → least_number xs ≡ None → Member b xs → ⊥
none_least [] b e m = m
none_least (x ∷ xs) b e m = some_lesser x (least_number xs) e

-- the least of a list that has something
least_of : (xs : List ℕ) (a : ℕ) → least_number xs ≡ Some a → Member a xs × ((b : ℕ) → Member b xs → a ≤ b)
least_of [] a e = cc
least_of (x ∷ xs) a e = by (least_number xs) refl e (least_of xs)
  where
    pick : (y : ℕ) → least_number xs ≡ Some y → ((a : ℕ) → least_number xs ≡ Some a → Member a xs × ((b : ℕ) → Member b xs → a ≤ b)) → (c : Bool) → nat_le x y ≡ c → (if c then x else y) ≡ a → Member a (x ∷ xs) × ((b : ℕ) → Member b (x ∷ xs) → a ≤ b)
    pick y is ih true c e =
        let r = ih y is in
        let le = leb-true x y c in
        (inl e, λ b m. elim m [ inl s ↦ (let f : a ≡ b = sym e ∙ s in omega arith) | inr n ↦ (let k = r.1 b n in omega arith) ])
    pick y is ih false c e =
        let r = ih y is in
        let lt = leb-false x y c in
        (inr (subst (λ w. Member w xs) e r.0), λ b m. elim m [ inl s ↦ omega arith | inr n ↦ (let k = r.1 b n in omega arith) ])

    by : (l : Option ℕ) → least_number xs ≡ l → lesser_number x l ≡ Some a → ((a : ℕ) → least_number xs ≡ Some a → Member a xs × ((b : ℕ) → Member b xs → a ≤ b)) → Member a (x ∷ xs) × ((b : ℕ) → Member b (x ∷ xs) → a ≤ b)
    by None is e ih = let s : x ≡ a = cc in (inl s, λ b m. elim m [ inl t ↦ omega arith | inr n ↦ absurd (none_least xs b is n) ])
    by (Some y) is e ih = let s : (if nat_le x y then x else y) ≡ a = cc in pick y is ih (nat_le x y) refl s

least_some : (xs : List ℕ) (b : ℕ) → Member b xs → IsSome (least_number xs)
least_some [] b m = absurd m
least_some (x ∷ xs) b m = by (least_number xs)
  where
    by : (l : Option ℕ) → IsSome (lesser_number x l)
    by None = search rules
    by (Some y) = search rules

pub least_overlap_is_least : LeastOverlapIsLeast
least_overlap_is_least n = (
  λ a e.
      let r = least_of (filter (overlaps n) (first_addresses n)) a e in
      let p = filter_to (overlaps n) (first_addresses n) a r.0 in
      record {
        overlap = p.0;
        none_less = λ b h. (let f = first_overlap n b h in let k = r.1 f.at (filter_from (overlaps n) (first_addresses n) f.at f.holds f.first) in let l = f.below in omega arith);
      },
  λ a h. let f = first_overlap n a h in least_some (filter (overlaps n) (first_addresses n)) f.at (filter_from (overlaps n) (first_addresses n) f.at f.holds f.first),
)
