-- The least of the vectors of blocks, block by block.
use Rattle.std.proofs.Common.{◌≡◌, ◌∙◌, sym, ap, ℕ, ◌+◌, ◌<◌, ◌≤◌, ◌⊎◌, inl, inr, Bool, true, false, not, nat_le, List, [], ◌∷◌, slice_get, Some, refl, arith, leb-true, le-leb}
use Rattle.std.specs.List.Sorted.{IsNonDecreasingBy}
use Rattle.std.proofs.lemmas.Bool.{and_from, and_parts, cases_lt, or_cases, or_left, or_right}
use Rattle.dn_net.specs.declared.node.Block.{Block}
use Rattle.dn_net.specs.declared.node.NodeDecl.{NodeDecl}
use Rattle.dn_net.specs.Decode.{in_some_block, is_accepted_at, top, within}
use Rattle.dn_net.proofs.Woven.{Ascends, ascends_from, lower}
use Rattle.dn_tables.specs.Placement.{Place}
use Rattle.dn_book.specs.declared.grant.Grant.{Grant}
use Rattle.dn_vector.specs.Route.{HasNoPlace, IsLeastVector, NoVector}
use Rattle.dn_vector.specs.Search.{IsLeastBetween, IsLeastOfBlocks}
use Rattle.dn_vector.specs.Vectors.{is_free_vector, is_taken_vector}

-- the ends of a block that has an address
block_ends : (b : Block) (a : ℕ) → within a b ≡ true → (b.lo ≤ a) × (a ≤ b.hi)
block_ends b a e =
    let both = and_parts (nat_le b.lo a) (nat_le a b.hi) e in
    (leb-true b.lo a both.0, leb-true a b.hi both.1)

-- blocks in order have no address below the bound of their first addresses
none_before : (n a : ℕ) (bs : List Block) → Ascends (λ (b : Block). b.lo) n bs → in_some_block a bs ≡ true → n ≤ a
none_before n a [] up e = cc
none_before n a (b ∷ bs) up e = by (or_cases (within a b) (in_some_block a bs) e) (none_before b.lo a bs up.1)
  where
    by : (within a b ≡ true) ⊎ (in_some_block a bs ≡ true) → (in_some_block a bs ≡ true → b.lo ≤ a) → n ≤ a
    by (inl w) on = omega (arith, up.0, (block_ends b a w).0)
    by (inr o) on = omega (arith, up.0, on o)

-- what an address is in, of a block and those after it
in_front : (b : Block) (bs : List Block) (a : ℕ) → b.hi < a → in_some_block a (b ∷ bs) ≡ true → in_some_block a bs ≡ true
in_front b bs a l e = by (or_cases (within a b) (in_some_block a bs) e)
  where
    by : (within a b ≡ true) ⊎ (in_some_block a bs ≡ true) → in_some_block a bs ≡ true
    by (inl w) = absurd (let t = (block_ends b a w).1 in omega arith)
    by (inr o) = o

module _ (net : List NodeDecl) (book : List Grant) (agent line node : ℕ) where
  -- the vectors of blocks below a number have no placement, and from it on those of the rest are all
  pub record IsTried (all rest : List Block) (next : ℕ) : Type 0 where
    pub tried : (a : ℕ) → a < next → in_some_block a all ≡ true → is_taken_vector book node a ≡ false → HasNoPlace net book agent line node a
    pub left : (a : ℕ) → next ≤ a → in_some_block a all ≡ true → in_some_block a rest ≡ true
    pub part : (a : ℕ) → in_some_block a rest ≡ true → in_some_block a all ≡ true
    pub order : Ascends (λ (b : Block). b.lo) 0 rest

  pub none_tried : (all : List Block) → IsNonDecreasingBy (λ (b : Block). b.lo) all → IsTried all all 0
  none_tried all up = record {
    tried = λ a l. absurd (omega arith);
    left = λ a l e. e;
    part = λ a e. e;
    order = ascends_from (λ (b : Block). b.lo) 0 all up (λ d l. omega arith);
  }

  -- an address of all that is not below the next one is not below the block to which it came
  in_turn : (all : List Block) (b : Block) (rest : List Block) (next a : ℕ) → IsTried all (b ∷ rest) next → next ≤ a → in_some_block a all ≡ true → b.lo ≤ a
  in_turn all b rest next a t l e = none_before b.lo a (b ∷ rest) ((omega arith), t.order.1) (t.left a l e)

  -- one block more of which no vector has a placement
  pub tried_more : (all : List Block) (b : Block) (rest : List Block) (next first after : ℕ) → IsTried all (b ∷ rest) next → ((n : ℕ) → next ≤ n → b.lo ≤ n → first ≤ n) → next ≤ after → b.hi + 1 ≤ after → ((n : ℕ) → next ≤ n → b.hi + 1 ≤ n → after ≤ n) → ((a : ℕ) → first ≤ a → a ≤ b.hi → is_taken_vector book node a ≡ false → HasNoPlace net book agent line node a) → IsTried all rest after
  tried_more all b rest next first after t from onward past least none = record {
    tried = λ a l e free. by a l e free (cases_lt a next);
    left = λ a l e. in_front b rest a (omega (arith, past, l)) (t.left a (omega (arith, onward, l)) e);
    part = λ a e. t.part a (or_right (within a b) (in_some_block a rest) e);
    order = lower (λ (x : Block). x.lo) 0 b.lo rest (omega arith) t.order.1;
  }
    where
      by : (a : ℕ) → a < after → in_some_block a all ≡ true → is_taken_vector book node a ≡ false → (a < next) ⊎ (next ≤ a) → HasNoPlace net book agent line node a
      by a l e free (inl m) = t.tried a m e free
      by a l e free (inr m) = none a (from a m (in_turn all b rest next a t m e)) (within_last (cases_lt b.hi a)) free
        where
          within_last : (b.hi < a) ⊎ (a ≤ b.hi) → a ≤ b.hi
          within_last (inl k) = absurd (let g = least a m (omega (arith, k)) in omega (arith, g, l))
          within_last (inr k) = k

  -- the least of a block is the least of all, where none before it has a placement
  pub least_in : (all : List Block) (b : Block) (rest : List Block) (next first v : ℕ) (p : Place) → IsTried all (b ∷ rest) next → ((n : ℕ) → next ≤ n → b.lo ≤ n → first ≤ n) → b.lo ≤ first → b.hi ≤ top → IsLeastBetween net book agent line node first b.hi v p → IsLeastOfBlocks net book agent line node all v p
  least_in all b rest next first v p t from begins few is = record {
    inside = t.part v (or_left (within v b) (in_some_block v rest) (and_from (nat_le b.lo v) (nat_le v b.hi) (le-leb b.lo v (let k = is.from in omega (arith, k, begins))) (le-leb v b.hi is.to)));
    low = (let k = is.to in omega (arith, k, few));
    placed = is.placed;
    least = λ a l e free. by a l e free (cases_lt a next);
  }
    where
      by : (a : ℕ) → a < v → in_some_block a all ≡ true → is_taken_vector book node a ≡ false → (a < next) ⊎ (next ≤ a) → HasNoPlace net book agent line node a
      by a l e free (inl m) = t.tried a m e free
      by a l e free (inr m) = is.least a (from a m (in_turn all b rest next a t m e)) l free

  -- where no block is left, none has a placement
  pub none_left : (all : List Block) (next : ℕ) → IsTried all [] next → (a : ℕ) → in_some_block a all ≡ true → is_taken_vector book node a ≡ false → HasNoPlace net book agent line node a
  none_left all next t a e free = by (cases_lt a next)
    where
      by : (a < next) ⊎ (next ≤ a) → HasNoPlace net book agent line node a
      by (inl m) = t.tried a m e free
      by (inr m) = absurd (never (t.left a m e))
        where
          never : false ≡ true → ⊥
          never f = cc

  -- a free vector is one of the blocks of its node, and no live grant has it
  free_parts : (a : ℕ) → is_free_vector net book node a ≡ true → (is_accepted_at a (slice_get net node) ≡ true) × (is_taken_vector book node a ≡ false)
  free_parts a e =
      let both = and_parts (is_accepted_at a (slice_get net node)) (not (is_taken_vector book node a)) e in
      (both.0, off (is_taken_vector book node a) both.1)
    where
      off : (b : Bool) → not b ≡ true → b ≡ false
      off true f = cc
      off false f = refl

  module _ (d : NodeDecl) (blocks : List Block) (at : slice_get net node ≡ Some d) (same : (a : ℕ) → in_some_block a blocks ≡ in_some_block a d.accepts) where
    -- what the node accepts is in the blocks
    in_blocks : (a : ℕ) → is_accepted_at a (slice_get net node) ≡ true → in_some_block a blocks ≡ true
    in_blocks a e = same a ∙ (and_parts (nat_le a top) (in_some_block a d.accepts) (sym (ap (is_accepted_at a) at) ∙ e)).1

    -- the least of the vectors of all blocks of the node is the least free one
    pub least_free : (v : ℕ) (p : Place) → IsLeastOfBlocks net book agent line node blocks v p → IsLeastVector net book agent line node v p
    least_free v p is = record {
      free = and_from (is_accepted_at v (slice_get net node)) (not (is_taken_vector book node v)) (ap (is_accepted_at v) at ∙ and_from (nat_le v top) (in_some_block v d.accepts) (le-leb v top is.low) (sym (same v) ∙ is.inside)) (ap not is.placed.untaken);
      first = is.placed.first;
      least = λ a l e. let k = free_parts a e in is.least a l (in_blocks a k.0) k.1;
    }

    -- where none of them has a placement, no vector is there
    pub none_free : ((a : ℕ) → in_some_block a blocks ≡ true → is_taken_vector book node a ≡ false → HasNoPlace net book agent line node a) → NoVector net book agent line node
    none_free none = λ a e. let k = free_parts a e in none a (in_blocks a k.0) k.1
