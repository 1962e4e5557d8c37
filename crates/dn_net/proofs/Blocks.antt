-- What the blocks of a node say, in any order, and these blocks in order.
use Rattle.std.proofs.Common.{◌≡◌, ℕ, ◌+◌, ◌<◌, ◌≤◌, Bool, true, false, cond, ◌&&◌, ◌||◌, not, nat_lt, List, [], ◌∷◌, ◌++◌, map, count_by, length, get_or, drop, refl, ap, ◌∙◌, subst, arith, IsTrue, All}
use Rattle.std.specs.List.{filter, flat_map}
use Rattle.std.specs.List.Sorted.{IsNonDecreasingBy, IsPermutation}
use Rattle.std.proofs.lemmas.Bool.{lt-ltb}
use Rattle.std.proofs.lemmas.List.Elements.{All-append, All-map}
use Rattle.std.proofs.lemmas.List.Sorted.{All-permutation, sum_by-IsPermutation}
use Rattle.std.proofs.lemmas.List.Sums.{sum_by-cons}
use Rattle.dn_net.specs.declared.entries.Place.{Place}
use Rattle.dn_net.specs.declared.node.Block.{Block}
use Rattle.dn_net.specs.declared.node.Entry.{Entry}
use Rattle.dn_net.specs.declared.node.NodeDecl.{NodeDecl}
use Rattle.dn_net.specs.declared.spans.NodeBlock.{NodeBlock}
use Rattle.dn_net.specs.Decode.{within, in_some_block, top}
use Rattle.dn_net.specs.Order.{places_from}
use Rattle.dn_net.specs.Rules.{block_in_range, overlaps, map_blocks_at, accepted_count, count_below}
use Rattle.dn_net.specs.Spans.{node_spans, maps_in, accepts_in, overlaps_in, is_accepted_in}
use Rattle.dn_net.proofs.Least.{maps_at, maps_at-cons}
use Rattle.dn_net.proofs.Sweep.{one_if, maps_in-cons, accepts_in-cons}
use Rattle.dn_net.proofs.Tally.{count_below-same}
use Rattle.dn_net.proofs.Woven.{ascends_from, ascends_to, woven, woven_all, woven_ascends, woven_more, woven_same}

-- how many of the map blocks have the address
abbrev places_at : List Place → ℕ → ℕ
places_at places a = count_by (λ p. within a p.block) places

places_at-cons : (p : Place) (ps : List Place) (a : ℕ) → places_at (p ∷ ps) a ≡ one_if (within a p.block) + places_at ps a
places_at-cons p ps a = sum_by-cons (λ (p : Place). cond (within a p.block) 1 0) p ps

no_maps : (bs : List Block) (a : ℕ) → maps_in (node_spans [] bs) a ≡ 0
no_maps [] a = refl
no_maps (b ∷ bs) a = maps_in-cons record { block = b; mapped = false } (node_spans [] bs) a ∙ (let h = no_maps bs a in omega arith)

-- the blocks with places are the mapped ones
node_maps : (ps : List Place) (bs : List Block) (a : ℕ) → maps_in (node_spans ps bs) a ≡ places_at ps a
node_maps [] bs a = no_maps bs a
node_maps (p ∷ ps) bs a =
    let h = node_maps ps bs a in
    let m = maps_in-cons record { block = p.block; mapped = true } (node_spans ps bs) a in
    let q = places_at-cons p ps a in
    omega (arith, h, m, q)

-- they are those of the entries
entry_maps : (n : ℕ) (es : List Entry) (a : ℕ) → places_at (places_from n es) a ≡ maps_at es a
entry_maps n [] a = refl
entry_maps n (e ∷ es) a =
    let h = entry_maps (n + 1) es a in
    let p = places_at-cons record { block = e.block; entry = n } (places_from (n + 1) es) a in
    let q = maps_at-cons e es a in
    omega (arith, h, p, q)

or_positive : (w : Bool) (n : ℕ) → nat_lt 0 (one_if w + n) ≡ (w || nat_lt 0 n)
or_positive true n = lt-ltb 0 (1 + n) (omega arith)
or_positive false n = let e : 0 + n ≡ n = omega arith in ap (λ k. nat_lt 0 k) e

just_accepts : (bs : List Block) (a : ℕ) → nat_lt 0 (accepts_in (node_spans [] bs) a) ≡ in_some_block a bs
just_accepts [] a = refl
just_accepts (b ∷ bs) a =
    ap (λ k. nat_lt 0 k) (accepts_in-cons record { block = b; mapped = false } (node_spans [] bs) a) ∙ or_positive (within a b) (accepts_in (node_spans [] bs) a) ∙ ap (λ k. within a b || k) (just_accepts bs a)

-- the other blocks are the accepted ones
node_accepts : (ps : List Place) (bs : List Block) (a : ℕ) → nat_lt 0 (accepts_in (node_spans ps bs) a) ≡ in_some_block a bs
node_accepts [] bs a = just_accepts bs a
node_accepts (p ∷ ps) bs a =
    let m = accepts_in-cons record { block = p.block; mapped = true } (node_spans ps bs) a in
    let q : 0 + accepts_in (node_spans ps bs) a ≡ accepts_in (node_spans ps bs) a = omega arith in
    ap (λ k. nat_lt 0 k) (m ∙ q) ∙ node_accepts ps bs a

-- the blocks of a node in any order: those of its entries, and others with the addresses of its accept blocks
pub record AreBlocksOf (d : NodeDecl) (spans : List NodeBlock) : Type 0 where
  pub places : List Place
  pub rows : List Block
  pub every : IsPermutation (places_from 0 d.entries) places
  pub accepted : (a : ℕ) → in_some_block a rows ≡ in_some_block a d.accepts
  pub same : IsPermutation (node_spans places rows) spans

pub blocks_of : (d : NodeDecl) (places : List Place) (rows : List Block) (spans : List NodeBlock) → IsPermutation (places_from 0 d.entries) places → ((a : ℕ) → in_some_block a rows ≡ in_some_block a d.accepts) → IsPermutation (node_spans places rows) spans → AreBlocksOf d spans
blocks_of d places rows spans every accepted same = record { places = places; rows = rows; every = every; accepted = accepted; same = same }

module _ (d : NodeDecl) (spans : List NodeBlock) (of_node : AreBlocksOf d spans) where
  spans_maps : (a : ℕ) → maps_in spans a ≡ map_blocks_at d a
  spans_maps a =
      sum_by-IsPermutation (λ (s : NodeBlock). cond (s.mapped && within a s.block) 1 0) (node_spans of_node.places of_node.rows) spans of_node.same
      ∙ node_maps of_node.places of_node.rows a
      ∙ sum_by-IsPermutation (λ (p : Place). cond (within a p.block) 1 0) (places_from 0 d.entries) of_node.places of_node.every
      ∙ entry_maps 0 d.entries a

  spans_accepts : (a : ℕ) → is_accepted_in spans a ≡ in_some_block a d.accepts
  spans_accepts a =
      ap (λ k. nat_lt 0 k) (sum_by-IsPermutation (λ (s : NodeBlock). cond (not s.mapped && within a s.block) 1 0) (node_spans of_node.places of_node.rows) spans of_node.same)
      ∙ node_accepts of_node.places of_node.rows a
      ∙ of_node.accepted a

  -- the same addresses overlap
  pub spans_overlap : (a : ℕ) → overlaps_in spans a ≡ overlaps d a
  spans_overlap a = λ i. nat_lt 1 (spans_maps a i) || (nat_lt 0 (spans_maps a i) && spans_accepts a i)

  -- as many addresses are accepted
  pub spans_count : count_below (is_accepted_in spans) (top + 1) ≡ accepted_count d
  spans_count = count_below-same (is_accepted_in spans) (λ a. in_some_block a d.accepts) spans_accepts (top + 1)

-- a map block and an accept block, as blocks of a node
abbrev map_span : Place → NodeBlock
map_span p = record { block = p.block; mapped = true }

abbrev accept_span : Block → NodeBlock
accept_span b = record { block = b; mapped = false }

-- map blocks and accept blocks in order, merged
abbrev pub merged : List Place → List Block → List NodeBlock
merged places accepts = woven (λ (p : Place). p.block.lo) (λ (b : Block). b.lo) (λ p. map_span p ∷ []) accept_span places accepts

-- one map block more, as a loop puts it behind what is made
pub merged_more : (made whole : List NodeBlock) (places : List Place) (i : ℕ) (d : Place) (rest : List Block) → i < length places → made ++ merged (drop i places) rest ≡ whole → ((made ++ node_spans [] (filter (λ b. nat_lt b.lo (get_or places i d).block.lo) rest)) ++ map_span (get_or places i d) ∷ []) ++ merged (drop (i + 1) places) (filter (λ b. not (nat_lt b.lo (get_or places i d).block.lo)) rest) ≡ whole
merged_more = woven_more (λ (p : Place). p.block.lo) (λ (b : Block). b.lo) (λ p. map_span p ∷ []) accept_span

-- and all of them
pub merged_all : (made whole : List NodeBlock) (places : List Place) (i : ℕ) (rest : List Block) → length places ≤ i → made ++ merged (drop i places) rest ≡ whole → made ++ node_spans [] rest ≡ whole
merged_all = woven_all (λ (p : Place). p.block.lo) (λ (b : Block). b.lo) (λ p. map_span p ∷ []) accept_span

ones : (ps : List Place) → flat_map (λ p. map_span p ∷ []) ps ≡ map map_span ps
ones [] = refl
ones (p ∷ ps) = ap (λ l. map_span p ∷ l) (ones ps)

pub merged_same : (places : List Place) (accepts : List Block) → IsPermutation (node_spans places accepts) (merged places accepts)
merged_same places accepts = subst (λ l. IsPermutation (l ++ map accept_span accepts) (merged places accepts)) (ones places) (woven_same (λ (p : Place). p.block.lo) (λ (b : Block). b.lo) (λ p. map_span p ∷ []) accept_span places accepts)

pub merged_sorted : (places : List Place) (accepts : List Block) → IsNonDecreasingBy (λ p. p.block.lo) places → IsNonDecreasingBy (λ b. b.lo) accepts → IsNonDecreasingBy (λ s. s.block.lo) (merged places accepts)
merged_sorted places accepts up down =
    ascends_to (λ (s : NodeBlock). s.block.lo) 0 (merged places accepts) (woven_ascends (λ (p : Place). p.block.lo) (λ (b : Block). b.lo) (λ p. map_span p ∷ []) accept_span (λ (s : NodeBlock). s.block.lo) (λ p. (refl, tt)) (λ b. refl) 0 places accepts
    (ascends_from (λ (p : Place). p.block.lo) 0 places up (λ d l. omega arith))
    (ascends_from (λ (b : Block). b.lo) 0 accepts down (λ d l. omega arith)))

pub merged_in_range : (places : List Place) (accepts : List Block) → All (λ p. IsTrue (block_in_range p.block)) places → All (λ b. IsTrue (block_in_range b)) accepts → All (λ s. IsTrue (block_in_range s.block)) (merged places accepts)
merged_in_range places accepts maps rest = All-permutation (λ (s : NodeBlock). IsTrue (block_in_range s.block)) (node_spans places accepts) (merged places accepts) (merged_same places accepts) (All-append (λ (s : NodeBlock). IsTrue (block_in_range s.block)) (map map_span places) (map accept_span accepts) (All-map (λ (s : NodeBlock). IsTrue (block_in_range s.block)) map_span places maps) (All-map (λ (s : NodeBlock). IsTrue (block_in_range s.block)) accept_span accepts rest))
