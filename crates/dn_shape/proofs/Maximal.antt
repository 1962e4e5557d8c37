-- The maximal spans of blocks: what they have, how they stand, and that a set of spans with the same addresses is they.
use Rattle.std.proofs.Common.{◌≡◌, ℕ, zero, suc, ◌+◌, ◌<◌, ◌≤◌, Bool, true, false, not, ◌&&◌, ◌||◌, nat_le, List, [], ◌∷◌, map, length, Option, Some, None, option_map, slice_get, refl, sym, ap, ◌∙◌, arith, IsTrue, leb-true, le-leb}
use Rattle.std.specs.List.{list_all}
use Rattle.std.proofs.lemmas.Bool.{leb-false}
use Rattle.dn_base.proofs.Booleans.{and_parts, not-not}
use Rattle.dn_interval.specs.declared.span.Span.{Span}
use Rattle.dn_interval.specs.Spans.{has, AreMaximal}
use Rattle.dn_net.specs.declared.node.Block.{Block}
use Rattle.dn_net.specs.declared.node.NodeDecl.{NodeDecl}
use Rattle.dn_net.specs.Decode.{top, within, in_some_block, is_accepted_at}
use Rattle.dn_net.specs.Rules.{block_in_range, KeepsNodeRules}
use Rattle.dn_net.proofs.Apart.{node_apart}
use Rattle.dn_net.specs.Walks.{all_addresses, cut_each}
use Rattle.dn_net.proofs.Gaps.{Stand, cut_each_stands, accepts_upward, cut_each_has, whole_has}
use Rattle.dn_net.proofs.Least.{within_to}
use Rattle.dn_walk.specs.Legs.{span_view}
use Rattle.dn_walk.proofs.Holes.{spans_are_left}
use Rattle.dn_shape.specs.Split.{maximal_spans, AreBlocksApart, SpansAreMaximal}

-- every address stands
whole_stands : Stand 0 (all_addresses ∷ [])
whole_stands = ((omega arith), (omega arith), (omega arith), tt)

stand_in_range : (from : ℕ) (bs : List Block) → Stand from bs → IsTrue (list_all block_in_range bs)
stand_in_range from [] h = refl
stand_in_range from (b ∷ bs) h = rw (le-leb b.lo b.hi h.1, le-leb b.hi top h.2, stand_in_range (b.hi + 2) bs h.3) refl

stand_apart : (from : ℕ) (bs : List Block) → Stand from bs → AreBlocksApart from bs
stand_apart from [] h = tt
stand_apart from (b ∷ bs) h = (h.0, h.1, h.2, stand_apart (b.hi + 2) bs h.3)

-- what blocks leave stands, and is in range
left_stands : (bs : List Block) → IsTrue (list_all block_in_range bs) → Stand 0 (cut_each bs (all_addresses ∷ []))
left_stands bs all = cut_each_stands bs 0 (all_addresses ∷ []) (accepts_upward bs all) whole_stands

left_in_range : (bs : List Block) → IsTrue (list_all block_in_range bs) → IsTrue (list_all block_in_range (cut_each bs (all_addresses ∷ [])))
left_in_range bs all = stand_in_range 0 (cut_each bs (all_addresses ∷ [])) (left_stands bs all)

left_has : (a : ℕ) (bs : List Block) → in_some_block a (cut_each bs (all_addresses ∷ [])) ≡ (nat_le a top && not (in_some_block a bs))
left_has a bs = cut_each_has a bs (all_addresses ∷ []) ∙ ap (λ p. p && not (in_some_block a bs)) (whole_has a)

twice : (p q : Bool) → (p && not (p && not q)) ≡ (p && q)
twice true true = refl
twice true false = refl
twice false q = refl

-- they have the addresses of the blocks, up to the last address
pub spans_have : (a : ℕ) (bs : List Block) → in_some_block a (maximal_spans bs) ≡ (nat_le a top && in_some_block a bs)
spans_have a bs =
    left_has a (cut_each bs (all_addresses ∷ []))
    ∙ ap (λ p. nat_le a top && not p) (left_has a bs)
    ∙ twice (nat_le a top) (in_some_block a bs)

-- blocks in range have no address past the last
in_range_low : (a : ℕ) (bs : List Block) → IsTrue (list_all block_in_range bs) → nat_le a top ≡ false → in_some_block a bs ≡ false
in_range_low a [] all past = refl
in_range_low a (b ∷ bs) all past =
    let r = and_parts (block_in_range b) (list_all block_in_range bs) all in
    let t : b.hi ≤ top = leb-true b.hi top (and_parts (nat_le b.lo b.hi) (nat_le b.hi top) r.0).1 in
    let l = leb-false a top past in
    ap (λ p. p || in_some_block a bs) (none (within a b) refl t l) ∙ in_range_low a bs r.1 past
  where
    none : (p : Bool) → within a b ≡ p → b.hi ≤ top → top < a → p ≡ false
    none false e t l = refl
    none true e t l = let h : a ≤ b.hi = (within_to a b e).1 in absurd (omega arith)

low : (a : ℕ) (bs : List Block) → IsTrue (list_all block_in_range bs) → (nat_le a top && in_some_block a bs) ≡ in_some_block a bs
low a bs all = by (nat_le a top) refl
  where
    by : (p : Bool) → nat_le a top ≡ p → (p && in_some_block a bs) ≡ in_some_block a bs
    by true e = refl
    by false e = sym (in_range_low a bs all e)

pub maximal_stand : (bs : List Block) → IsTrue (list_all block_in_range bs) → Stand 0 (maximal_spans bs)
maximal_stand bs all = left_stands (cut_each bs (all_addresses ∷ [])) (left_in_range bs all)

pub maximal_in_range : (bs : List Block) → IsTrue (list_all block_in_range bs) → IsTrue (list_all block_in_range (maximal_spans bs))
maximal_in_range bs all = left_in_range (cut_each bs (all_addresses ∷ [])) (left_in_range bs all)

pub spans_are_maximal : SpansAreMaximal
spans_are_maximal bs all = (stand_apart 0 (maximal_spans bs) (maximal_stand bs all), λ a. spans_have a bs ∙ low a bs all)

-- maximal spans that have what the blocks have
pub spans_are : (bs : List Block) → IsTrue (list_all block_in_range bs) → (xs : List Span) → AreMaximal xs → ((a : ℕ) → a ≤ top → has xs a ≡ in_some_block a bs) → map span_view xs ≡ maximal_spans bs
spans_are bs all xs maximal same = spans_are_left (cut_each bs (all_addresses ∷ [])) (left_in_range bs all) xs maximal (λ a l. same a l ∙ sym (ap not (left_has a bs ∙ ap (λ p. p && not (in_some_block a bs)) (le-leb a top l)) ∙ not-not (in_some_block a bs)))

there_is : (ns : List NodeDecl) (k : ℕ) → k < length ns → slice_get ns k ≡ None → ⊥
there_is [] k l g = absurd (omega arith)
there_is (n ∷ ns) zero l g = cc
there_is (n ∷ ns) (suc k) l g = there_is ns k (omega arith) g

-- the spans of the set of what a node accepts
pub set_spans : (net : List NodeDecl) (i : ℕ) (xs : List Span) (v : List Block) → KeepsNodeRules net → i < length net → AreMaximal xs → ((a : ℕ) → has xs a ≡ is_accepted_at a (slice_get net i)) → v ≡ map span_view xs → option_map (λ d. maximal_spans d.accepts) (slice_get net i) ≡ Some v
set_spans net i xs v rules there maximal same e = by (slice_get net i) refl
  where
    by : (o : Option NodeDecl) → slice_get net i ≡ o → option_map (λ d. maximal_spans d.accepts) o ≡ Some v
    by None f = absurd (there_is net i there f)
    by (Some d) f =
        let range = (node_apart net rules.each i d f).accepts in
        ap Some (sym (spans_are d.accepts range xs maximal (λ a l. same a ∙ ap (is_accepted_at a) f ∙ ap (λ p. p && in_some_block a d.accepts) (le-leb a top l))) ∙ sym e)
