-- Maximal spans that have exactly the addresses of no block are the gaps between the blocks.
use Rattle.std.proofs.Common.{◌≡◌, ℕ, ◌+◌, ◌≤◌, Bool, not, ◌&&◌, ◌||◌, nat_le, List, [], ◌∷◌, map, refl, sym, ap, ◌∙◌, arith, IsTrue, le-leb}
use Rattle.std.specs.List.{list_all}
use Rattle.dn_interval.specs.declared.span.Span.{Span}
use Rattle.dn_interval.specs.Spans.{has, StandFrom, AreMaximal}
use Rattle.dn_interval.proofs.Standing.{one_list}
use Rattle.dn_net.specs.declared.node.Block.{Block}
use Rattle.dn_net.specs.Decode.{top, within, in_some_block}
use Rattle.dn_net.specs.Rules.{block_in_range}
use Rattle.dn_net.specs.Walks.{all_addresses, cut_each}
use Rattle.dn_net.proofs.Gaps.{Stand, cut_each_stands, accepts_upward, cut_each_has, whole_has}

abbrev pub block_of_span : Span → Block
block_of_span s = record { lo = s.lo; hi = s.hi }

-- blocks that stand so, as spans
abbrev spans_of : (from : ℕ) (bs : List Block) → Stand from bs → List Span
spans_of from [] h = []
spans_of from (b ∷ bs) h = record { lo = b.lo; hi = b.hi; ordered = h.1; within = h.2 } ∷ spans_of (b.hi + 2) bs h.3

spans_stand : (from : ℕ) (bs : List Block) (h : Stand from bs) → StandFrom from (spans_of from bs h)
spans_stand from [] h = tt
spans_stand from (b ∷ bs) h = (h.0, spans_stand (b.hi + 2) bs h.3)

spans_have : (from : ℕ) (bs : List Block) (h : Stand from bs) (a : ℕ) → has (spans_of from bs h) a ≡ in_some_block a bs
spans_have from [] h a = refl
spans_have from (b ∷ bs) h a = ap (λ p. within a b || p) (spans_have (b.hi + 2) bs h.3 a)

spans_back : (from : ℕ) (bs : List Block) (h : Stand from bs) → map block_of_span (spans_of from bs h) ≡ bs
spans_back from [] h = refl
spans_back from (b ∷ bs) h = ap (λ l. b ∷ l) (spans_back (b.hi + 2) bs h.3)

-- the blocks may stand in any order, and overlap
pub spans_are_left : (bs : List Block) → IsTrue (list_all block_in_range bs) → (xs : List Span) → AreMaximal xs → ((a : ℕ) → a ≤ top → has xs a ≡ not (in_some_block a bs)) → map block_of_span xs ≡ cut_each bs (all_addresses ∷ [])
spans_are_left bs all xs maximal same = ap (λ l. map block_of_span l) one ∙ spans_back 0 (cut_each bs (all_addresses ∷ [])) stand
  where
    stand : Stand 0 (cut_each bs (all_addresses ∷ []))
    stand = cut_each_stands bs 0 (all_addresses ∷ []) (accepts_upward bs all) ((omega arith), (omega arith), (omega arith), tt)

    low : (a : ℕ) (p : Bool) → a ≤ top → (nat_le a top && p) ≡ p
    low a p l = ap (λ t. t && p) (le-leb a top l)

    one : xs ≡ spans_of 0 (cut_each bs (all_addresses ∷ [])) stand
    one = one_list xs (spans_of 0 (cut_each bs (all_addresses ∷ [])) stand) maximal (spans_stand 0 (cut_each bs (all_addresses ∷ [])) stand) (λ a l. same a l ∙ sym (spans_have 0 (cut_each bs (all_addresses ∷ [])) stand a ∙ (cut_each_has a bs (all_addresses ∷ []) ∙ (ap (λ p. p && not (in_some_block a bs)) (whole_has a) ∙ low a (not (in_some_block a bs)) l))))
