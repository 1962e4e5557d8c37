-- One map block more, with the accept blocks before it.
use Rattle.std.proofs.Common.{◌≡◌, ◌∙◌, ◌+◌, ◌++◌, ◌∷◌, [], ap, sym, subst, nat_lt, filter, get_or, drop, true, All, IsTrue}
use Rattle.std.specs.List.Sorted.{IsNonDecreasingBy, IsPermutation}
use Rattle.dn_net.specs.declared.entries.Place.{Place}
use Rattle.dn_net.specs.declared.node.Block.{Block}
use Rattle.dn_net.specs.declared.spans.NodeBlock.{NodeBlock}
use Rattle.dn_net.specs.Rules.{block_in_range}
use Rattle.dn_net.specs.Spans.{node_spans}
use Rattle.dn_net.proofs.Blocks.{merged, merged_more, merged_all, merged_same, merged_sorted, merged_in_range}
use Rattle.dn_net.proofs.spans.merged_spans.Goals as goal
use Rattle.dn_net.proofs.spans.merged_spans.Goals.{In_ok-push_accepts-2}

pub loop-place-preserved : goal.loop-place-preserved
loop-place-preserved c =
    let maps = c.args.maps.now in
    let z : Place = record { block = record { lo = 0; hi = 0 }; entry = 0 } in
    let place : Place = get_or maps c.loop-place.place-index z in
    let span : NodeBlock = record { block = place.block; mapped = true } in
    let next = drop (c.loop-place.place-index + 1) maps in
    let spans = c.loop-place.spans.items in
    let rest = c.loop-place.rest.now in
    record {
      same =
          ap (λ l. l ++ merged next c.split_below.result.1.now) (c.in_ok-push.ensures.items ∙ ap (λ l. l ++ span ∷ []) (c.in_ok-push_accepts.ensures ∙ ap (λ b. spans ++ node_spans [] b) c.split_below.ensures.below))
          ∙ ap (λ r. ((spans ++ node_spans [] (filter (λ (b : Block). nat_lt b.lo place.block.lo) rest)) ++ span ∷ []) ++ merged next r) c.split_below.ensures.others
          ∙ merged_more spans (merged maps c.args.accepts.now) maps c.loop-place.place-index z rest c.loop-place-test.true c.loop-place.invariant.same;
      sorted = c.split_below.ensures.sorted;
    }

whole : (c : In_ok-push_accepts-2) → c.push_accepts-2.new.spans.items ≡ merged c.args.maps.now c.args.accepts.now
whole c = c.in_ok-push_accepts-2.ensures ∙ merged_all c.loop-place.spans.items (merged c.args.maps.now c.args.accepts.now) c.args.maps.now c.loop-place.place-index c.loop-place.rest.now c.loop-place-test.false c.loop-place.invariant.same

pub returns-clause-same : goal.returns-clause-same
returns-clause-same c = subst (λ l. IsPermutation (node_spans c.args.maps.now c.args.accepts.now) l) (sym (whole (goal.at.returns-clause-same c).In_ok-push_accepts-2)) (merged_same c.args.maps.now c.args.accepts.now)

pub returns-clause-sorted : goal.returns-clause-sorted
returns-clause-sorted c = subst (λ l. IsNonDecreasingBy (λ (s : NodeBlock). s.block.lo) l) (sym (whole (goal.at.returns-clause-sorted c).In_ok-push_accepts-2)) (merged_sorted c.args.maps.now c.args.accepts.now c.requires.maps c.requires.accepts)

pub returns-clause-in_range : goal.returns-clause-in_range
returns-clause-in_range c = subst (λ l. All (λ (s : NodeBlock). IsTrue (block_in_range s.block)) l) (sym (whole (goal.at.returns-clause-in_range c).In_ok-push_accepts-2)) (merged_in_range c.args.maps.now c.args.accepts.now c.requires.maps_in_range c.requires.accepts_in_range)
