-- The blocks that begin below the address come first.
use Rattle.std.proofs.Common.{◌≡◌, ◌∙◌, rules, sym, subst, arith, filter, take, drop, nat_lt, not}
use Rattle.std.specs.List.Sorted.{IsNonDecreasingBy}
use Rattle.std.proofs.lemmas.List.Sorted.{IsPartitionPoint-from_clause, IsPartitionedBy-ltb, IsNonDecreasingBy-drop}
use Rattle.dn_net.specs.declared.node.Block.{Block}
use Rattle.dn_net.proofs.Woven.{split_is}
use Rattle.dn_net.proofs.spans.split_below.Goals as goal
use Rattle.dn_net.proofs.spans.split_below.Goals.{After-split_at}

halves : (c : After-split_at) → (take c.partition_point.result c.args.blocks.now ≡ filter (λ (b : Block). nat_lt b.lo c.args.addr) c.args.blocks.now) × (drop c.partition_point.result c.args.blocks.now ≡ filter (λ (b : Block). not (nat_lt b.lo c.args.addr)) c.args.blocks.now)
halves c =
    let split = IsPartitionPoint-from_clause (λ (b : Block). nat_lt b.lo c.args.addr) c.args.blocks.now _ c.partition_point.ensures.partitioned (IsPartitionedBy-ltb (λ (b : Block). b.lo) c.args.blocks.now c.args.addr c.requires) (λ a r q e. search rules) in
    split_is (λ (b : Block). nat_lt b.lo c.args.addr) c.args.blocks.now c.partition_point.result c.partition_point.ensures.bound (λ k d l. split.0 k d (omega arith) l) (λ k d l m. split.1 k d l m)

pub returns-clause-below : goal.returns-clause-below
returns-clause-below c = c.split_at.ensures.front ∙ (halves (goal.at.returns-clause-below c).After-split_at).0

pub returns-clause-others : goal.returns-clause-others
returns-clause-others c = c.split_at.ensures.back ∙ (halves (goal.at.returns-clause-others c).After-split_at).1

pub returns-clause-sorted : goal.returns-clause-sorted
returns-clause-sorted c = subst (λ l. IsNonDecreasingBy (λ (b : Block). b.lo) l) (sym c.split_at.ensures.back) (IsNonDecreasingBy-drop (λ (b : Block). b.lo) c.partition_point.result c.args.blocks.now c.requires)
