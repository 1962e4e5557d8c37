-- The legs that begin below the address come first.
use Rattle.std.proofs.Common.{◌≡◌, ◌∙◌, rules, sym, subst, arith, filter, take, drop, nat_lt, not}
use Rattle.std.specs.List.Sorted.{IsNonDecreasingBy}
use Rattle.std.proofs.lemmas.List.Sorted.{IsPartitionPoint-from_clause, IsPartitionedBy-ltb, IsNonDecreasingBy-drop}
use Rattle.dn_interval.specs.declared.row.Seg.{Seg}
use Rattle.dn_net.proofs.Woven.{split_is}
use Rattle.dn_walk.proofs.leg.split_below.Goals as goal
use Rattle.dn_walk.proofs.leg.split_below.Goals.{After-split_at}

halves : (c : After-split_at) → (take c.partition_point.result c.args.legs.now ≡ filter (λ (s : Seg). nat_lt s.span.lo c.args.addr) c.args.legs.now) × (drop c.partition_point.result c.args.legs.now ≡ filter (λ (s : Seg). not (nat_lt s.span.lo c.args.addr)) c.args.legs.now)
halves c =
    let split = IsPartitionPoint-from_clause (λ (s : Seg). nat_lt s.span.lo c.args.addr) c.args.legs.now _ c.partition_point.ensures.partitioned (IsPartitionedBy-ltb (λ (s : Seg). s.span.lo) c.args.legs.now c.args.addr c.requires) (λ a r q e. search rules) in
    split_is (λ (s : Seg). nat_lt s.span.lo c.args.addr) c.args.legs.now c.partition_point.result c.partition_point.ensures.bound (λ k d l. split.0 k d (omega arith) l) (λ k d l m. split.1 k d l m)

pub returns-clause-below : goal.returns-clause-below
returns-clause-below c = c.split_at.ensures.front ∙ (halves (goal.at.returns-clause-below c).After-split_at).0

pub returns-clause-others : goal.returns-clause-others
returns-clause-others c = c.split_at.ensures.back ∙ (halves (goal.at.returns-clause-others c).After-split_at).1

pub returns-clause-sorted : goal.returns-clause-sorted
returns-clause-sorted c = subst (λ l. IsNonDecreasingBy (λ (s : Seg). s.span.lo) l) (sym c.split_at.ensures.back) (IsNonDecreasingBy-drop (λ (s : Seg). s.span.lo) c.partition_point.result c.args.legs.now c.requires)
