use Rattle.std.proofs.Common.{rules, arith, ◌≡◌, ◌-◌, ◌<◌, ap, inl, inr, nat_le, leb-true, get_or}
use Rattle.std.proofs.lemmas.Bool.{cases_lt, leb-false}
use Rattle.std.proofs.lemmas.List.Sorted.{IsPartitionPoint-from_clause, IsPartitionedBy-leb}
use Rattle.std.proofs.lemmas.Option.{get_or_from_slice_get, slice_get-get_or}
use Rattle.dn_net.specs.declared.entries.Place.{Place}
use Rattle.dn_net.proofs.entries.last_before.Goals as goal

pub returns-then-after-eq0-clause-none : goal.returns-then-after-eq0-clause-none
returns-then-after-eq0-clause-none c k d h =
    let order = c.args.order.now in
    let split = IsPartitionPoint-from_clause (λ p. nat_le p.block.lo c.args.addr) order _ c.partition_point-after.ensures.partitioned (IsPartitionedBy-leb (λ p. p.block.lo) order c.args.addr c.requires) (λ a r q e. search rules) in
    let none = c.if-after-eq0.true in
    leb-false _ _ (split.1 k d (omega (arith, none)) h)

pub returns-clause-begun : goal.returns-clause-begun
returns-clause-begun c =
    let order = c.args.order.now in
    let split = IsPartitionPoint-from_clause (λ p. nat_le p.block.lo c.args.addr) order _ c.partition_point-after.ensures.partitioned (IsPartitionedBy-leb (λ p. p.block.lo) order c.args.addr c.requires) (λ a r q e. search rules) in
    let some = c.if-after-eq0.false in
    leb-true _ _ (split.0 (c.partition_point-after.result - 1) _ (omega arith) (omega (arith, some)))

pub returns-clause-last : goal.returns-clause-last
returns-clause-last c k d h begun =
    let order = c.args.order.now in
    let after = c.partition_point-after.result in
    let split = IsPartitionPoint-from_clause (λ p. nat_le p.block.lo c.args.addr) order _ c.partition_point-after.ensures.partitioned (IsPartitionedBy-leb (λ p. p.block.lo) order c.args.addr c.requires) (λ a r q e. search rules) in
    let some = c.if-after-eq0.false in
    let bound = c.partition_point-after.ensures.bound in
    elim (cases_lt k after) [
      | inl l ↦ (let z : Place = record { block = record { lo = 0; hi = 0 }; entry = 0 } in let s : get_or order k d ≡ get_or order k z = get_or_from_slice_get order k (get_or order k z) d (slice_get-get_or order k z h) in let e = ap (λ (p : Place). p.block.lo) s in let u = c.requires k (after - 1) z (omega arith) (omega (arith, some, bound)) in omega (arith, e, u))
      | inr l ↦ (let late : c.args.addr < (get_or order k d).block.lo = leb-false _ _ (split.1 k d l h) in absurd (omega (arith, late, begun)))
    ]
