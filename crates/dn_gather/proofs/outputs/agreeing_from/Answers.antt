use Rattle.std.proofs.Common.{rules, nat_lt, ◌*◌}
use Rattle.std.proofs.lemmas.List.Sorted.{IsPartitionPoint-from_clause, IsPartitionedBy-ltb}
use Rattle.dn_place.specs.declared.exits.Exit.{Exit}
use Rattle.dn_gather.proofs.Ranked.{agree_from}
use Rattle.dn_gather.proofs.outputs.agreeing_from.Goals as goal

pub returns-clause-from : goal.returns-clause-from
returns-clause-from c =
    agree_from c.args.page c.args.place c.partition_point.result c.args.exits.now c.requires.ranked
    (IsPartitionPoint-from_clause (λ (e : Exit). nat_lt e.rank (c.args.place * 576460752303423488)) _ _ c.partition_point.ensures.partitioned (IsPartitionedBy-ltb (λ (e : Exit). e.rank) c.args.exits.now (c.args.place * 576460752303423488) c.requires.ranked.order) (λ a r q k. search rules))
    c.partition_point.ensures.bound
