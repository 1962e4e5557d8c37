use Rattle.std.proofs.Common.{rules, arith}
use Rattle.std.proofs.lemmas.List.Sorted.{IsPartitionPoint-from_clause}
use Rattle.dn_net.specs.Names.{name_lt}
use Rattle.dn_net.proofs.Ascending.{partitioned}
use Rattle.dn_net.proofs.names.place_of.Goals as goal

pub returns-clause-before : goal.returns-clause-before
returns-clause-before c k d h = (IsPartitionPoint-from_clause (λ y. name_lt y c.args.name) c.args.names.now _ c.partition_point.ensures.partitioned (partitioned c.args.name c.args.names.now c.requires) (λ a r q e. search rules)).0 k d (omega arith) h

pub returns-clause-after : goal.returns-clause-after
returns-clause-after c k d h l = (IsPartitionPoint-from_clause (λ y. name_lt y c.args.name) c.args.names.now _ c.partition_point.ensures.partitioned (partitioned c.args.name c.args.names.now c.requires) (λ a r q e. search rules)).1 k d h l
