use Rattle.std.proofs.Common.{rules, arith, nat_lt, Some, ap, sym, ◌∙◌}
use Rattle.std.proofs.lemmas.List.Sorted.{IsPartitionPoint-from_clause, IsPartitionedBy-ltb}
use Rattle.std.proofs.lemmas.Option.{slice_get-get_or, slice_get_past}
use Rattle.dn_net.proofs.Stretch.{found_row, no_row}
use Rattle.dn_net.proofs.accepts.is_in_rows.Goals as goal

pub returns-in-Some : goal.returns-in-Some
returns-in-Some c =
    let rows = c.args.rows.now in
    let row = c.in-Some.row.now in
    let split = IsPartitionPoint-from_clause (λ b. nat_lt b.hi c.args.addr) rows _ c.partition_point.ensures.partitioned (IsPartitionedBy-ltb (λ b. b.hi) rows c.args.addr c.requires.lasts) (λ a r q e. search rules) in
    let found = c.in-Some.ensures.lookup.3 in
    found_row rows c.args.addr c.partition_point.result (λ j d l h. split.0 j d (omega arith) l) row c.requires.firsts (λ j d l h. split.1 j d l h) (slice_get-get_or rows c.partition_point.result row found.0 ∙ ap (λ b. Some b) (sym (found.1 row)))

pub returns-in-None : goal.returns-in-None
returns-in-None c =
    let rows = c.args.rows.now in
    let split = IsPartitionPoint-from_clause (λ b. nat_lt b.hi c.args.addr) rows _ c.partition_point.ensures.partitioned (IsPartitionedBy-ltb (λ b. b.hi) rows c.args.addr c.requires.lasts) (λ a r q e. search rules) in
    no_row rows c.args.addr c.partition_point.result (λ j d l h. split.0 j d (omega arith) l) (slice_get_past rows c.partition_point.result c.in-None.ensures.lookup.3)
