-- The rows of the name's node stand together; only they can lead on.
use Rattle.std.proofs.Common.{◌≡◌, ◌∙◌, ◌-◌, sym, ap, rules, ltb, leb, map, take, drop}
use Rattle.std.proofs.lemmas.List.Sorted.{IsPartitionPoint-from_clause, IsPartitionedBy-ltb, IsPartitionedBy-leb}
use Rattle.std.proofs.lemmas.List.{take_all}
use Rattle.dn_walk.specs.declared.walks.WalkRow.{WalkRow}
use Rattle.dn_walk.specs.Rows.{row_view}
use Rattle.dn_walk.specs.Ways.{level_leads}
use Rattle.dn_walk.proofs.Runs.{Starts, Started, starts_in_turn, leads_between, none_more, one_leads}
use Rattle.dn_walk.proofs.way.does_lead.Goals as goal

pub slice_bounds-row-items-count : goal.slice_bounds-row-items-count
slice_bounds-row-items-count c =
    let starts : Starts c.args.name.node c.args.level.now c.partition_point-first.result = IsPartitionPoint-from_clause (λ (r : WalkRow). ltb r.start c.args.name.node) _ _ c.partition_point-first.ensures.partitioned (IsPartitionedBy-ltb (λ (r : WalkRow). r.start) c.args.level.now c.args.name.node c.requires) (λ a r q k. search rules) in
    let started : Started c.args.name.node c.args.level.now c.partition_point-end.result = IsPartitionPoint-from_clause (λ (r : WalkRow). leb r.start c.args.name.node) _ _ c.partition_point-end.ensures.partitioned (IsPartitionedBy-leb (λ (r : WalkRow). r.start) c.args.level.now c.args.name.node c.requires) (λ a r q k. search rules) in
    starts_in_turn c.args.name.node c.args.level.now _ _ c.partition_point-first.ensures.bound starts started

pub slice_bounds-row-items-start : goal.slice_bounds-row-items-start
slice_bounds-row-items-start c =
    let starts : Starts c.args.name.node c.args.level.now c.partition_point-first.result = IsPartitionPoint-from_clause (λ (r : WalkRow). ltb r.start c.args.name.node) _ _ c.partition_point-first.ensures.partitioned (IsPartitionedBy-ltb (λ (r : WalkRow). r.start) c.args.level.now c.args.name.node c.requires) (λ a r q k. search rules) in
    let started : Started c.args.name.node c.args.level.now c.partition_point-end.result = IsPartitionPoint-from_clause (λ (r : WalkRow). leb r.start c.args.name.node) _ _ c.partition_point-end.ensures.partitioned (IsPartitionedBy-leb (λ (r : WalkRow). r.start) c.args.level.now c.args.name.node c.requires) (λ a r q k. search rules) in
    starts_in_turn c.args.name.node c.args.level.now _ _ c.partition_point-first.ensures.bound starts started

pub loop-row-preserved : goal.loop-row-preserved
loop-row-preserved c =
    none_more c.args.goal c.args.name (take (c.partition_point-end.result - c.partition_point-first.result) (drop c.partition_point-first.result c.args.level.now)) c.loop-row.row-index c.row-item.result c.loop-row-test.true c.row-item.is c.loop-row.invariant (sym c.leads.ensures ∙ c.if-leads.false)

pub returns-then-leads : goal.returns-then-leads
returns-then-leads c =
    let starts : Starts c.args.name.node c.args.level.now c.partition_point-first.result = IsPartitionPoint-from_clause (λ (r : WalkRow). ltb r.start c.args.name.node) _ _ c.partition_point-first.ensures.partitioned (IsPartitionedBy-ltb (λ (r : WalkRow). r.start) c.args.level.now c.args.name.node c.requires) (λ a r q k. search rules) in
    let started : Started c.args.name.node c.args.level.now c.partition_point-end.result = IsPartitionPoint-from_clause (λ (r : WalkRow). leb r.start c.args.name.node) _ _ c.partition_point-end.ensures.partitioned (IsPartitionedBy-leb (λ (r : WalkRow). r.start) c.args.level.now c.args.name.node c.requires) (λ a r q k. search rules) in
    let rows = take (c.partition_point-end.result - c.partition_point-first.result) (drop c.partition_point-first.result c.args.level.now) in
    sym (one_leads c.args.goal c.args.name rows c.loop-row.row-index c.row-item.result c.loop-row-test.true c.row-item.is (sym c.leads.ensures ∙ c.if-leads.true))
    ∙ leads_between c.args.goal c.args.name c.args.level.now _ _ c.partition_point-first.ensures.bound c.partition_point-end.ensures.bound starts started

pub returns : goal.returns
returns c =
    let starts : Starts c.args.name.node c.args.level.now c.partition_point-first.result = IsPartitionPoint-from_clause (λ (r : WalkRow). ltb r.start c.args.name.node) _ _ c.partition_point-first.ensures.partitioned (IsPartitionedBy-ltb (λ (r : WalkRow). r.start) c.args.level.now c.args.name.node c.requires) (λ a r q k. search rules) in
    let started : Started c.args.name.node c.args.level.now c.partition_point-end.result = IsPartitionPoint-from_clause (λ (r : WalkRow). leb r.start c.args.name.node) _ _ c.partition_point-end.ensures.partitioned (IsPartitionedBy-leb (λ (r : WalkRow). r.start) c.args.level.now c.args.name.node c.requires) (λ a r q k. search rules) in
    let rows = take (c.partition_point-end.result - c.partition_point-first.result) (drop c.partition_point-first.result c.args.level.now) in
    let all : take c.loop-row.row-index rows ≡ rows = take_all c.loop-row.row-index rows c.loop-row-test.false in
    sym (sym (ap (λ l. level_leads c.args.goal (map row_view l) c.args.name) all) ∙ c.loop-row.invariant)
    ∙ leads_between c.args.goal c.args.name c.args.level.now _ _ c.partition_point-first.ensures.bound c.partition_point-end.ensures.bound starts started
