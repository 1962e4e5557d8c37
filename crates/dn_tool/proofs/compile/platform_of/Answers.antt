use Rattle.std.proofs.Common.{rules, ◌≡◌, List, None}
use Rattle.dn_kind.specs.Kind.{Meaning}
use Rattle.dn_kind.specs.Kinded.{kinds_of}
use Rattle.dn_kind.specs.Units.{shape_fault}
use Rattle.dn_net.specs.Rules.{node_fault}
use Rattle.dn_module.specs.Finish.{outcome_view}
use Rattle.dn_tool.proofs.WalkFaults.{walk_fault_within}
use Rattle.dn_tool.proofs.NodeFaults.{fault_within}
use Rattle.dn_tool.proofs.Refusals.{nodes_refused, unit_refused, walks_refused}
use Rattle.dn_script.proofs.Shaped.{shape_fault_within}
use Rattle.dn_tool.proofs.compile.platform_of.Goals as goal

pub node_refusal-requires : goal.node_refusal-requires
node_refusal-requires g c = fault_within c.args.expanded.net _ c.in-Err.ensures.checks

pub returns-in-Err-clause-answer : goal.returns-in-Err-clause-answer
returns-in-Err-clause-answer g c =
    c.fault_of.ensures _ (nodes_refused _ (outcome_view c.args.expanded) _ c.node_refusal.result c.in-Err.ensures.checks c.node_refusal.ensures)

pub unit_refusal-requires : goal.unit_refusal-requires
unit_refusal-requires g c = shape_fault_within _ c.args.expanded.net _ c.in-Err-check_units.ensures.checks

pub returns-in-Err-check_units-clause-answer : goal.returns-in-Err-check_units-clause-answer
returns-in-Err-check_units-clause-answer g c =
    let checked : node_fault c.args.expanded.net ≡ None = search rules in
    c.fault_of-in-Err-check_units.ensures _ (unit_refused _ (outcome_view c.args.expanded) _ c.unit_refusal.result checked c.in-Err-check_units.ensures.checks c.unit_refusal.ensures)

pub walk_refusal-requires : goal.walk_refusal-requires
walk_refusal-requires g c = walk_fault_within c.args.expanded.net _ c.requires.closed c.in-Err-walks.ensures.checks

pub returns-clause-answer : goal.returns-clause-answer
returns-clause-answer g c =
    let kinds : List Meaning = kinds_of (λ k. (goal.UnitKind-dyn g k).meaning k.1) c.args.kinds.now in
    let checked : node_fault c.args.expanded.net ≡ None = search rules in
    let shaped : shape_fault kinds c.args.expanded.net ≡ None = search rules in
    c.fault_of-in-Err-walks.ensures _ (walks_refused kinds (outcome_view c.args.expanded) _ c.walk_refusal.result checked shaped c.in-Err-walks.ensures.checks c.walk_refusal.ensures)
