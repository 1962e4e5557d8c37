-- One node more.
use Rattle.std.proofs.Common.{ℕ, arith}
use Rattle.dn_kind.specs.Kinded.{kinds_of}
use Rattle.dn_tables.specs.Set.{record_kept}
use Rattle.dn_view.specs.Records.{HoldsNone}
use Rattle.dn_view.proofs.Agents.{each_among, place_more}
use Rattle.dn_view.proofs.holding.some_hold.Goals as goal

pub loop-node-init : goal.loop-node-init
loop-node-init g c k l = absurd (omega arith)

pub loop-node-preserved : goal.loop-node-preserved
loop-node-preserved g c =
    let none : ℕ → Type 0 = HoldsNone c.args.system.on.net.now (record_kept (kinds_of (λ k. (goal.UnitKind-dyn g k).meaning k.1) c.args.system.on.kinds.now) c.args.tables.now) in
    place_more none c.args.nodes.now 0 c.loop-node.node-index c.loop-node.invariant (c.may_hold.ensures c.if-may_hold.false)

pub returns : goal.returns
returns g c e =
    let none : ℕ → Type 0 = HoldsNone c.args.system.on.net.now (record_kept (kinds_of (λ k. (goal.UnitKind-dyn g k).meaning k.1) c.args.system.on.kinds.now) c.args.tables.now) in
    each_among none c.args.nodes.now c.loop-node.node-index c.loop-node-test.false c.loop-node.invariant
