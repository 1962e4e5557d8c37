use Rattle.std.proofs.Common.{◌<◌, ℕ, arith, subst, sym}
use Rattle.dn_tables.specs.Set.{IsInRun}
use Rattle.dn_tables.proofs.Kept.{slot_in_set, IsSlot}
use Rattle.dn_tables.proofs.set.TableSet.run_end.Goals.{After-index-table}
use Rattle.dn_tables.proofs.set.TableSet.run_end.Goals as goal

-- a slot before the end, in the table of its node
slot_of : (c : After-index-table) (slot : ℕ) → slot < c.args.end → IsSlot c.args.self.now c.args.unit slot c.index-table.result.now
slot_of c slot l = slot_in_set c.self.inside.nodes.items c.args.self.now c.from.result c.args.unit slot c.index-table.result.now c.self.view_is c.from.ensures c.self.invariant (c.requires slot l) c.index-table.ensures

pub run_end-requires : goal.run_end-requires
run_end-requires c slot l = (slot_of (goal.at.run_end-requires c).After-index-table slot l).has

pub returns-clause-run : goal.returns-clause-run
returns-clause-run c slot a b =
    let some = c.if-end-from.false in
    let l : slot < c.args.end = omega (arith, b, c.run_end.ensures.most (omega (arith, some))) in
    subst (λ o. IsInRun c.args.owned o slot) (sym (slot_of (goal.at.returns-clause-run c).After-index-table slot l).at) (c.run_end.ensures.run slot a b)
