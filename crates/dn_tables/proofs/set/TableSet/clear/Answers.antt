use Rattle.std.proofs.Common.{is_err, slice_set, take, List}
use Rattle.dn_tables.specs.declared.table.NodeTable.{NodeTable}
use Rattle.dn_tables.specs.Writes.{WordWrite, AreMade, clear_writes}
use Rattle.dn_tables.proofs.Made.{IsCallIn, call_in, words_on_device, call_keeps, call_made, call_on_device}
use Rattle.dn_tables.proofs.Slots.{all_made, on_ok, clears_of_table, clear_stands, clear_stopped, fit_stays}
use Rattle.dn_tables.proofs.set.TableSet.clear.Given.{Over}
use Rattle.dn_tables.proofs.set.TableSet.clear.Goals.{After-index_mut-table}
use Rattle.dn_tables.proofs.set.TableSet.clear.Goals as goal

-- the call on the table of the node, seen from its set
called : (g : Over) (c : After-index_mut-table g) → IsCallIn c.self.inside.nodes.items c.args.self.now c.from.result c.args.unit c.args.slot c.index_mut-table.result.now
called g c = call_in c.self.inside.nodes.items c.args.self.now c.from.result c.args.unit c.args.slot c.index_mut-table.result.now c.self.view_is c.from.ensures c.self.invariant c.requires.there c.index_mut-table.ensures.value

pub clear-requires : goal.clear-requires
clear-requires g c =
    let call = called g (goal.at.clear-requires g c).After-index_mut-table in
    record {
      slot = call.here.has;
      on_device = words_on_device c.self.inside.nodes.items c.args.self.now c.from.result c.args.unit c.args.slot c.index_mut-table.result.now _ _ call c.requires.on_device;
    }

pub invariant_of-self : goal.invariant_of-self
invariant_of-self g c = call_keeps c.self.inside.nodes.items c.args.self.now c.from.result c.args.unit c.args.slot c.index_mut-table.result.now c.clear.new.self _ _ _ _ _ _ (called g (goal.at.invariant_of-self g c).After-index_mut-table) c.clear.ensures.same c.clear.ensures.written

pub returns : goal.returns
returns g c =
    let call = called g (goal.at.returns g c).After-index_mut-table in
    let writes : List WordWrite = clear_writes c.args.self.now c.args.unit c.args.slot in
    let after : List NodeTable = slice_set c.self.inside.nodes.items c.from.result c.clear.new.self in
    let made : AreMade c.args.unit writes (is_err c.clear.result) (g.D.Tables.log c.args.device.now) (g.D.Tables.log c.clear.new.device) (g.D.Tables.words c.args.device.now) (g.D.Tables.words c.clear.new.device) c.args.self.now after = call_made c.self.inside.nodes.items c.args.self.now c.from.result c.args.unit c.args.slot c.index_mut-table.result.now c.clear.new.self _ writes _ _ _ _ _ call c.clear.ensures.same (clears_of_table c.args.self.now c.args.unit c.args.slot c.index_mut-table.result.now call.here.at) c.clear.ensures.written in
    record {
      ok = on_ok c.clear.result _ (λ e. clear_stands c.args.self.now after c.args.unit c.args.slot c.index_mut-table.result.now call.here (all_made c.args.unit writes _ _ _ _ c.args.self.now after (is_err c.clear.result) e made));
      made = made;
      stopped = clear_stopped c.args.self.now after c.args.unit c.args.slot made.made c.index_mut-table.result.now call.here made.kept;
      fits = fit_stays (take made.made writes) c.args.self.now after c.args.unit made.kept;
      counted = c.clear.ensures.counted;
      on_device = call_on_device c.self.inside.nodes.items c.args.self.now c.from.result c.args.unit c.args.slot c.index_mut-table.result.now after writes _ _ _ _ _ _ _ call c.requires.on_device c.clear.ensures.units made;
    }
