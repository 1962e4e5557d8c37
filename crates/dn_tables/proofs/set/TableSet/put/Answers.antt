use Rattle.std.proofs.Common.{◌≡◌, ◌∙◌, ap, false, is_err, slice_set, List, take}
use Rattle.std.specs.List.{All}
use Rattle.dn_base.proofs.Lists.{list_all-at}
use Rattle.dn_kind.specs.Kind.{Meaning, IsLawful}
use Rattle.dn_kind.specs.Kinded.{kinds_of}
use Rattle.dn_tables.specs.declared.table.NodeTable.{NodeTable}
use Rattle.dn_tables.specs.Set.{fits_by, unit_of_table, with_slot, packed_in}
use Rattle.dn_tables.specs.Writes.{WordWrite, AreMade, put_writes}
use Rattle.dn_tables.proofs.Made.{IsCallIn, call_in, words_on_device, call_keeps, call_made, call_on_device}
use Rattle.dn_tables.proofs.Slots.{all_of_map, all_made, on_ok, on_err, puts_of_table, put_stands, put_recorded, put_stopped, fit_stays}
use Rattle.dn_tables.proofs.set.TableSet.put.Given.{Over}
use Rattle.dn_tables.proofs.set.TableSet.put.Goals.{After-index_mut-table}
use Rattle.dn_tables.proofs.set.TableSet.put.Goals as goal

-- the call on the table of the node, seen from its set
called : (g : Over) (c : After-index_mut-table g) → IsCallIn c.self.inside.nodes.items c.args.self.now c.from.result c.args.unit c.args.slot c.index_mut-table.result.now
called g c = call_in c.self.inside.nodes.items c.args.self.now c.from.result c.args.unit c.args.slot c.index_mut-table.result.now c.self.view_is c.from.ensures c.self.invariant c.requires.there c.index_mut-table.ensures.value

pub put-requires : goal.put-requires
put-requires g c =
    let kinds : List Meaning = kinds_of (λ k. (goal.UnitKind-dyn g k).meaning k.1) c.args.kinds.now in
    let call = called g (goal.at.put-requires g c).After-index_mut-table in
    record {
      kinds = c.requires.kinds;
      fits = list_all-at (λ t. fits_by kinds t.width t.unit) c.args.self.now c.args.unit c.index_mut-table.result.now c.requires.fits call.here.at;
      slot = call.here.has;
      packable = λ u kind e at. c.requires.packable u kind (ap unit_of_table call.here.at ∙ e) at;
      on_device = words_on_device c.self.inside.nodes.items c.args.self.now c.from.result c.args.unit c.args.slot c.index_mut-table.result.now _ _ call c.requires.on_device;
    }

pub returns : goal.returns
returns g c =
    let call = called g (goal.at.returns g c).After-index_mut-table in
    let kinds : List Meaning = kinds_of (λ k. (goal.UnitKind-dyn g k).meaning k.1) c.args.kinds.now in
    let lawful : All IsLawful kinds = all_of_map _ c.args.kinds.now.list.items c.requires.kinds.lawful in
    let writes : List WordWrite = put_writes kinds c.args.self.now c.args.unit c.args.slot c.args.record in
    let after : List NodeTable = slice_set c.self.inside.nodes.items c.from.result c.put.new.self in
    let made : AreMade c.args.unit writes (is_err c.put.result) (g.D.Tables.log c.args.device.now) (g.D.Tables.log c.put.new.device) (g.D.Tables.words c.args.device.now) (g.D.Tables.words c.put.new.device) c.args.self.now after = call_made c.self.inside.nodes.items c.args.self.now c.from.result c.args.unit c.args.slot c.index_mut-table.result.now c.put.new.self _ writes _ _ _ _ _ call c.put.ensures.same (puts_of_table kinds c.args.self.now c.args.unit c.args.slot c.args.record c.index_mut-table.result.now call.here.at) c.put.ensures.written in
    let stands : is_err c.put.result ≡ false → after ≡ with_slot c.args.self.now c.args.unit c.args.slot (packed_in kinds c.args.self.now c.args.unit c.args.record) = λ e. put_stands kinds lawful c.args.self.now c.args.unit c.args.slot c.index_mut-table.result.now call.here c.requires.fits c.args.record c.requires.packable after (all_made c.args.unit writes _ _ _ _ c.args.self.now after (is_err c.put.result) e made) in
    record {
      ok = on_ok c.put.result _ stands;
      recorded = on_ok c.put.result _ (λ e. put_recorded kinds lawful c.args.self.now c.args.unit c.args.slot c.index_mut-table.result.now call.here c.requires.fits c.args.record c.requires.packable after (stands e));
      made = made;
      stopped = on_err c.put.result _ (λ e. put_stopped kinds lawful c.args.self.now c.args.unit c.args.slot c.index_mut-table.result.now call.here c.requires.fits c.args.record c.requires.packable after made.made c.requires.empty (made.less e) made.kept);
      fits = fit_stays (take made.made writes) c.args.self.now after c.args.unit made.kept;
      on_device = call_on_device c.self.inside.nodes.items c.args.self.now c.from.result c.args.unit c.args.slot c.index_mut-table.result.now after writes _ _ _ _ _ _ _ call c.requires.on_device c.put.ensures.units made;
      counted = c.put.ensures.counted;
    }

pub invariant_of-self : goal.invariant_of-self
invariant_of-self g c = call_keeps c.self.inside.nodes.items c.args.self.now c.from.result c.args.unit c.args.slot c.index_mut-table.result.now c.put.new.self _ _ _ _ _ _ (called g (goal.at.invariant_of-self g c).After-index_mut-table) c.put.ensures.same c.put.ensures.written
