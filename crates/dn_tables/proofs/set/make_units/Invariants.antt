use Rattle.std.proofs.Common.{◌≡◌, ◌++◌, take, map, false}
use Rattle.std.specs.Option.{option_map}
use Rattle.dn_base.specs.Device.{Logged, sizes_of}
use Rattle.dn_base.specs.Outside.{IsCounted}
use Rattle.dn_tables.specs.Set.{tables_of_set}
use Rattle.dn_tables.specs.Writes.{make_event}
use Rattle.dn_tables.proofs.set.make_units.Given as goal

abbrev pub invariant-loop-node : goal.invariant-loop-node
invariant-loop-node g l = record {
  units : g.D.Tables.units l.device ≡ sizes_of (tables_of_set (take l.node l.nodes));
  logged : Logged (g.D.Tables.log l.fn.device) (g.D.Tables.log l.device) (map make_event (tables_of_set (take l.node l.nodes)));
  on_device : g.D.Tables.words l.device ≡ option_map (λ before. before ++ tables_of_set (take l.node l.nodes)) (g.D.Tables.words l.fn.device);
  counted : IsCounted (g.D.Tables.faults l.fn.device) (g.D.Tables.faults l.device) false;
}
