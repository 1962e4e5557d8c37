use Rattle.std.proofs.Common.{◌-◌, false}
use Rattle.dn_base.specs.Outside.{IsCounted}
use Rattle.dn_kind.specs.Kinded.{kinds_of}
use Rattle.dn_placement.specs.Records.{first_slot}
use Rattle.dn_tables.specs.Set.{IsOnDevice}
use Rattle.dn_book.specs.Sets.{ArePut}
use Rattle.dn_book.specs.Writes.{slots_from}
use Rattle.dn_book.proofs.puts.put_slots.Given as goal

abbrev pub invariant-loop-slot : goal.invariant-loop-slot
invariant-loop-slot g l =
    let kinds = kinds_of (λ k. (goal.UnitKind-dyn g k).meaning k.1) l.kinds in
    record {
      put : ArePut kinds (slots_from l.unit l.rights l.hop (first_slot l.unit l.hop) (l.slot - first_slot l.unit l.hop)) false (g.D.Tables.log l.fn.device) (g.D.Tables.log l.device) l.fn.tables l.tables;
      on_device : IsOnDevice l.tables (g.D.Tables.units l.device) (g.D.Tables.words l.device);
      counted : IsCounted (g.D.Tables.faults l.fn.device) (g.D.Tables.faults l.device) false;
    }
