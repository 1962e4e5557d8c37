use Rattle.std.proofs.Common.{◌-◌, false}
use Rattle.dn_base.specs.Outside.{IsCounted}
use Rattle.dn_kind.specs.declared.rights.Rights.{Rights}
use Rattle.dn_placement.specs.Records.{first_slot}
use Rattle.dn_tables.specs.Set.{IsOnDevice}
use Rattle.dn_book.specs.Sets.{AreCleared}
use Rattle.dn_book.specs.Writes.{slots_from}
use Rattle.dn_book.proofs.clears.clear_slots.Given as goal

abbrev pub invariant-loop-slot : goal.invariant-loop-slot
invariant-loop-slot g l = record {
  cleared : (r : Rights) → AreCleared (slots_from l.unit r l.hop (first_slot l.unit l.hop) (l.slot - first_slot l.unit l.hop)) false (g.D.Tables.log l.fn.device) (g.D.Tables.log l.device) l.fn.tables l.tables;
  on_device : IsOnDevice l.tables (g.D.Tables.units l.device) (g.D.Tables.words l.device);
  counted : IsCounted (g.D.Tables.faults l.fn.device) (g.D.Tables.faults l.device) false;
}
