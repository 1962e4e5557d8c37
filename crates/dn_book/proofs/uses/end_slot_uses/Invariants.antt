use Rattle.std.proofs.Common.{◌-◌}
use Rattle.dn_kind.specs.Rights.{both_rights}
use Rattle.dn_placement.specs.Records.{first_slot}
use Rattle.dn_book.specs.Sets.{AreChanged, one_use_less}
use Rattle.dn_book.specs.Writes.{slots_from}
use Rattle.dn_book.proofs.uses.end_slot_uses.Given as goal

abbrev pub invariant-loop-slot : goal.invariant-loop-slot
invariant-loop-slot l = AreChanged one_use_less (slots_from l.unit both_rights l.hop (first_slot l.unit l.hop) (l.slot - first_slot l.unit l.hop)) l.fn.tables l.tables
