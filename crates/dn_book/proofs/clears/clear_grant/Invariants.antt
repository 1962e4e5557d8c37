use Rattle.std.proofs.Common.{◌≡◌, false, map, take}
use Rattle.dn_base.specs.Outside.{IsCounted}
use Rattle.dn_tables.specs.Set.{IsOnDevice, units_of}
use Rattle.dn_book.specs.Sets.{AreCleared}
use Rattle.dn_book.specs.Writes.{grant_slots, joined_slots}
use Rattle.dn_book.proofs.clears.clear_grant.Given as goal

abbrev pub invariant-loop-hop : goal.invariant-loop-hop
invariant-loop-hop g l = record {
  cleared : AreCleared (joined_slots (take l.hop-index (grant_slots l.net l.grant))) false (g.D.Tables.log l.fn.device) (g.D.Tables.log l.device) l.fn.tables l.tables;
  units : units_of l.tables ≡ map (λ d. d.unit) l.net;
  on_device : IsOnDevice l.tables (g.D.Tables.units l.device) (g.D.Tables.words l.device);
  counted : IsCounted (g.D.Tables.faults l.fn.device) (g.D.Tables.faults l.device) false;
}
