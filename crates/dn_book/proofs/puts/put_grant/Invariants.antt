use Rattle.std.proofs.Common.{false, reverse, take}
use Rattle.dn_base.specs.Outside.{IsCounted}
use Rattle.dn_kind.specs.Kinded.{kinds_of}
use Rattle.dn_tables.specs.Set.{IsOnDevice}
use Rattle.dn_book.specs.Sets.{ArePut}
use Rattle.dn_book.specs.Writes.{grant_slots, joined_slots}
use Rattle.dn_book.proofs.puts.put_grant.Given as goal

abbrev pub invariant-loop-behind : goal.invariant-loop-behind
invariant-loop-behind g l =
    let kinds = kinds_of (λ k. (goal.UnitKind-dyn g k).meaning k.1) l.on.kinds.now in
    record {
      put : ArePut kinds (joined_slots (take l.behind (reverse (grant_slots l.on.net.now l.grant)))) false (g.D.Tables.log l.fn.device) (g.D.Tables.log l.device) l.fn.tables l.tables;
      on_device : IsOnDevice l.tables (g.D.Tables.units l.device) (g.D.Tables.words l.device);
      counted : IsCounted (g.D.Tables.faults l.fn.device) (g.D.Tables.faults l.device) false;
    }
