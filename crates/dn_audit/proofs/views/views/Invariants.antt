-- The views of the nodes so far, and those that are still to come.
use Rattle.std.proofs.Common.{◌≡◌, ◌++◌, drop, length, map, IsTrue}
use Rattle.dn_kind.specs.Kinded.{kinds_of}
use Rattle.dn_tables.specs.Set.{record_kept}
use Rattle.dn_audit.specs.Claims.{are_within}
use Rattle.dn_audit.specs.Views.{AreSeen, viewer_of, viewers}
use Rattle.dn_audit.proofs.views.views.Given as goal

abbrev pub invariant-loop-node : goal.invariant-loop-node
invariant-loop-node g l = record {
  viewers : map viewer_of l.views ++ viewers l.node (drop l.node l.system.on.net.now) ≡ viewers 0 l.system.on.net.now;
  seen : AreSeen l.system.on.net.now (record_kept (kinds_of (λ k. (goal.UnitKind-dyn g k).meaning k.1) l.system.on.kinds.now) l.tables) l.views;
  within : IsTrue (are_within (length l.system.on.net.now) l.views);
}
