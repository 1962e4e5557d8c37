use Rattle.std.proofs.Common.{◌≡◌, ◌≤◌, IsTrue, false, drop, length}
use Rattle.std.specs.List.{list_all}
use Rattle.dn_base.specs.Outside.{IsCounted}
use Rattle.dn_kind.specs.Kinded.{kinds_of}
use Rattle.dn_module.specs.Commands.{names_within}
use Rattle.dn_script.specs.State.{IsReadyOn, state_view}
use Rattle.dn_script.proofs.Places.{place}
use Rattle.dn_tool.proofs.Demos.{IsTalliedOn}
use Rattle.dn_tool.proofs.demo.play_all.Given as goal

abbrev pub invariant-commands : goal.invariant-commands
invariant-commands g l = record {
  behind : l.rest ≡ drop (place l.commands l.rest) l.commands;
  few_granted : l.granted ≤ place l.commands l.rest;
  few_revoked : l.revoked ≤ place l.commands l.rest;
  known : IsTrue (list_all (names_within (length l.fn.machine.on.net.now)) l.rest);
  ready : IsReadyOn (λ k. (goal.UnitKind-dyn g k).meaning k.1) l.fn.machine l.state (g.D.Tables.units l.device) (g.D.Tables.words l.device);
  tallied : IsTalliedOn (kinds_of (λ k. (goal.UnitKind-dyn g k).meaning k.1) l.fn.machine.on.kinds.now) l.fn.machine.on.net.now l.commands (place l.commands l.rest) (state_view l.state) (g.D.Tables.log l.fn.device) (g.D.Tables.log l.device) l.granted l.revoked;
  device_counted : IsCounted (g.D.Tables.faults l.fn.device) (g.D.Tables.faults l.device) false;
}

abbrev pub decreases-commands : goal.decreases-commands
decreases-commands g l = length l.rest
