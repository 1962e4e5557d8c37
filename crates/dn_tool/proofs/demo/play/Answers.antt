use Rattle.std.proofs.Common.{◌≡◌, sym, rules, List, Err}
use Rattle.dn_kind.specs.Kind.{Meaning}
use Rattle.dn_kind.specs.Kinded.{kinds_of}
use Rattle.dn_script.specs.State.{state_view}
use Rattle.dn_script.specs.Turn.{IsTurn}
use Rattle.dn_tool.proofs.Demos.{quiet_changed, quiet_still}
use Rattle.dn_script.proofs.Changes.{change_halted}
use Rattle.dn_tool.proofs.demo.play.Goals as goal

pub returns-then-not-is_change-clause-through : goal.returns-then-not-is_change-clause-through
returns-then-not-is_change-clause-through g c =
    let kinds : List Meaning = kinds_of (λ k. (goal.UnitKind-dyn g k).meaning k.1) c.args.machine.on.kinds.now in
    quiet_still kinds c.args.machine.on.net.now (state_view c.args.state.now) c.args.command.now (g.D.Tables.log c.args.device.now) (sym c.if-not-is_change.ensures)

pub returns-in_err-change-clause-through : goal.returns-in_err-change-clause-through
returns-in_err-change-clause-through g c =
    let kinds : List Meaning = kinds_of (λ k. (goal.UnitKind-dyn g k).meaning k.1) c.args.machine.on.kinds.now in
    let net = c.args.machine.on.net.now in
    let ended : c.from_residual.result ≡ Err c.in_err-change.field-0.0 = search rules in
    change_halted kinds net c.args.state.now.book.grants (IsTurn kinds net (state_view c.args.state.now) c.args.command.now) c.change.result c.in_err-change.field-0.0 c.from_residual.result (state_view c.change.new.state) _ _ _ _ _ _ _ c.in_err-change.was ended c.change.ensures.changed

pub returns-clause-through : goal.returns-clause-through
returns-clause-through g c = quiet_changed _ _ _ _ _ c.in_ok-change.ensures.changed
