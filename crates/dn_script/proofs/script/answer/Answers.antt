use Rattle.std.proofs.Common.{rules, ◌≡◌, sym, subst, List, ℕ, Bool, Err, false}
use Rattle.dn_base.specs.Outside.{IsCounted}
use Rattle.dn_base.proofs.Counts.{counted_none}
use Rattle.dn_kind.specs.Kind.{Meaning}
use Rattle.dn_kind.specs.Kinded.{kinds_of}
use Rattle.dn_tables.specs.Set.{IsOnDevice}
use Rattle.dn_book.specs.State.{BookState}
use Rattle.dn_script.specs.State.{IsChanged, state_view}
use Rattle.dn_script.specs.Turn.{IsTurn, State, Turn, is_change}
use Rattle.dn_script.proofs.Changes.{change_halted, on_ok, replied, state_kept, still_through}
use Rattle.dn_script.proofs.Sizes.{ready_tables}
use Rattle.dn_script.proofs.script.answer.Goals as goal

pub returns-in_err-text-in-Grant-clause-through : goal.returns-in_err-text-in-Grant-clause-through
returns-in_err-text-in-Grant-clause-through g c =
    let kinds : List Meaning = kinds_of (λ k. (goal.UnitKind-dyn g k).meaning k.1) c.args.machine.on.kinds.now in
    let net = c.args.machine.on.net.now in
    let ended : c.from_residual.result ≡ Err c.in_err-text-in-Grant.field-0.0 = search rules in
    change_halted kinds net c.args.state.now.book.grants (IsTurn kinds net (state_view c.args.state.now) c.args.command.now) c.change.result c.in_err-text-in-Grant.field-0.0 c.from_residual.result (state_view c.change.new.state) _ _ _ _ _ _ _ c.in_err-text-in-Grant.was ended c.change.ensures.changed

pub returns-in_ok-text-in-Grant-clause-through : goal.returns-in_ok-text-in-Grant-clause-through
returns-in_ok-text-in-Grant-clause-through g c =
    let kinds : List Meaning = kinds_of (λ k. (goal.UnitKind-dyn g k).meaning k.1) c.args.machine.on.kinds.now in
    let P : Turn → Type 0 = IsTurn kinds c.args.machine.on.net.now (state_view c.args.state.now) c.args.command.now in
    let changed : IsChanged P (state_view c.change.new.state) c.as_slice.result.now (g.D.Tables.log c.args.device.now) (g.D.Tables.log c.change.new.device) = subst (λ (t : List ℕ). IsChanged P (state_view c.change.new.state) t (g.D.Tables.log c.args.device.now) (g.D.Tables.log c.change.new.device)) (sym c.as_slice.ensures) c.in_ok-text-in-Grant.ensures.changed in
    replied kinds c.args.machine.on.net.now c.args.state.now.book.grants P c.write_output.result (state_view c.change.new.state) c.as_slice.result.now (g.K.Sink.written c.args.sink.now) (g.K.Sink.written c.write_output.new.sink) _ _ _ _ _ changed c.write_output.ensures.written c.write_output.ensures.halted.no_device (ready_tables _ c.args.machine c.change.new.state _ _ c.in_ok-text-in-Grant.ensures.ready)

pub returns-in_default : goal.returns-in_default
returns-in_default g c =
    let kinds : List Meaning = kinds_of (λ k. (goal.UnitKind-dyn g k).meaning k.1) c.args.machine.on.kinds.now in
    let net = c.args.machine.on.net.now in
    let s : State = state_view c.args.state.now in
    let next : State = state_view c.answer_still.new.state in
    let still : is_change c.args.command.now ≡ false = search rules in
    record {
      through = still_through kinds net s next c.args.command.now c.answer_still.result (g.K.Sink.written c.args.sink.now) (g.K.Sink.written c.answer_still.new.sink) _ _ _ c.args.device.now still (state_kept c.args.state.now c.answer_still.new.state c.answer_still.ensures.still.book c.answer_still.ensures.still.ids) c.answer_still.ensures.written c.answer_still.ensures.halted.no_device (ready_tables _ c.args.machine c.args.state.now _ _ c.requires.ready);
      ready = on_ok c.answer_still.result _ (record {
        machine = c.requires.ready.machine;
        state = c.answer_still.ensures.still.state;
        on_device = subst (λ (b : BookState). IsOnDevice b.set (g.D.Tables.units c.args.device.now) (g.D.Tables.words c.args.device.now)) (sym c.answer_still.ensures.still.book) c.requires.ready.on_device;
      });
      halted = record {
        sink_counted = c.answer_still.ensures.halted.counted;
        device_counted = subst (λ (b : Bool). IsCounted (g.D.Tables.faults c.args.device.now) (g.D.Tables.faults c.args.device.now) b) (sym c.answer_still.ensures.halted.no_device) (counted_none (g.D.Tables.faults c.args.device.now));
      };
    }
