use Rattle.std.proofs.Common.{rules, ◌∙◌, sym, subst, refl, inr}
use Rattle.dn_kind.specs.Kinded.{kinds_of}
use Rattle.dn_tables.specs.Set.{IsSet}
use Rattle.dn_vector.specs.Route.{IsRouteRefused}
use Rattle.dn_script.specs.Changed.{route_refused_text, routed_text}
use Rattle.dn_script.specs.State.{IsChanged, state_view}
use Rattle.dn_script.specs.Turn.{IsRouteTurn}
use Rattle.dn_script.proofs.Changes.{state_routed}
use Rattle.dn_script.proofs.Kept.{machine_lawful}
use Rattle.dn_script.proofs.Stopped.{done_replied, route_cut, halted_done, refusal_done}
use Rattle.dn_script.proofs.change.route_change.Given.{Over}
use Rattle.dn_script.proofs.change.route_change.Goals.{After-renew}
use Rattle.dn_script.proofs.change.route_change.Goals as goal

pub renew-requires-clause-faithful : goal.renew-requires-clause-faithful
renew-requires-clause-faithful g c = c.in-Ok.ensures.faithful c.requires.ready.state.faithful

-- the turn of the line that was routed
made : (g : Over) (c : After-renew g) → IsChanged (IsRouteTurn (kinds_of (λ k. (goal.UnitKind-dyn g k).meaning k.1) c.args.machine.on.kinds.now) c.args.machine.on.net.now (state_view c.args.state.now) c.args.id.now c.args.agent c.args.line c.args.node) (state_view c.renew.new.state) (routed_text c.args.id.now c.in-Ok.vector) (g.D.Tables.log c.args.device.now) (g.D.Tables.log c.route.new.device)
made g c =
    state_routed (kinds_of (λ k. (goal.UnitKind-dyn g k).meaning k.1) c.args.machine.on.kinds.now) c.args.machine.on.net.now c.args.state.now c.renew.new.state c.args.id.now c.args.agent c.args.line c.args.node c.in_ok-number.number c.in-Ok.vector c.route.new.book _ _ _ c.in_ok-number.ensures.number c.in-Ok.ensures.turn c.in-Ok.ensures.granted c.renew.ensures.still.book (c.renew.ensures.still.ids ∙ c.in_ok-number.ensures.ids) c.in-Ok.ensures.changed.fenced

pub returns-in-Ok : goal.returns-in-Ok
returns-in-Ok g c = done_replied _ _ _ c.routed_reply.result _ (routed_text c.args.id.now c.in-Ok.vector) _ c.renew.new.state _ _ _ _ _ _ c.reply_or_halt.ensures c.routed_reply.ensures (made g (goal.at.returns-in-Ok g c).After-renew) (search rules) c.in-Ok.ensures.changed.counted

pub returns-in_err-why-in-Err : goal.returns-in_err-why-in-Err
returns-in_err-why-in-Err g c =
    halted_done c.in-Err.fault c.in_err-why-in-Err.field-0.0 c.from_residual-in_err-why-in-Err.result c.in-Err.ensures (sym c.refusal_or_halt.ensures ∙ c.in_err-why-in-Err.was) (search rules)
    (route_cut (kinds_of (λ k. (goal.UnitKind-dyn g k).meaning k.1) c.args.machine.on.kinds.now) c.args.machine.on.net.now (state_view c.args.state.now) (state_view c.args.state.now) c.route.new.book.set g.D.Tables.units g.D.Tables.words g.D.Tables.log _ _ (machine_lawful _ c.args.machine c.requires.ready.machine) c.route.ensures.changed.fits (subst IsSet c.tables.ensures c.facts.ensures) c.route.ensures.changed.on_device c.args.id.now c.args.agent c.args.line c.args.node c.in_ok-number.number c.in_ok-number.ensures.number)

pub returns-in_ok-why-in-Err : goal.returns-in_ok-why-in-Err
returns-in_ok-why-in-Err g c =
    refusal_done c.in-Err.fault c.in_ok-why-in-Err.why c.number.new.self _ c.keep_flats.new.flats c.route_refused.result _ (route_refused_text c.args.id.now c.in_ok-why-in-Err.why) c.reply_or_halt-in-Err.ensures c.route_refused.ensures c.requires.ready.machine c.requires.ready.state c.in-Err.ensures (sym c.refusal_or_halt.ensures ∙ c.in_ok-why-in-Err.was) c.in_ok-number.ensures.ids c.in_ok-keep_flats.ensures.flat
    (λ o. inr (record {
      why = c.in_ok-why-in-Err.why;
      refused = subst (λ i. IsRouteRefused c.args.machine.on.net.now c.args.state.now.book.grants i c.args.agent c.args.line c.args.node c.in_ok-why-in-Err.why) c.in_ok-number.ensures.number o.0;
      is_turn = refl;
    }))
