use Rattle.std.proofs.Common.{rules, ◌≡◌, ◌∙◌, sym, subst, refl, inr, false, length, List}
use Rattle.dn_kind.specs.Kinded.{kinds_of}
use Rattle.dn_tables.specs.Set.{IsSet, words_of}
use Rattle.dn_gather.specs.Gather.{IsGatherLogged, IsGatherMade, IsGatherRefused}
use Rattle.dn_gather.specs.declared.piece.Piece.{Piece}
use Rattle.dn_script.specs.Asked.{numbered}
use Rattle.dn_script.specs.Changed.{gather_refused_text, gathered_text}
use Rattle.dn_script.specs.State.{IsChanged, state_view}
use Rattle.dn_script.specs.Turn.{IsGatherTurn}
use Rattle.dn_script.proofs.Changes.{numbered_few, state_gathered}
use Rattle.dn_script.proofs.Kept.{machine_lawful}
use Rattle.dn_script.proofs.Stopped.{done_replied, gather_cut, halted_done, refusal_done}
use Rattle.dn_script.proofs.pieces.gather_change.Given.{Over}
use Rattle.dn_script.proofs.pieces.gather_change.Goals.{After-renew}
use Rattle.dn_script.proofs.pieces.gather_change.Goals as goal

pub renew-requires-clause-faithful : goal.renew-requires-clause-faithful
renew-requires-clause-faithful g c = c.in-Ok.ensures.faithful c.requires.ready.state.faithful

-- the pieces that are asked for
asked : (g : Over) (c : After-renew g) → c.deref.result.now ≡ numbered c.args.state.now.ids c.args.pieces.now
asked g c = c.deref.ensures.value ∙ c.in_ok-asked.ensures.pieces

pub gather-requires-clause-some : goal.gather-requires-clause-some
gather-requires-clause-some g c = (numbered_few c.args.state.now.ids c.args.pieces.now _ (c.deref.ensures.value ∙ c.in_ok-asked.ensures.pieces) c.requires.some c.requires.few).0

pub gather-requires-clause-few : goal.gather-requires-clause-few
gather-requires-clause-few g c = (numbered_few c.args.state.now.ids c.args.pieces.now _ (c.deref.ensures.value ∙ c.in_ok-asked.ensures.pieces) c.requires.some c.requires.few).1

-- the turn of the gather that was made
made : (g : Over) (c : After-renew g) → IsChanged (IsGatherTurn (kinds_of (λ k. (goal.UnitKind-dyn g k).meaning k.1) c.args.machine.on.kinds.now) c.args.machine.on.net.now (state_view c.args.state.now) c.args.agent c.args.rights c.args.pieces.now) (state_view c.renew.new.state) (gathered_text c.in-Ok.v (length c.args.pieces.now)) (g.D.Tables.log c.args.device.now) (g.D.Tables.log c.gather.new.device)
made g c =
    state_gathered (kinds_of (λ k. (goal.UnitKind-dyn g k).meaning k.1) c.args.machine.on.kinds.now) c.args.machine.on.net.now c.args.state.now c.renew.new.state c.args.agent c.args.rights c.args.pieces.now c.in-Ok.v c.gather.new.book _ _ _ c.requires.some
    (subst (λ (ps : List Piece). IsGatherMade c.args.machine.on.net.now c.args.state.now.book.grants c.args.agent c.args.rights ps c.in-Ok.v c.gather.new.book.grants) (asked g c) c.in-Ok.ensures.turn)
    (subst (λ (ps : List Piece). IsGatherLogged c.args.machine.on.net.now (kinds_of (λ k. (goal.UnitKind-dyn g k).meaning k.1) c.args.machine.on.kinds.now) c.args.state.now.book.grants c.args.state.now.book.cleared c.args.agent c.args.rights ps false (g.D.Tables.log c.args.device.now) (g.D.Tables.log c.gather.new.device) (words_of c.gather.new.book.set) c.gather.new.book.grants) (asked g c) c.in-Ok.ensures.granted)
    c.renew.ensures.still.book (c.renew.ensures.still.ids ∙ c.in_ok-asked.ensures.ids) c.in-Ok.ensures.changed.fenced

pub returns-in-Ok : goal.returns-in-Ok
returns-in-Ok g c = done_replied _ _ _ c.gathered_reply.result _ (gathered_text c.in-Ok.v (length c.args.pieces.now)) _ c.renew.new.state _ _ _ _ _ _ c.reply_or_halt.ensures c.gathered_reply.ensures (made g (goal.at.returns-in-Ok g c).After-renew) (search rules) c.in-Ok.ensures.changed.counted

pub returns-in_err-why-in-Err : goal.returns-in_err-why-in-Err
returns-in_err-why-in-Err g c =
    halted_done c.in-Err.fault c.in_err-why-in-Err.field-0.0 c.from_residual-in_err-why-in-Err.result c.in-Err.ensures (sym c.refusal_or_halt.ensures ∙ c.in_err-why-in-Err.was) (search rules)
    (gather_cut (kinds_of (λ k. (goal.UnitKind-dyn g k).meaning k.1) c.args.machine.on.kinds.now) c.args.machine.on.net.now (state_view c.args.state.now) (state_view c.args.state.now) c.gather.new.book.set g.D.Tables.units g.D.Tables.words g.D.Tables.log _ _ (machine_lawful _ c.args.machine c.requires.ready.machine) c.gather.ensures.changed.fits (subst IsSet c.tables.ensures c.facts.ensures) c.gather.ensures.changed.on_device c.args.agent c.args.rights c.args.pieces.now c.deref.result.now c.gather.new.book.grants (c.deref.ensures.value ∙ c.in_ok-asked.ensures.pieces))

pub returns : goal.returns
returns g c =
    refusal_done c.in-Err.fault c.in_ok-why-in-Err.why c.number_pieces.new.ids _ c.keep_flats.new.flats c.gather_refused.result _ (gather_refused_text c.in_ok-why-in-Err.why) c.reply_or_halt-in-Err.ensures c.gather_refused.ensures c.requires.ready.machine c.requires.ready.state c.in-Err.ensures (sym c.refusal_or_halt.ensures ∙ c.in_ok-why-in-Err.was) c.in_ok-asked.ensures.ids c.in_ok-keep_flats.ensures.flat
    (λ o. inr (record {
      why = c.in_ok-why-in-Err.why;
      refused = subst (λ (ps : List Piece). IsGatherRefused c.args.machine.on.net.now c.args.state.now.book.grants c.args.agent c.args.rights ps c.in_ok-why-in-Err.why) (c.deref.ensures.value ∙ c.in_ok-asked.ensures.pieces) o.0;
      is_turn = refl;
    }))
