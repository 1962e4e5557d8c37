use Rattle.std.proofs.Common.{rules, ◌≡◌, ◌∙◌, ap, sym, subst, refl, List, Err, true, false}
use Rattle.dn_base.proofs.Booleans.{true_from_ne_false}
use Rattle.dn_net.specs.declared.node.NodeDecl.{NodeDecl}
use Rattle.dn_kind.specs.Kind.{Meaning}
use Rattle.dn_kind.specs.Kinded.{kinds_of}
use Rattle.dn_book.specs.declared.book.RevokeFault.TheVariants.{Device, NoGrant}
use Rattle.dn_tables.specs.Set.{IsSet, words_of}
use Rattle.dn_book.specs.Between.{IsCaught}
use Rattle.dn_book.specs.Book.{has_id, without_id}
use Rattle.dn_script.specs.Changed.{revoke_refused_text, revoked_text}
use Rattle.dn_script.specs.Ids.{id_number, with_id}
use Rattle.dn_script.specs.State.{IsChanged, state_view}
use Rattle.dn_script.specs.Turn.{IsRevokeTurn, State}
use Rattle.dn_script.proofs.Changes.{not_revoked_turn, state_revoked}
use Rattle.dn_script.proofs.Kept.{machine_lawful}
use Rattle.dn_script.proofs.Stopped.{done_refused, done_replied, done_stopped, revoke_cut}
use Rattle.dn_script.proofs.change.revoke_change.Given.{Over}
use Rattle.dn_script.proofs.change.revoke_change.Goals.{After-renew}
use Rattle.dn_script.proofs.change.revoke_change.Goals as goal

pub renew-requires-clause-faithful : goal.renew-requires-clause-faithful
renew-requires-clause-faithful g c = c.in-Ok.ensures.faithful c.requires.ready.state.faithful

-- the turn of the grant that was taken out
made : (g : Over) (c : After-renew g) → IsChanged (IsRevokeTurn (kinds_of (λ k. (goal.UnitKind-dyn g k).meaning k.1) c.args.machine.on.kinds.now) c.args.machine.on.net.now (state_view c.args.state.now) c.args.id.now) (state_view c.renew.new.state) (revoked_text c.args.id.now) (g.D.Tables.log c.args.device.now) (g.D.Tables.log c.revoke.new.device)
made g c =
    state_revoked (kinds_of (λ k. (goal.UnitKind-dyn g k).meaning k.1) c.args.machine.on.kinds.now) c.args.machine.on.net.now c.args.state.now c.renew.new.state c.args.id.now c.in_ok-number.number c.revoke.new.self _ _ c.in_ok-number.ensures.number (λ e. let x = c.in-Ok.ensures.unknown.1 e in cc) c.in-Ok.ensures.added c.in-Ok.ensures.revoked c.renew.ensures.still.book (c.renew.ensures.still.ids ∙ c.in_ok-number.ensures.ids) c.in-Ok.ensures.changed.fenced

pub returns-in-Ok : goal.returns-in-Ok
returns-in-Ok g c = done_replied _ _ _ c.revoked_reply.result _ (revoked_text c.args.id.now) _ c.renew.new.state _ _ _ _ _ _ c.reply_or_halt.ensures c.revoked_reply.ensures (made g (goal.at.returns-in-Ok g c).After-renew) (search rules) c.in-Ok.ensures.changed.counted

pub returns-in-Err-NoGrant : goal.returns-in-Err-NoGrant
returns-in-Err-NoGrant g c =
    let failed : c.revoke.result ≡ Err NoGrant = c.in-Err-NoGrant.is ∙ ap Err c.in-Err-NoGrant.field-0-is in
    let same = c.revoke.ensures.unchanged failed in
    let state = c.args.state.now in
    let none : has_id (id_number state.ids c.args.id.now) state.book.grants ≡ false = subst (λ n. has_id n state.book.grants ≡ false) c.in_ok-number.ensures.number (c.revoke.ensures.unknown.0 failed) in
    done_refused _ _ _ c.refused_reply.result _ (revoke_refused_text c.args.id.now) state c.revoke.new.self c.number.new.self (with_id state.ids c.args.id.now) state.flats _ _ _ _ _ _ c.reply_or_halt-in-Err-NoGrant.ensures c.refused_reply.ensures c.requires.ready.machine c.requires.ready.state same.0 c.in_ok-number.ensures.ids c.requires.ready.state.flat c.revoke.ensures.changed.on_device (ap g.D.Tables.faults same.1)
    (not_revoked_turn (kinds_of (λ k. (goal.UnitKind-dyn g k).meaning k.1) c.args.machine.on.kinds.now) c.args.machine.on.net.now (state_view state) _ c.args.id.now _ _ _ none refl (ap g.D.Tables.log same.1))

pub returns-in-Err-Device : goal.returns-in-Err-Device
returns-in-Err-Device g c =
    let kinds : List Meaning = kinds_of (λ k. (goal.UnitKind-dyn g k).meaning k.1) c.args.machine.on.kinds.now in
    let net : List NodeDecl = c.args.machine.on.net.now in
    let s : State = state_view c.args.state.now in
    let book = c.args.state.now.book.grants in
    let number = c.in_ok-number.ensures.number in
    let failed : c.revoke.result ≡ Err Device = c.in-Err-Device.is ∙ ap Err c.in-Err-Device.field-0-is in
    let has = subst (λ n. has_id n book ≡ true) number (true_from_ne_false (has_id c.in_ok-number.number book) (λ e. let x = c.revoke.ensures.unknown.1 e in let y = failed in cc)) in
    let caught = subst (λ n. IsCaught net kinds (words_of c.revoke.new.self.set) book (without_id n book)) number (c.revoke.ensures.caught failed) in
    done_stopped _ _ _ _ _ _ _ _ _ _ _
    (revoke_cut kinds net s s c.revoke.new.self.set g.D.Tables.units g.D.Tables.words g.D.Tables.log _ _ (machine_lawful _ c.args.machine c.requires.ready.machine) c.revoke.ensures.changed.fits (subst IsSet c.tables.ensures c.facts.ensures) c.revoke.ensures.changed.on_device c.args.id.now has (λ k m e. c.in-Err-Device.ensures.added k m (e ∙ sym number)) caught)
    (search rules)
