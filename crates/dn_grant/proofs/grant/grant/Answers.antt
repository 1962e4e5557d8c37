use Rattle.std.proofs.Common.{rules, Err, ap, refl}
use Rattle.dn_base.specs.declared.device.DeviceOrMemory.{DeviceOrMemory}
use Rattle.dn_grant.specs.declared.refusal.GrantRefusal.TheVariants.{NoPlacement}
use Rattle.dn_grant.specs.Grant.{IsPlaced}
use Rattle.dn_grant.proofs.Allowed.{allowed_is, allowed_within, allowed_grant, still_faithful, unplaced}
use Rattle.dn_grant.proofs.Done.{failed_done, made_done, refused_done}
use Rattle.dn_grant.proofs.grant.grant.Given.{Over}
use Rattle.dn_grant.proofs.grant.grant.Goals.{In-Ok-Some}
use Rattle.dn_grant.proofs.grant.grant.Goals as goal

-- the request is placed at what was found
placed : (g : Over) (c : In-Ok-Some g) → IsPlaced c.args.system.on.net.now c.args.book.now.grants c.args.id c.args.request.now c.in-Ok-Some.placement
placed g c = record { allowed = c.refusal.ensures.none c.in_default.is; first = (rw c.in-Ok-Some.field-0-is at c.in-Ok-Some.ensures.first) }

pub first_in_book-requires-clause-request : goal.first_in_book-requires-clause-request
first_in_book-requires-clause-request g c =
    let is = allowed_is c.args.system.on.net.now c.args.book.now.grants c.args.id c.args.request.now (c.refusal.ensures.none c.in_default.is) in
    let within = allowed_within c.args.system.on.net.now c.args.book.now.grants c.args.id c.args.request.now is in
    record { agent = is.agent; rights = c.requires.rights; some = within.0; buffer = within.1 }

pub commit-requires-clause-placed : goal.commit-requires-clause-placed
commit-requires-clause-placed g c =
    allowed_grant c.args.system.on.net.now c.args.book.now.grants c.args.id c.args.request.now c.in-Ok-Some.placement
    (c.refusal.ensures.none c.in_default.is) c.requires.rights (placed g (goal.at.commit-requires-clause-placed g c).In-Ok-Some).first

pub returns-in-Err-Device : goal.returns-in-Err-Device
returns-in-Err-Device g c = failed_done (search rules) (search rules) (record {
  place = c.in-Ok-Some.placement;
  placed = placed g (goal.at.returns-in-Err-Device g c).In-Ok-Some;
  added = c.in-Err-Device.ensures.added (λ m. let device = c.in-Err-Device.field-0-is in cc);
  caught = λ f. c.in-Err-Device.ensures.caught (ap (λ (x : DeviceOrMemory). Err x) c.in-Err-Device.field-0-is);
})

pub returns-in-Ok-None : goal.returns-in-Ok-None
returns-in-Ok-None g c = refused_done NoPlacement c.requires.ready.change (
  unplaced c.args.system.on.net.now c.args.book.now.grants c.args.id c.args.request.now c.requires.ready.is_system.kinded.legal.legal c.requires.ready.change.kept.sound
      (c.refusal.ensures.none c.in_default.is) c.requires.rights (c.in-Ok-None.ensures.none c.in-Ok-None.field-0-is),
  refl,
)

pub returns-in-Ok : goal.returns-in-Ok
returns-in-Ok g c =
    let is = placed g (goal.at.returns-in-Ok g c).In-Ok-Some in
    made_done _ (record { place = c.in-Ok-Some.placement; placed = is; address = c.v-v.ensures; appended = c.in-Ok.ensures.granted }) (search rules)
    (still_faithful c.args.system.on.net.now c.args.book.now.grants _ c.args.id c.args.request.now c.in-Ok-Some.placement c.requires.ready.is_system.kinded.legal.legal c.requires.ready.change.kept.sound is.allowed c.requires.rights is.first c.in-Ok.ensures.granted)
    (record { place = c.in-Ok-Some.placement; placed = is; added = c.in-Ok.ensures.added (λ e. cc); caught = λ f. cc })
