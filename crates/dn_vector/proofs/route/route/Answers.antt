use Rattle.std.proofs.Common.{rules, Err, ap, refl}
use Rattle.dn_base.specs.declared.device.DeviceOrMemory.{DeviceOrMemory}
use Rattle.dn_grant.proofs.Done.{failed_done, made_done, refused_done}
use Rattle.dn_vector.specs.declared.refusal.RouteRefusal.TheVariants.{NoPlacement}
use Rattle.dn_vector.specs.Route.{IsPlacedRoute}
use Rattle.dn_vector.proofs.Allowed.{allowed_is, placed_grant, placed_logged, placed_made, still_faithful, unplaced}
use Rattle.dn_vector.proofs.route.route.Given.{Over}
use Rattle.dn_vector.proofs.route.route.Goals.{In-Ok-Some}
use Rattle.dn_vector.proofs.route.route.Goals as goal

-- the least free vector that has a placement, and where
placed : (g : Over) (c : In-Ok-Some g) → IsPlacedRoute c.args.system.on.net.now c.args.book.now.grants c.args.id c.args.agent c.args.line c.args.node c.in-Ok-Some.found.vector c.in-Ok-Some.found.placement
placed g c = record {
  allowed = c.refusal.ensures.none c.in_default.is;
  placed = (rw c.in-Ok-Some.field-0-is at c.in-Ok-Some.ensures);
}

pub least_vector-requires : goal.least_vector-requires
least_vector-requires g c =
    let is = allowed_is c.args.system.on.net.now c.args.book.now.grants c.args.id c.args.agent c.args.node (c.refusal.ensures.none c.in_default.is) in
    record { asked = record { system = c.requires.is_system; kept = c.requires.change.kept; agent = is.agent_is; target = is.target } }

pub commit-requires-clause-placed : goal.commit-requires-clause-placed
commit-requires-clause-placed g c =
    placed_grant c.args.system.on.net.now c.args.book.now.grants c.args.id c.args.agent c.args.line c.args.node c.in-Ok-Some.found.vector c.in-Ok-Some.found.placement
    c.grant-grant.result c.grant-grant.ensures (placed g (goal.at.commit-requires-clause-placed g c).In-Ok-Some)

pub returns-in-Ok-None : goal.returns-in-Ok-None
returns-in-Ok-None g c = refused_done NoPlacement c.requires.change (
  unplaced c.args.system.on.net.now c.args.book.now.grants c.args.id c.args.agent c.args.line c.args.node c.requires.is_system.kinded.legal.legal c.requires.change.kept.sound
      (c.refusal.ensures.none c.in_default.is) (rw c.in-Ok-None.field-0-is at c.in-Ok-None.ensures),
  refl,
)

pub returns-in-Err-Device : goal.returns-in-Err-Device
returns-in-Err-Device g c = failed_done (search rules) (search rules) (
    placed_logged c.args.system.on.net.now _ c.args.book.now.grants _ c.args.id c.args.agent c.args.line c.args.node c.in-Ok-Some.found.vector c.in-Ok-Some.found.placement
    c.grant-grant.result _ _ _ _ c.grant-grant.ensures (placed g (goal.at.returns-in-Err-Device g c).In-Ok-Some)
    (c.in-Err-Device.ensures.added (λ m. let device = c.in-Err-Device.field-0-is in cc))
    (λ f. c.in-Err-Device.ensures.caught (ap (λ (x : DeviceOrMemory). Err x) c.in-Err-Device.field-0-is))
    )

pub returns-in-Ok : goal.returns-in-Ok
returns-in-Ok g c =
    let is = placed g (goal.at.returns-in-Ok g c).In-Ok-Some in
    made_done _
    (placed_made c.args.system.on.net.now c.args.book.now.grants _ c.args.id c.args.agent c.args.line c.args.node c.in-Ok-Some.found.vector c.in-Ok-Some.found.placement c.grant-grant.result c.grant-grant.ensures is c.in-Ok.ensures.granted)
    (search rules)
    (still_faithful c.args.system.on.net.now c.args.book.now.grants _ c.args.id c.args.agent c.args.line c.args.node c.in-Ok-Some.found.vector c.in-Ok-Some.found.placement c.grant-grant.result c.grant-grant.ensures c.requires.is_system.kinded.legal.legal c.requires.change.kept.sound is c.in-Ok.ensures.granted)
    (placed_logged c.args.system.on.net.now _ c.args.book.now.grants _ c.args.id c.args.agent c.args.line c.args.node c.in-Ok-Some.found.vector c.in-Ok-Some.found.placement c.grant-grant.result _ _ _ _ c.grant-grant.ensures is (c.in-Ok.ensures.added (λ e. cc)) (λ f. cc))
