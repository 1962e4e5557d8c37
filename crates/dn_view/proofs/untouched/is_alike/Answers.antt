use Rattle.std.proofs.Common.{◌≡◌, ◌∙◌, ap, sym, false, not, Bool, true, refl, slice_get}
use Rattle.std.specs.List.{list_any}
use Rattle.dn_flat.specs.Levels.{units_in}
use Rattle.dn_view.specs.Untouched.{leads_on}
use Rattle.dn_view.proofs.Alike.{alike}
use Rattle.dn_view.proofs.untouched.is_alike.Goals as goal

pub returns : goal.returns
returns g c known h a b =
    let net = c.args.trial.system.on.net.now in
    let flats = c.args.trial.system.flats.now in
    let units = c.as_slice-units.ensures ∙ sym (ap units_in c.of.ensures) in
    let none : list_any (leads_on net flats) (units_in (slice_get flats.nodes c.args.node)) ≡ false = ap (list_any (leads_on net flats)) (sym units) ∙ sym c.some_lead_on.ensures ∙ is_none c.some_lead_on.result known in
    alike net c.requires.trial.system.kinded.legal.legal flats c.requires.trial.system.flat c.args.trial.request.now c.args.trial.placement.now (c.if-not-has_both.ensures refl) h a b c.args.node c.requires.there none
  where
    is_none : (b : Bool) → not b ≡ true → b ≡ false
    is_none true n = cc
    is_none false n = refl
