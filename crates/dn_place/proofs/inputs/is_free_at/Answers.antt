use Rattle.std.proofs.Common.{◌/◌, ◌<◌, ◌∙◌, ap, arith}
use Rattle.dn_place.specs.Slots.{is_free_slot}
use Rattle.dn_place.specs.Searches.{sought}
use Rattle.dn_place.proofs.Pages.{name_slot, slot_there}
use Rattle.dn_place.proofs.Usable.{free_is}
use Rattle.dn_place.proofs.inputs.is_free_at.Given.{Over}
use Rattle.dn_place.proofs.inputs.is_free_at.Goals.{After-power-page}
use Rattle.dn_place.proofs.inputs.is_free_at.Goals as goal

-- the slot of the name is one of the unit
below : (g : Over) (c : After-power-page g) → c.args.name / c.power-page.result < c.args.translator.now.slots
below g c = name_slot c.args.name c.args.translator.now.slots c.args.translator.now.page c.power-page.result c.power-page.ensures c.requires.within

pub power-page-requires : goal.power-page-requires
power-page-requires g c = let f = c.requires.search.ready.bounds _ _ c.requires.unit in omega (arith, f.page)

pub overflow_cast-at : goal.overflow_cast-at
overflow_cast-at g c =
    let f = c.requires.search.ready.bounds _ _ c.requires.unit in
    omega (arith, f.few, below g (goal.at.overflow_cast-at g c).After-power-page)

pub slot_in-requires-clause-there : goal.slot_in-requires-clause-there
slot_in-requires-clause-there g c = slot_there (sought (λ k. (goal.UnitKind-dyn g k).meaning k.1) c.args.search).net c.args.unit _ c.args.translator.now c.requires.unit (below g (goal.at.slot_in-requires-clause-there g c).After-power-page)

pub returns : goal.returns
returns g c =
    let slots = (sought (λ k. (goal.UnitKind-dyn g k).meaning k.1) c.args.search).slots in
    c.is_free_slot.ensures ∙ ap is_free_slot c.slot_in.ensures ∙ free_is slots c.args.unit (c.args.name / c.power-page.result) ∙ ap (λ n. slots.is_free c.args.unit (c.args.name / n)) c.power-page.ensures
