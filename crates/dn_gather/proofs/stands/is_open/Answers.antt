use Rattle.std.proofs.Common.{ap, arith, not, subst, sym, ℕ, ◌+◌, ◌-◌, ◌/◌, ◌<◌, ◌∙◌}
use Rattle.dn_flat.specs.Crowds.{IsCrowded}
use Rattle.dn_flat.proofs.Crowded.{found_along}
use Rattle.dn_place.proofs.Pages.{input_bound, last_within}
use Rattle.dn_gather.specs.Stands.{AreFreeIn}
use Rattle.dn_gather.proofs.Entering.{crowd_told}
use Rattle.dn_gather.proofs.stands.is_open.Goals as goal

pub are_free-requires-clause-within : goal.are_free-requires-clause-within
are_free-requires-clause-within g c =
    let tr = c.args.ground.translator.now in
    subst (λ (w : ℕ). (c.args.x + c.args.size - 1) / w < tr.slots) (sym c.power-page.ensures) (last_within c.args.x c.args.size tr.slots tr.page c.requires.within c.requires.some)

pub returns-then-not-are_free-clause-no : goal.returns-then-not-are_free-clause-no
returns-then-not-are_free-clause-no g c = λ is free alone.
    c.are_free.ensures.no c.if-not-are_free.true
    (subst (λ (w : ℕ). AreFreeIn c.args.ground.wanted.tables.now c.args.ground.unit (c.args.x / w) ((c.args.x + c.args.size - 1) / w)) (sym c.power-page.ensures) free)

pub returns-clause-yes : goal.returns-clause-yes
returns-clause-yes g c = λ yes.
    subst (λ (w : ℕ). AreFreeIn c.args.ground.wanted.tables.now c.args.ground.unit (c.args.x / w) ((c.args.x + c.args.size - 1) / w)) c.power-page.ensures (c.are_free.ensures.yes c.if-not-are_free.false)

pub returns-clause-no : goal.returns-clause-no
returns-clause-no g c = λ is free alone.
    let net = c.args.ground.wanted.system.on.net.now in
    crowd_told net c.args.ground.unit c.args.x c.args.size c.crowd_among.result c.requires.some (found_along (IsCrowded net) c.args.ground.wanted.system.flats.now.crowds c.args.ground.unit c.crowd_among.result c.requires.ground.wanted.system.flat.crowded c.crowd_among.ensures.listed) c.crowd_among.ensures.from c.crowd_among.ensures.to (c.is_none.ensures ∙ ap not is) alone

pub overflow_add-x : goal.overflow_add-x
overflow_add-x g c =
    let tr = c.args.ground.translator.now in
    omega (arith, c.requires.within, input_bound tr.slots tr.page c.requires.ground.bounds.page c.requires.ground.bounds.few)
