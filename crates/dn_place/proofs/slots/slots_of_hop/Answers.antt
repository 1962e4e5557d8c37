use Rattle.std.proofs.Common.{◌+◌, ◌-◌, ◌/◌, ap, arith, refl}
use Rattle.dn_place.specs.Searches.{sought}
use Rattle.dn_place.proofs.Pages.{Fitting, fitting, slot_there}
use Rattle.dn_place.proofs.slots.slots_of_hop.Given.{Over}
use Rattle.dn_place.proofs.slots.slots_of_hop.Goals.{After-power-page}
use Rattle.dn_place.proofs.slots.slots_of_hop.Goals as goal

-- the slots fit the unit
fits : (g : Over) (c : After-power-page g) → Fitting c.args.hop.x c.args.search.request.size c.args.translator.now.slots c.power-page.result
fits g c =
    let f = c.requires.search.ready.bounds _ _ c.requires.within.unit in
    fitting c.args.hop.x c.args.search.request.size c.args.search.request.size c.args.translator.now.slots c.args.translator.now.page c.power-page.result c.power-page.ensures refl f.page f.few c.requires.search.ready.some c.requires.within.ends

pub power-page-requires : goal.power-page-requires
power-page-requires g c = let f = c.requires.search.ready.bounds _ _ c.requires.within.unit in omega (arith, f.page)

pub overflow_cast-first : goal.overflow_cast-first
overflow_cast-first g c = omega (arith, (fits g (goal.at.overflow_cast-first g c).After-power-page).first_few)

pub overflow_add-last : goal.overflow_add-last
overflow_add-last g c = omega (arith, (fits g (goal.at.overflow_add-last g c).After-power-page).sum)

pub overflow_cast-last : goal.overflow_cast-last
overflow_cast-last g c = omega (arith, (fits g (goal.at.overflow_cast-last g c).After-power-page).few)

pub returns : goal.returns
returns g c =
    let b = fits g (goal.at.returns g c).After-power-page in
    record {
      page = c.power-page.ensures;
      first = ap (λ n. c.args.hop.x / n) c.power-page.ensures;
      last = ap (λ n. (c.args.hop.x + c.args.search.request.size - 1) / n) c.power-page.ensures;
      ordered = b.ordered;
      below = b.last;
      there = slot_there (sought (λ k. (goal.UnitKind-dyn g k).meaning k.1) c.args.search).net c.args.hop.unit _ c.args.translator.now c.requires.within.unit b.last;
      few = b.few;
    }
