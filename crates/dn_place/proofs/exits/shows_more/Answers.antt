use Rattle.std.proofs.Common.{◌≡◌, Bool, true, false, not, List, [], ◌∷◌, length, arith, subst, refl}
use Rattle.dn_tables.specs.declared.placement.Hop.{Hop}
use Rattle.dn_view.proofs.Pages.{power_below}
use Rattle.dn_place.specs.Exits.{IsAloneBefore}
use Rattle.dn_place.specs.Hops.{hops_view}
use Rattle.dn_place.proofs.exits.shows_more.Goals as goal

pub is_alone-requires-clause-fits : goal.is_alone-requires-clause-fits
is_alone-requires-clause-fits g c = omega (arith, c.requires.reached, power_below c.args.search.translator.now.reach c.requires.search.bounds.reach)

pub returns : goal.returns
returns g c = λ more port p alone.
    let search = c.args.search in
    let none : hops_view search.nearer ≡ [] = no_hops (hops_view search.nearer) (omega (arith, c.count.ensures, c.if-count-ne0.false)) in
    (subst (λ (hs : List Hop). IsAloneBefore search.system.on.net.now search.translator.now search.request hs port c.args.y) none alone) c.args.node search.block p c.requires.search.whole (c.in_ok-alone.ensures (off c.in_ok-alone.alone more))
  where
    no_hops : (hs : List Hop) → length hs ≡ 0 → hs ≡ []
    no_hops [] e = refl
    no_hops (h ∷ hs) e = cc

    off : (b : Bool) → not b ≡ true → b ≡ false
    off true e = cc
    off false e = refl
