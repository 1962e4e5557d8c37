use Rattle.std.proofs.Common.{◌≡◌, ℕ, ap, ◌∙◌, sym, subst, rules, List, Option, Some, None}
use Rattle.dn_interval.specs.declared.row.Row.{Row}
use Rattle.dn_flat.specs.Levels.{levels_give}
use Rattle.dn_place.specs.Marks.{IsEntry}
use Rattle.dn_place.proofs.Marked.{entry_is, no_entry}
use Rattle.dn_view.proofs.Ways.{one_stop}
use Rattle.dn_place.proofs.entry.entry_of.Goals as goal

pub returns-in-Some : goal.returns-in-Some
returns-in-Some g c =
    let is : c.args.at ≡ Some c.in-Some.at = search rules in
    let stops = c.as_slice.ensures in
    subst (λ (o : Option ℕ). IsEntry c.args.system.on.net.now c.args.agent o c.stop_of.result) (sym is)
    (entry_is c.args.system.on.net.now c.args.agent c.of.result.now c.stop_of.result c.in-Some.at (one_stop c.args.system.on.net.now c.requires.system.kinded.legal.legal) (c.requires.system.flat.each c.args.agent c.of.result.now c.of.ensures)
    (λ z e. ap (λ (ls : List (List Row)). levels_give ls c.in-Some.at z) (sym stops) ∙ (rw e at c.stop_of.ensures.given)) (λ e z q. (rw e at c.stop_of.ensures.none) z (ap (λ (ls : List (List Row)). levels_give ls c.in-Some.at z) stops ∙ q)))

pub returns-in-None : goal.returns-in-None
returns-in-None g c =
    let is : c.args.at ≡ None = search rules in
    subst (λ (o : Option ℕ). IsEntry c.args.system.on.net.now c.args.agent o None) (sym is) (no_entry c.args.system.on.net.now c.args.agent)
