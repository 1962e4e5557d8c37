use Rattle.std.proofs.Common.{◌≡◌, ◌∙◌, ap, sym, subst, [], List, slice_get, Some, rules}
use Rattle.dn_net.specs.declared.node.Name.{Name}
use Rattle.dn_view.specs.declared.part.FlatPart.TheVariants.{Accepts, Stops}
use Rattle.dn_view.specs.Named.{AddsPart}
use Rattle.dn_flight.specs.declared.lookup.LookState.TheVariants.{Ended}
use Rattle.dn_flight.proofs.Found.{found_none, found_stop}
use Rattle.dn_flight.proofs.settle.settle.Goals as goal

pub returns-in-Some : goal.returns-in-Some
returns-in-Some g c =
    let net = c.args.system.on.net.now in
    let same : c.as_slice.result.now ≡ c.push_names.new.found.items = search rules in
    let stops : AddsPart net Stops c.args.name [] c.push_names.new.found.items = subst (λ (l : List Name). AddsPart net Stops c.args.name l c.push_names.new.found.items) c.new-stops.ensures.items c.in_ok-push_names.ensures in
    found_stop net c.requires.system.kinded.legal.legal c.args.name c.in-Some.stop c.push_names.new.found.items stops (sym (c.first_of.ensures ∙ ap (λ (l : List Name). slice_get l 0) same) ∙ c.in-Some.is)

pub returns : goal.returns
returns g c =
    let net = c.args.system.on.net.now in
    let same : c.as_slice.result.now ≡ c.push_names.new.found.items = search rules in
    let stops : AddsPart net Stops c.args.name [] c.push_names.new.found.items = subst (λ (l : List Name). AddsPart net Stops c.args.name l c.push_names.new.found.items) c.new-stops.ensures.items c.in_ok-push_names.ensures in
    let accepted : AddsPart net Accepts c.args.name [] c.push_names-2.new.found.items = subst (λ (l : List Name). AddsPart net Accepts c.args.name l c.push_names-2.new.found.items) c.new-accepted.ensures.items c.in_ok-push_names-2.ensures in
    ap Ended c.in_ok-set_of.ensures ∙ found_none net c.requires.system.kinded.legal.legal c.args.name c.push_names.new.found.items c.push_names-2.new.found.items stops (sym (c.first_of.ensures ∙ ap (λ (l : List Name). slice_get l 0) same) ∙ c.in_default.is) accepted
