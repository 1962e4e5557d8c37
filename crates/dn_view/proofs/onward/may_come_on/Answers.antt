use Rattle.std.proofs.Common.{◌≡◌, ◌∙◌, ap, sym, subst, Some, IsTrue, nat_lt}
use Rattle.std.specs.List.{list_all}
use Rattle.std.specs.Option.{option_copied}
use Rattle.dn_net.specs.Decode.{unit_at}
use Rattle.dn_net.proofs.Steps.{ports_at}
use Rattle.dn_view.proofs.onward.may_come_on.Goals as goal

pub comes_on-requires-clause-ports : goal.comes_on-requires-clause-ports
comes_on-requires-clause-ports g c =
    let at : unit_at c.args.trial.system.on.net.now c.args.node ≡ Some c.in-Some.unit.now = sym c.unit_of.ensures ∙ ap option_copied c.in-Some.is in
    subst (λ n. IsTrue (list_all (λ p. nat_lt p n) c.in-Some.unit.now.ports)) (sym c.requires.system.flat.every) (ports_at c.args.trial.system.on.net.now c.args.node c.in-Some.unit.now c.requires.system.kinded.legal.legal.nodes.closed at)
