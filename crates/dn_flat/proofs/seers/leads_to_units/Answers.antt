-- The ports of the unit are nodes that are there.
use Rattle.std.proofs.Common.{◌≡◌, ◌∙◌, ℕ, List, ap, sym, subst, length, Some, IsTrue, nat_lt}
use Rattle.std.specs.List.{list_all}
use Rattle.std.specs.Option.{option_copied}
use Rattle.dn_net.specs.Decode.{unit_at}
use Rattle.dn_net.proofs.Steps.{ports_at, unit_is}
use Rattle.dn_flat.proofs.seers.leads_to_units.Goals as goal

pub some_have_stops-requires : goal.some_have_stops-requires
some_have_stops-requires c =
    let net = c.args.net.now in
    let at : unit_at net c.args.node ≡ Some c.in-Some.unit.now = unit_is net c.args.node (option_copied c.unit.result) c.unit.ensures ∙ ap option_copied c.in-Some.is in
    let ports = ports_at net c.args.node c.in-Some.unit.now c.requires.legal.nodes.closed at in
    subst (λ (ps : List ℕ). IsTrue (list_all (λ p. nat_lt p (length c.args.nodes.now)) ps)) (sym c.as_slice.ensures) (subst (λ n. IsTrue (list_all (λ p. nat_lt p n) c.in-Some.unit.now.ports)) (sym c.requires.nodes) ports)
