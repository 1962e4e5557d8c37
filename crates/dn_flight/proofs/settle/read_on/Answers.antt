use Rattle.std.proofs.Common.{rules, ◌≡◌, ◌∙◌, ap, sym, subst, length, List, Some, IsTrue}
use Rattle.dn_net.specs.declared.node.Name.{Name}
use Rattle.dn_kind.specs.Kind.{Meaning}
use Rattle.dn_kind.specs.Kinded.{kinds_of}
use Rattle.dn_kind.specs.Levels.{are_there, name_list}
use Rattle.dn_kind.specs.Tables.{Held, allowing, record_held}
use Rattle.dn_kind.proofs.Nodes.{steps_under_there}
use Rattle.dn_flight.proofs.Sized.{one_there}
use Rattle.dn_flight.proofs.settle.read_on.Goals as goal

pub settle-requires-clause-there : goal.settle-requires-clause-there
settle-requires-clause-there g c =
    let kinds : List Meaning = kinds_of (λ k. (goal.UnitKind-dyn g k).meaning k.1) c.args.system.on.kinds.now in
    let net = c.args.system.on.net.now in
    let h : Held = allowing c.args.flight.access (record_held net kinds c.args.words.now) in
    let is : c.output.result ≡ Some c.in-Some.name = search rules in
    one_there (length net) c.in-Some.name (subst (λ (xs : List Name). IsTrue (are_there (length net) xs)) (sym (sym (ap name_list is) ∙ c.output.ensures)) (steps_under_there net h c.args.flight.name c.requires.system.kinded.legal.legal.nodes.closed))
