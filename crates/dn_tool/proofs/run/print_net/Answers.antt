use Rattle.std.proofs.Common.{List, ℕ, IsTrue, subst}
use Rattle.std.specs.List.{list_all}
use Rattle.std.proofs.lemmas.List.{length-map}
use Rattle.dn_kind.specs.Kind.{Meaning}
use Rattle.dn_kind.specs.Kinded.{kinds_of}
use Rattle.dn_kind.specs.Units.{has_kind}
use Rattle.dn_script.proofs.Shaped.{kinds_fit}
use Rattle.dn_tool.proofs.run.print_net.Goals as goal

pub write_net-requires-clause-known : goal.write_net-requires-clause-known
write_net-requires-clause-known g c =
    let kinds : List Meaning = kinds_of (λ k. (goal.UnitKind-dyn g k).meaning k.1) c.args.machine.on.kinds.now in
    let there = kinds_fit kinds c.args.machine.on.net.now c.requires.machine.kinded.legal.shaped in
    subst (λ (n : ℕ). IsTrue (list_all (λ d. has_kind n d.unit) c.args.machine.on.net.now)) (length-map c.args.machine.on.kinds.now.list.items _) there
