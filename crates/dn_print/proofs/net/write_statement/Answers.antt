use Rattle.std.proofs.Common.{rules, ◌≡◌, ◌∙◌, ap, sym, ℕ, List, length, ltb-true, append_assoc}
use Rattle.dn_kind.specs.Kind.{Meaning}
use Rattle.dn_kind.specs.Terms.{kinds_of}
use Rattle.dn_kind.proofs.Shapes.{kind_known}
use Rattle.dn_print.specs.Statement.{kind_name, kind_text}
use Rattle.dn_print.proofs.Closed.{ports_exist}
use Rattle.dn_print.proofs.net.write_statement.Goals as goal

pub kind-kind-requires-clause-there : goal.kind-kind-requires-clause-there
kind-kind-requires-clause-there g c = let is : c.from.result ≡ c.in-Some.unit.now.kind = search rules in rw is (ltb-true c.in-Some.unit.now.kind (length c.args.on.kinds.now.list.items) (kind_known _ c.args.on.net.now c.args.node _ c.requires.known c.in-Some.ensures))

pub write_unit-requires : goal.write_unit-requires
write_unit-requires g c = ports_exist c.args.on.net.now c.args.node c.in-Some.unit.now c.requires.closed c.in-Some.ensures

pub returns-in_ok-write_unit-in-Some : goal.returns-in_ok-write_unit-in-Some
returns-in_ok-write_unit-in-Some g c =
    let kinds : List Meaning = kinds_of (λ k. (goal.UnitKind-dyn g k).meaning k.1) c.args.on.kinds.now in
    let is : c.from.result ≡ c.in-Some.unit.now.kind = search rules in
    let text = ap (λ (k : ℕ). kind_text kinds k) (sym is) ∙ ap kind_name c.kind-kind.ensures.at in
    let same = ap (λ k. ((goal.UnitKind-dyn g k).meaning k.1).name) (search rules) in
    let named : c.name.result.now ≡ kind_text kinds c.in-Some.unit.now.kind = c.name.ensures ∙ same ∙ sym text in
    search (rules, append_assoc)
