use Rattle.std.proofs.Common.{◌≡◌, ◌∙◌, ◌≤◌, ◌+◌, ◌++◌, ◌-◌, ap, sym, subst, take, drop, Result, Err, length, List, ℕ, arith, rules}
use Rattle.std.specs.Option.{option_copied}
use Rattle.std.proofs.lemmas.List.{drop_all, take_rest, length-drop, drop-drop}
use Rattle.dn_kind.specs.Kind.{Meaning}
use Rattle.dn_kind.specs.Kinded.{kinds_of}
use Rattle.dn_tables.proofs.Fresh.{shape_there}
use Rattle.dn_image.specs.declared.fault.ImageFault.{ImageFault}
use Rattle.dn_image.specs.Image.{count_unit}
use Rattle.dn_image.specs.Reading.{Field, PassesFields, broken_in, unit_fields, units_fields}
use Rattle.dn_image.proofs.Places.{fields_step, count_least}
use Rattle.dn_image.proofs.check.check_heads.Given.{Over}
use Rattle.dn_image.proofs.check.check_heads.Goals.{After-unit-unit}
use Rattle.dn_image.proofs.check.check_heads.Goals as goal

-- the fields of the nodes so far are right
before : (g : Over) (c : After-unit-unit g) → (more : List Field) → broken_in c.args.total (units_fields (kinds_of (λ k. (goal.UnitKind-dyn g k).meaning k.1) c.args.on.kinds.now) 0 0 c.args.on.net.now ++ more) c.args.rest.now ≡ broken_in c.args.total (unit_fields (kinds_of (λ k. (goal.UnitKind-dyn g k).meaning k.1) c.args.on.kinds.now) c.loop-node.place c.loop-node.node (option_copied c.unit-unit.result) ++ ((units_fields (kinds_of (λ k. (goal.UnitKind-dyn g k).meaning k.1) c.args.on.kinds.now) (count_unit (option_copied c.unit-unit.result) c.loop-node.place) (c.loop-node.node + 1) (drop (c.loop-node.node + 1) c.args.on.net.now)) ++ more)) (take (length c.args.rest.now - c.loop-node.at) (drop c.loop-node.at c.args.rest.now))
before g c more =
    let kinds : List Meaning = kinds_of (λ k. (goal.UnitKind-dyn g k).meaning k.1) c.args.on.kinds.now in
    let o = option_copied c.unit-unit.result in
    let next : List Field = units_fields kinds (count_unit o c.loop-node.place) (c.loop-node.node + 1) (drop (c.loop-node.node + 1) c.args.on.net.now) in
    let rest : take (length c.args.rest.now - c.loop-node.at) (drop c.loop-node.at c.args.rest.now) ≡ drop c.loop-node.at c.args.rest.now = take_rest c.args.rest.now c.loop-node.at in
    c.loop-node.invariant.passed more ∙ ap (λ (l : List Field). broken_in c.args.total l (drop c.loop-node.at c.args.rest.now)) (fields_step kinds c.args.on.net.now c.loop-node.node c.loop-node.place o more c.unit-unit.ensures) ∙ ap (broken_in c.args.total (unit_fields kinds c.loop-node.place c.loop-node.node o ++ (next ++ more))) (sym rest)

pub check_node-requires-clause-shaped : goal.check_node-requires-clause-shaped
check_node-requires-clause-shaped g c = shape_there _ c.args.on.net.now c.loop-node.node _ c.requires.on.shaped c.unit-unit.ensures

pub loop-node-preserved : goal.loop-node-preserved
loop-node-preserved g c =
    let kinds : List Meaning = kinds_of (λ k. (goal.UnitKind-dyn g k).meaning k.1) c.args.on.kinds.now in
    let o = option_copied c.unit-unit.result in
    let next : List Field = units_fields kinds (count_unit o c.loop-node.place) (c.loop-node.node + 1) (drop (c.loop-node.node + 1) c.args.on.net.now) in
    let rest : take (length c.args.rest.now - c.loop-node.at) (drop c.loop-node.at c.args.rest.now) ≡ drop c.loop-node.at c.args.rest.now = take_rest c.args.rest.now c.loop-node.at in
    let d = length-drop c.loop-node.at c.args.rest.now in
    let e = ap length rest in
    let size = c.in_ok-at.ensures.whole in
    let within = c.loop-node.invariant.within in
    record {
      last = c.loop-node.invariant.last;
      few = subst (λ n. n ≤ c.loop-node.node + 1) (sym c.count_unit-place.ensures) (count_least o c.loop-node.place c.loop-node.node c.loop-node.invariant.few);
      within = omega (arith, d, e, size, within);
      passed = λ more.
          before g (goal.at.loop-node-preserved g c).After-unit-unit more
          ∙ c.in_ok-at.ensures.passes (next ++ more)
          ∙ ap (λ (l : List ℕ). broken_in c.args.total (next ++ more) (drop c.in_ok-at.field-0 l)) rest
          ∙ ap (broken_in c.args.total (next ++ more)) (drop-drop c.in_ok-at.field-0 c.loop-node.at c.args.rest.now)
          ∙ ap (λ n. broken_in c.args.total (units_fields kinds n (c.loop-node.node + 1) (drop (c.loop-node.node + 1) c.args.on.net.now) ++ more) (drop (c.loop-node.at + c.in_ok-at.field-0) c.args.rest.now)) (sym c.count_unit-place.ensures);
    }

pub returns-in_err-at-clause-passes : goal.returns-in_err-at-clause-passes
returns-in_err-at-clause-passes g c =
    let kinds : List Meaning = kinds_of (λ k. (goal.UnitKind-dyn g k).meaning k.1) c.args.on.kinds.now in
    let o = option_copied c.unit-unit.result in
    let next : List Field = units_fields kinds (count_unit o c.loop-node.place) (c.loop-node.node + 1) (drop (c.loop-node.node + 1) c.args.on.net.now) in
    let same : c.from_residual.result ≡ Err c.in_err-at.field-0.0 = search rules in
    subst (λ (r : Result ℕ ImageFault). PassesFields c.args.total c.args.rest.now (units_fields kinds 0 0 c.args.on.net.now) (λ size. size) r) (sym same) (λ more. before g (goal.at.returns-in_err-at-clause-passes g c).After-unit-unit more ∙ c.in_err-at.ensures.passes (next ++ more))

pub returns-clause-passes : goal.returns-clause-passes
returns-clause-passes g c =
    let kinds : List Meaning = kinds_of (λ k. (goal.UnitKind-dyn g k).meaning k.1) c.args.on.kinds.now in
    let none = drop_all c.loop-node.node c.args.on.net.now (let e = c.loop-node.invariant.last in let f = c.loop-node-test.false in omega arith) in
    λ more. c.loop-node.invariant.passed more ∙ ap (λ l. broken_in c.args.total (units_fields kinds c.loop-node.place c.loop-node.node l ++ more) (drop c.loop-node.at c.args.rest.now)) none
