use Rattle.std.proofs.Common.{◌≡◌, ◌∙◌, ◌-◌, ◌++◌, [], Ok, Err, Result, ap, sym, subst, take, drop, length, List, ℕ, append-nil, rules, arith}
use Rattle.std.proofs.lemmas.List.{take_rest}
use Rattle.dn_base.specs.Answers.{Answers}
use Rattle.dn_kind.specs.Kind.{Meaning}
use Rattle.dn_kind.specs.Kinded.{kinds_of}
use Rattle.dn_image.specs.declared.fault.ImageFault.{ImageFault}
use Rattle.dn_image.specs.Reading.{Field, broken_in, broken_image, units_fields, image_fault_view, reading_by, version_of}
use Rattle.dn_image.proofs.Answered.{broken_answers, ends_there, ends_later}
use Rattle.dn_image.proofs.check.check.Given.{Over}
use Rattle.dn_image.proofs.check.check.Goals.{In_ok-version, In_ok-size}
use Rattle.dn_image.proofs.check.check.Goals as goal

-- behind a header that is right, what is wrong is wrong with the units
before : (g : Over) (c : In_ok-version g) → broken_image c.args.on.net.now (kinds_of (λ k. (goal.UnitKind-dyn g k).meaning k.1) c.args.on.kinds.now) c.args.bytes.now ≡ broken_in (length c.args.bytes.now) (units_fields (kinds_of (λ k. (goal.UnitKind-dyn g k).meaning k.1) c.args.on.kinds.now) 0 0 c.args.on.net.now ++ []) (take (length c.args.bytes.now - 8) (drop 8 c.args.bytes.now))
before g c =
    let kinds : List Meaning = kinds_of (λ k. (goal.UnitKind-dyn g k).meaning k.1) c.args.on.kinds.now in
    let total = length c.args.bytes.now in
    let units : List Field = units_fields kinds 0 0 c.args.on.net.now in
    c.in_ok-version.ensures.passes units ∙ ap (λ (l : List Field). broken_in total l (drop 8 c.args.bytes.now)) (sym (append-nil units)) ∙ ap (broken_in total (units ++ [])) (sym (take_rest c.args.bytes.now 8))

-- and behind units that are right, with the end
after : (g : Over) (c : In_ok-size g) → broken_image c.args.on.net.now (kinds_of (λ k. (goal.UnitKind-dyn g k).meaning k.1) c.args.on.kinds.now) c.args.bytes.now ≡ broken_in (length c.args.bytes.now) (units_fields (kinds_of (λ k. (goal.UnitKind-dyn g k).meaning k.1) c.args.on.kinds.now) 0 0 c.args.on.net.now ++ []) (take (length c.args.bytes.now - 8) (drop 8 c.args.bytes.now)) → broken_image c.args.on.net.now (kinds_of (λ k. (goal.UnitKind-dyn g k).meaning k.1) c.args.on.kinds.now) c.args.bytes.now ≡ broken_in (length c.args.bytes.now) [] (drop c.in_ok-size.size (drop 8 c.args.bytes.now))
after g c so_far = so_far ∙ c.in_ok-size.ensures.passes [] ∙ ap (λ l. broken_in (length c.args.bytes.now) [] (drop c.in_ok-size.size l)) (take_rest c.args.bytes.now 8)

pub returns-in_err-size-clause-exact : goal.returns-in_err-size-clause-exact
returns-in_err-size-clause-exact g c =
    let kinds : List Meaning = kinds_of (λ k. (goal.UnitKind-dyn g k).meaning k.1) c.args.on.kinds.now in
    let same : c.from_residual-in_err-size.result ≡ Err c.in_err-size.field-0.0 = search rules in
    subst (λ (r : Result ℕ ImageFault). Answers (λ v. v) image_fault_view r (reading_by (broken_image c.args.on.net.now kinds c.args.bytes.now) (version_of c.args.bytes.now))) (sym same) (broken_answers (broken_image c.args.on.net.now kinds c.args.bytes.now) c.in_err-size.field-0.0 (version_of c.args.bytes.now) (before g (goal.at.returns-in_err-size-clause-exact g c).In_ok-version ∙ c.in_err-size.ensures.passes []))

pub returns-then-end-bytes-clause-exact : goal.returns-then-end-bytes-clause-exact
returns-then-end-bytes-clause-exact g c =
    let whole = after g (goal.at.returns-then-end-bytes-clause-exact g c).In_ok-size (before g (goal.at.returns-then-end-bytes-clause-exact g c).In_ok-version) in
    let end = c.if-end-bytes.true in
    ap (λ o. reading_by o (version_of c.args.bytes.now)) (whole ∙ ends_later c.args.bytes.now c.in_ok-size.size (omega (arith, end)))

pub returns-clause-exact : goal.returns-clause-exact
returns-clause-exact g c =
    let whole = after g (goal.at.returns-clause-exact g c).In_ok-size (before g (goal.at.returns-clause-exact g c).In_ok-version) in
    let end = c.if-end-bytes.false in
    ap (λ o. reading_by o (version_of c.args.bytes.now)) (whole ∙ ends_there c.args.bytes.now c.in_ok-size.size (omega (arith, end))) ∙ ap (λ v. Ok v) (sym c.in_ok-version.ensures.version)
