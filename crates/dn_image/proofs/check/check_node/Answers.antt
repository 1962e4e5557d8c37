use Rattle.std.proofs.Common.{◌≡◌, ◌∙◌, ◌++◌, ap, sym, false, true, List, length, take, IsTrue}
use Rattle.std.specs.Option.{option_copied}
use Rattle.dn_kind.specs.Kind.{Meaning}
use Rattle.dn_kind.specs.Kinded.{kinds_of}
use Rattle.dn_image.specs.Image.{head_of, head_bytes}
use Rattle.dn_image.specs.Reading.{broken_in, unit_fields}
use Rattle.dn_image.proofs.Places.{head_wrong, unit_cut, unit_whole}
use Rattle.dn_image.proofs.check.check_node.Goals as goal

pub returns-then-not-has_front-clause-passes : goal.returns-then-not-has_front-clause-passes
returns-then-not-has_front-clause-passes g c =
    let kinds : List Meaning = kinds_of (λ k. (goal.UnitKind-dyn g k).meaning k.1) c.args.kinds.now in
    let wanted : c.head-wanted.result ≡ head_bytes kinds c.args.node c.in-Some.unit.now = c.head-wanted.ensures ∙ ap (λ w. head_of c.args.node w c.in-Some.unit.now.slots) c.record_width.ensures.width in
    let eight : length c.head-wanted.result ≡ 8 = ap length wanted in
    λ more. ap (λ o. broken_in c.args.total (unit_fields kinds c.args.place c.args.node (option_copied o) ++ more) c.args.rest.now) c.in-Some.is ∙ head_wrong kinds c.args.total c.args.place c.args.node c.in-Some.unit.now c.args.rest.now c.head-wanted.result more wanted c.if-rest-lt-HEAD.false (λ e.
    let f : IsTrue c.has_front.result = c.has_front.ensures.1 (ap (λ k. take k c.args.rest.now) eight ∙ e) in
    let h : ◌≡◌ false true = sym c.if-not-has_front.true ∙ f in cc)

pub returns-then-rest-size-clause-passes : goal.returns-then-rest-size-clause-passes
returns-then-rest-size-clause-passes g c =
    let kinds : List Meaning = kinds_of (λ k. (goal.UnitKind-dyn g k).meaning k.1) c.args.kinds.now in
    let wanted : c.head-wanted.result ≡ head_bytes kinds c.args.node c.in-Some.unit.now = c.head-wanted.ensures ∙ ap (λ w. head_of c.args.node w c.in-Some.unit.now.slots) c.record_width.ensures.width in
    let eight : length c.head-wanted.result ≡ 8 = ap length wanted in
    let front : take 8 c.args.rest.now ≡ c.head-wanted.result = ap (λ k. take k c.args.rest.now) (sym eight) ∙ c.has_front.ensures.0 c.if-not-has_front.false in
    λ more. ap (λ o. broken_in c.args.total (unit_fields kinds c.args.place c.args.node (option_copied o) ++ more) c.args.rest.now) c.in-Some.is ∙ unit_cut kinds c.args.total c.args.place c.args.node c.count_words.result c.in-Some.unit.now c.args.rest.now c.head-wanted.result more wanted c.if-rest-lt-HEAD.false front c.count_words.ensures.count c.if-rest-size.true

pub returns-clause-passes : goal.returns-clause-passes
returns-clause-passes g c =
    let kinds : List Meaning = kinds_of (λ k. (goal.UnitKind-dyn g k).meaning k.1) c.args.kinds.now in
    let wanted : c.head-wanted.result ≡ head_bytes kinds c.args.node c.in-Some.unit.now = c.head-wanted.ensures ∙ ap (λ w. head_of c.args.node w c.in-Some.unit.now.slots) c.record_width.ensures.width in
    let eight : length c.head-wanted.result ≡ 8 = ap length wanted in
    let front : take 8 c.args.rest.now ≡ c.head-wanted.result = ap (λ k. take k c.args.rest.now) (sym eight) ∙ c.has_front.ensures.0 c.if-not-has_front.false in
    λ more. ap (λ o. broken_in c.args.total (unit_fields kinds c.args.place c.args.node (option_copied o) ++ more) c.args.rest.now) c.in-Some.is ∙ unit_whole kinds c.args.total c.args.place c.args.node c.count_words.result c.in-Some.unit.now c.args.rest.now c.head-wanted.result more wanted c.if-rest-lt-HEAD.false front c.count_words.ensures.count c.if-rest-size.false
