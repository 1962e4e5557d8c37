use Rattle.std.proofs.Common.{◌∙◌, sym, ap, drop}
use Rattle.dn_scope.proofs.Places.{number_gone, name_passed, none_left}
use Rattle.dn_scope.proofs.words.after_number.Goals as goal

pub returns-then-is_number : goal.returns-then-is_number
returns-then-is_number c = λ words.
    number_gone c.args.values.now c.loop-place.place words c.index-values-place.result c.loop-place-test.true c.index-values-place.is (sym c.is_number.ensures ∙ c.if-is_number.true)
    ∙ ap (drop 1) (sym (c.loop-place.invariant words))

pub loop-place-preserved : goal.loop-place-preserved
loop-place-preserved c = λ words.
    c.loop-place.invariant words
    ∙ sym (name_passed c.args.values.now c.loop-place.place words c.index-values-place.result c.loop-place-test.true c.index-values-place.is (sym c.is_number.ensures ∙ c.if-is_number.false))

pub returns : goal.returns
returns c = λ words.
    let none = none_left c.args.values.now c.loop-place.place words c.loop-place-test.false in
    none ∙ ap (drop 1) (sym (c.loop-place.invariant words ∙ none))
