use Rattle.std.proofs.Common.{◌∙◌, sym, ap, arith, not, ◌<◌, ◌≤◌, length, [], ◌∷◌, ◌++◌}
use Rattle.dn_scope.specs.Uses.{has_twice}
use Rattle.dn_scope.proofs.Naming.{put_last, was_known, word_met, word_new, words_all, words_are, words_put}
use Rattle.dn_scope.proofs.titles.Titles.of_params.Goals as goal

pub returns-then-not-is_new-clause-different : goal.returns-then-not-is_new-clause-different
returns-then-not-is_new-clause-different c =
    let ps = c.args.params.now in
    let i = c.loop-i.i in
    let end = c.loop-i.invariant.end in
    let inside : i < length ps = omega arith in
    let known = was_known _ _ _ _ _ c.in_ok-is_new.ensures.is_new c.word_of-word.ensures c.loop-i.invariant.words in
    sym (ap not (ap has_twice (words_are ps) ∙ word_met ps i _ inside (known ∙ ap not c.if-not-is_new.true)))

pub loop-i-preserved : goal.loop-i-preserved
loop-i-preserved c =
    let ps = c.args.params.now in
    let i = c.loop-i.i in
    let end = c.loop-i.invariant.end in
    let inside : i < length ps = omega arith in
    let known = was_known _ _ _ _ _ c.in_ok-is_new.ensures.is_new c.word_of-word.ensures c.loop-i.invariant.words in
    record {
      end = end;
      words = put_last _ _ _ _ c.in_ok-is_new.ensures.added c.if-not-is_new.false
          ∙ (λ j. c.loop-i.invariant.words j ++ c.word_of-word.ensures j ∷ [])
          ∙ words_put ps i _ inside;
      once = word_new ps i _ inside (known ∙ ap not c.if-not-is_new.false) c.loop-i.invariant.once;
    }

pub returns-clause-words : goal.returns-clause-words
returns-clause-words c =
    let end = c.loop-i.invariant.end in
    let past : length c.args.params.now ≤ c.loop-i.i = omega arith in
    c.in_ok-words.ensures.ok ∙ c.loop-i.invariant.words ∙ words_all c.args.params.now c.loop-i.i past

pub returns-clause-different : goal.returns-clause-different
returns-clause-different c =
    let end = c.loop-i.invariant.end in
    let past : length c.args.params.now ≤ c.loop-i.i = omega arith in
    sym (ap not (ap has_twice (sym (words_all c.args.params.now c.loop-i.i past)) ∙ c.loop-i.invariant.once))
