use Rattle.std.proofs.Common.{◌∙◌, ◌<◌, [], Ok, ap, sym, length, take, arith, rules}
use Rattle.std.proofs.lemmas.List.{length-set, take_more_set}
use Rattle.dn_radix.proofs.Walks.{walk_all, walk_bad, walk_more, walk_start}
use Rattle.dn_radix.proofs.walk.record_words.Goals as goal

pub loop-word-init : goal.loop-word-init
loop-word-init c = record { many = search rules; so_far = walk_start c.args.image.now c.args.level c.args.first c.args.width [] }

pub loop-word-preserved : goal.loop-word-preserved
loop-word-preserved c =
    let many = c.loop-word.invariant.many in
    let t = c.loop-word-test.true in
    let m = c.requires.most in
    let l : c.loop-word.word < length c.loop-word.words = omega (arith, many, t, m) in
    record {
      many = length-set c.loop-word.words c.loop-word.word c.in-Ok.found ∙ many;
      so_far = walk_more c.args.image.now c.args.level c.args.first c.args.width c.loop-word.word c.in-Ok.found (take c.loop-word.word c.loop-word.words) _ c.loop-word-test.true c.loop-word.invariant.so_far (sym c.in-Ok.ensures) (take_more_set c.loop-word.words c.loop-word.word c.in-Ok.found l);
    }

pub returns-in-Err-clause-words : goal.returns-in-Err-clause-words
returns-in-Err-clause-words c = walk_bad c.args.image.now c.args.level c.args.first c.args.width c.loop-word.word c.in-Err.bad.at (take c.loop-word.word c.loop-word.words) c.loop-word-test.true c.loop-word.invariant.so_far (sym c.in-Err.ensures)

pub returns-clause-words : goal.returns-clause-words
returns-clause-words c = walk_all c.args.image.now c.args.level c.args.first c.args.width c.loop-word.word (take c.loop-word.word c.loop-word.words) c.loop-word-test.false c.loop-word.invariant.so_far ∙ ap (λ n. Ok (take n c.loop-word.words)) (let e = c.loop-word.auto.word-end in let f = c.loop-word-test.false in omega (arith, e, f))
