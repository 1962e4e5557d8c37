use Rattle.std.proofs.Common.{◌∙◌, ◌<◌, arith}
use Rattle.std.proofs.lemmas.List.{length-set}
use Rattle.dn_tables.proofs.Values.{read_next}
use Rattle.dn_tables.proofs.words.SlotWords.read.Goals as goal

pub loop-at-preserved : goal.loop-at-preserved
loop-at-preserved c =
    let here : c.loop-at.at < c.args.width = let l = c.loop-at-test.true in let e = c.loop-at.invariant.last in omega arith in
    record {
      last = c.loop-at.invariant.last;
      many = length-set c.loop-at.slot c.loop-at.at c.get.result ∙ c.loop-at.invariant.many;
      same = read_next c.loop-at.slot c.args.words.now c.args.first c.loop-at.at c.get.result (omega (arith, here, c.loop-at.invariant.many, c.requires.few)) (omega (arith, here, c.requires.room)) c.get.ensures c.loop-at.invariant.same;
    }
