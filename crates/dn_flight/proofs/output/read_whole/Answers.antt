use Rattle.std.proofs.Common.{◌∙◌, ◌<◌, arith}
use Rattle.std.proofs.lemmas.List.{length-set}
use Rattle.dn_tables.proofs.Values.{read_next}
use Rattle.dn_flight.proofs.output.read_whole.Goals as goal

pub loop-at-preserved : goal.loop-at-preserved
loop-at-preserved c =
    let here : c.loop-at.at < c.args.width = c.loop-at-test.true in
    record {
      many = length-set c.loop-at.read c.loop-at.at c.get.result ∙ c.loop-at.invariant.many;
      same = read_next c.loop-at.read c.args.words.now c.args.first c.loop-at.at c.get.result (omega (arith, here, c.loop-at.invariant.many, c.requires.few)) (omega (arith, here, c.requires.room)) c.get.ensures c.loop-at.invariant.same;
    }
