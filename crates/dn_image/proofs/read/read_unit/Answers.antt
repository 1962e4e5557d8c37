use Rattle.std.proofs.Common.{◌∙◌, ◌*◌, ap}
use Rattle.std.proofs.lemmas.List.{take_rest}
use Rattle.byteorder.specs.Endian.{little_number}
use Rattle.dn_image.proofs.Numbers.{spelled_next, spelled_last}
use Rattle.dn_image.proofs.read.read_unit.Goals as goal

pub loop-word-preserved : goal.loop-word-preserved
loop-word-preserved c = spelled_next c.args.count c.loop-word.word _ c.args.bytes.now c.loop-word.words.items c.push.new.self.items c.loop-word-test.true c.loop-word.invariant c.in_ok-push.ensures.items (c.read_u64.ensures ∙ ap (little_number 8) (take_rest c.args.bytes.now (8 * c.loop-word.word)))

pub returns : goal.returns
returns c = c.from_vec.ensures ∙ spelled_last c.args.count c.loop-word.word c.args.bytes.now c.loop-word.words.items c.loop-word-test.false c.loop-word.invariant
