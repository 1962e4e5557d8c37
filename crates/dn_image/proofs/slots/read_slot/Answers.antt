use Rattle.std.proofs.Common.{◌≡◌, ◌∙◌, ◌<◌, ◌*◌, ap, length, take, arith}
use Rattle.std.proofs.lemmas.List.{length-set, take_rest, take_more_set}
use Rattle.byteorder.specs.Endian.{little_number}
use Rattle.dn_image.proofs.Numbers.{spelled_next, spelled_last}
use Rattle.dn_image.proofs.slots.read_slot.Goals as goal

pub loop-word-preserved : goal.loop-word-preserved
loop-word-preserved c =
    let many = c.loop-word.invariant.many in
    let l : c.loop-word.word < length c.loop-word.words = let t = c.loop-word-test.true in let m = c.requires.most in omega arith in
    record {
      many = length-set c.loop-word.words c.loop-word.word c.read_u64.result ∙ many;
      so_far = spelled_next c.args.width c.loop-word.word c.read_u64.result c.args.bytes.now _ _ c.loop-word-test.true c.loop-word.invariant.so_far (take_more_set c.loop-word.words c.loop-word.word c.read_u64.result l) (c.read_u64.ensures ∙ ap (little_number 8) (take_rest c.args.bytes.now (8 * c.loop-word.word)));
    }

pub returns : goal.returns
returns c =
    let ended = c.loop-word.auto.word-end in
    let last = c.loop-word-test.false in
    let here : c.args.width ≡ c.loop-word.word = omega arith in
    ap (λ n. take n c.loop-word.words) here ∙ spelled_last c.args.width c.loop-word.word c.args.bytes.now _ c.loop-word-test.false c.loop-word.invariant.so_far
