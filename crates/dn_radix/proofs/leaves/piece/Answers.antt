use Rattle.std.proofs.Common.{◌≡◌, ◌∙◌, ◌*◌, ◌/◌, ◌≤◌, sym, ap, subst, drop, take, arith}
use Rattle.dn_radix.proofs.Pieces.{room_small}
use Rattle.dn_radix.proofs.Zeros.{piece_marked, room_pages}
use Rattle.dn_radix.proofs.leaves.piece.Goals as goal

pub cut-words-requires-clause-size : goal.cut-words-requires-clause-size
cut-words-requires-clause-size c = subst (λ n. n ≤ 134217728) (sym c.room-size.ensures) (room_small c.args.below c.requires.level)

pub cut-marks-requires-clause-size : goal.cut-marks-requires-clause-size
cut-marks-requires-clause-size c =
    let small = room_small c.args.below c.requires.level in
    let e = c.room-size.ensures in
    omega (arith, small, e)

pub invariant_of-result : goal.invariant_of-result
invariant_of-result c =
    let whole : c.room-size.result / 512 * 512 ≡ c.room-size.result = subst (λ n. n / 512 * 512 ≡ n) (sym c.room-size.ensures) (room_pages c.args.below) in
    record {
      marked = piece_marked c.args.leaves.words.now c.args.leaves.marks.now c.cut-words.result.now c.cut-marks.result.now c.room-size.result c.args.k whole c.args.leaves.marked c.cut-words.ensures c.cut-marks.ensures;
    }

pub returns : goal.returns
returns c = c.cut-words.ensures ∙ ap (λ n. take n (drop (c.args.k * n) c.args.leaves.words.now)) c.room-size.ensures
