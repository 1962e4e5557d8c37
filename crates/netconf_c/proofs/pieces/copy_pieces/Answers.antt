use Rattle.std.proofs.Common.{◌<◌, length, arith}
use Rattle.netconf_c.specs.Gathering.{piece_of}
use Rattle.netconf_c.proofs.Copied.{copied_front}
use Rattle.netconf_c.proofs.pieces.copy_pieces.Goals as goal

pub loop-at-preserved : goal.loop-at-preserved
loop-at-preserved c =
    let there : c.loop-at.at < length c.args.pieces.now = c.loop-at-test.true in
    let few = c.requires in
    let room : c.loop-at.at < length c.args.out.now = omega arith in
    copied_front piece_of c.args.pieces.now c.args.out.now c.loop-at.out c.loop-at.at _ c.piece_of.result there room c.loop-at.invariant c.piece_of.ensures
