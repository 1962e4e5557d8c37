use Rattle.std.proofs.Common.{◌≡◌, ◌++◌, false}
use Rattle.dn_base.specs.Outside.{IsCounted}
use Rattle.dn_print.specs.Dump.{lines_text}
use Rattle.dn_script.proofs.Written.{IsSoFar}
use Rattle.dn_script.proofs.output.write_bytes.Given as goal

abbrev pub invariant-loop-piece : goal.invariant-loop-piece
invariant-loop-piece g l = record {
  size : l.piece-iterator.size ≡ 32768;
  so_far : IsSoFar (g.K.Sink.written l.fn.sink) (g.K.Sink.written l.sink) (lines_text l.piece-iterator.rest.now) (l.heading ++ lines_text l.bytes);
  counted : IsCounted (g.K.Sink.faults l.fn.sink) (g.K.Sink.faults l.sink) false;
}
