-- The lines so far were written, and those of the other items were not.
use Rattle.std.proofs.Common.{false, length, IsTrue}
use Rattle.std.specs.List.{flat_map, list_all}
use Rattle.dn_base.specs.Outside.{IsCounted}
use Rattle.dn_script.proofs.Written.{IsSoFar}
use Rattle.dn_script.proofs.lines.write_lines.Given as goal

abbrev pub invariant-loop-piece : goal.invariant-loop-piece
invariant-loop-piece g l =
    let text = g.L.Line.text l.net in
    record {
      so_far : IsSoFar (g.K.Sink.written l.fn.sink) (g.K.Sink.written l.sink) (flat_map text l.piece-iterator.rest.now) (flat_map text l.items);
      counted : IsCounted (g.K.Sink.faults l.fn.sink) (g.K.Sink.faults l.sink) false;
      there : IsTrue (list_all (g.L.Line.within (length l.net)) l.piece-iterator.rest.now);
    }
