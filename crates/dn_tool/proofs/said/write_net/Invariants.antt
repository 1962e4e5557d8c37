-- The statements so far were written, and those of the other nodes were not.
use Rattle.std.proofs.Common.{false, drop}
use Rattle.std.specs.List.{flat_map}
use Rattle.dn_base.specs.Outside.{IsCounted}
use Rattle.dn_kind.specs.Kinded.{kinds_of}
use Rattle.dn_print.specs.Statement.{net_text, statement_text}
use Rattle.dn_script.proofs.Written.{IsSoFar}
use Rattle.dn_tool.proofs.said.write_net.Given as goal

abbrev pub invariant-loop-node : goal.invariant-loop-node
invariant-loop-node g l =
    let kinds = kinds_of (λ k. (goal.UnitKind-dyn g k).meaning k.1) l.on.kinds.now in
    record {
      so_far : IsSoFar (g.K.Sink.written l.fn.sink) (g.K.Sink.written l.sink) (flat_map (statement_text kinds l.on.net.now) (drop l.node l.on.net.now)) (net_text kinds l.on.net.now);
      counted : IsCounted (g.K.Sink.faults l.fn.sink) (g.K.Sink.faults l.sink) false;
    }
