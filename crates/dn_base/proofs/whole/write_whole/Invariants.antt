use Rattle.std.proofs.Common.{length, take, ◌-◌, ◌≡◌, ◌≤◌, false}
use Rattle.dn_base.specs.Outside.{Added, IsCounted}
use Rattle.dn_base.proofs.whole.write_whole.Given as goal

abbrev pub invariant-loop-at : goal.invariant-loop-at
invariant-loop-at g l =
    let sink = g.K.Sink in
    record {
      within : l.at ≤ length l.bytes;
      added : Added (sink.written l.fn.sink) (sink.written l.sink) (take l.at l.bytes);
      untouched : l.at ≡ 0 → l.sink ≡ l.fn.sink;
      counted : IsCounted (sink.faults l.fn.sink) (sink.faults l.sink) false;
    }

abbrev pub decreases-loop-at : goal.decreases-loop-at
decreases-loop-at g l = length l.bytes - l.at
