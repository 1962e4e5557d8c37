use Rattle.std.proofs.Common.{◌≡◌, ◌++◌, [], take}
use Rattle.dn_net.specs.Spans.{node_spans}
use Rattle.dn_net.proofs.spans.push_accepts.Given as goal

abbrev pub invariant-loop-block : goal.invariant-loop-block
invariant-loop-block l = l.spans.items ≡ l.initial.spans.items ++ node_spans [] (take l.block-index l.accepts)
