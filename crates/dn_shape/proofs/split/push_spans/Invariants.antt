-- An entry for each span so far.
use Rattle.std.proofs.Common.{◌≡◌, ◌++◌, map, take}
use Rattle.dn_shape.specs.Split.{entry_onto}
use Rattle.dn_shape.proofs.split.push_spans.Given as goal

abbrev pub invariant-loop-span : goal.invariant-loop-span
invariant-loop-span l = l.entries.items ≡ l.initial.entries.items ++ map (entry_onto l.node) (take l.span-index l.spans)
