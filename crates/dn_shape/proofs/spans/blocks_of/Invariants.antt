-- A block for each span so far.
use Rattle.std.proofs.Common.{◌≡◌, map, take}
use Rattle.dn_walk.specs.Legs.{span_view}
use Rattle.dn_shape.proofs.spans.blocks_of.Given as goal

abbrev pub invariant-loop-span : goal.invariant-loop-span
invariant-loop-span l = l.blocks.items ≡ map span_view (take l.span-index l.spans)
