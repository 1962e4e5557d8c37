-- The names that were added, and those that the segments to come give.
use Rattle.std.proofs.Common.{◌≡◌, ◌||◌, drop}
use Rattle.dn_interval.specs.Strands.{segs_give}
use Rattle.dn_net.specs.declared.node.Name.{Name}
use Rattle.dn_walk.specs.Ends.{end_of}
use Rattle.dn_view.specs.Named.{has_name}
use Rattle.dn_view.proofs.names.push_given.Given as goal

abbrev pub invariant-loop-seg : goal.invariant-loop-seg
invariant-loop-seg l = (z : Name) → (has_name l.found.items z || segs_give (drop l.seg-index l.segs) l.addr (end_of z)) ≡ (has_name l.initial.found.items z || segs_give l.segs l.addr (end_of z))
