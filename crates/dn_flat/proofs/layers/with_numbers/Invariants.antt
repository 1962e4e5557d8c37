-- The segments so far.
use Rattle.std.proofs.Common.{◌≡◌, map, take}
use Rattle.dn_flat.specs.declared.layers.Numbered.{Numbered}
use Rattle.dn_flat.proofs.layers.with_numbers.Given as goal

abbrev pub invariant-loop-seg : goal.invariant-loop-seg
invariant-loop-seg l = map (λ (n : Numbered). n.seg) l.all.items ≡ take l.seg-index l.segs
