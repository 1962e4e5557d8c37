use Rattle.std.proofs.Common.{◌≡◌, ◌&&◌, ◌||◌, ℕ, nat_eq, drop}
use Rattle.dn_interval.specs.declared.row.End.{End}
use Rattle.dn_interval.specs.Strands.{segs_give}
use Rattle.dn_place.proofs.preimages.turned.Given as goal

abbrev pub invariant-loop-seg : goal.invariant-loop-seg
invariant-loop-seg l = (x : ℕ) (z : End) → (segs_give l.back.items x z || (nat_eq l.node z.node && segs_give (drop l.seg-index l.segs) z.base (record { node = l.unit; base = x }))) ≡ (nat_eq l.node z.node && segs_give l.segs z.base (record { node = l.unit; base = x }))
