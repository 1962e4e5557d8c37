use Rattle.std.proofs.Common.{◌≡◌, ℕ, true}
use Rattle.dn_interval.specs.declared.row.End.{End}
use Rattle.dn_interval.specs.Strands.{segs_give}
use Rattle.dn_place.specs.KeptNames.{IsNamed}
use Rattle.dn_place.proofs.kept.named.Given as goal

abbrev pub invariant-loop-seg : goal.invariant-loop-seg
invariant-loop-seg l = (x : ℕ) (z : End) → segs_give l.own.items x z ≡ true → IsNamed l.segs x z
