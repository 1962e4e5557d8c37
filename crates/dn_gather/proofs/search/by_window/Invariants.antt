use Rattle.std.proofs.Common.{ℕ, suc, ◌-◌, ◌<◌, ◌≤◌}
use Rattle.dn_gather.specs.Grounds.{NoneFor}
use Rattle.dn_gather.proofs.search.by_window.Given as goal

abbrev pub invariant-addresses : goal.invariant-addresses
invariant-addresses g l = record {
  past : l.lo ≤ l.v;
  none : (w : ℕ) → l.lo ≤ w → w < l.v → NoneFor (λ k. (goal.UnitKind-dyn g k).meaning k.1) l.ground.wanted l.ground.unit w;
}

abbrev pub decreases-addresses : goal.decreases-addresses
decreases-addresses g l = suc l.hi - l.v
