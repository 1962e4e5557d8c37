use Rattle.std.proofs.Common.{ℕ, ◌<◌}
use Rattle.dn_gather.specs.Grounds.{NoneFor}
use Rattle.dn_gather.proofs.search.first_scatter.Given as goal

abbrev pub invariant-loop-unit : goal.invariant-loop-unit
invariant-loop-unit g l = (unit v : ℕ) → unit < l.unit → NoneFor (λ k. (goal.UnitKind-dyn g k).meaning k.1) l.wanted unit v
