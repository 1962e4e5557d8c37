use Rattle.std.proofs.Common.{drop}
use Rattle.dn_gather.specs.Grounds.{NoneFor}
use Rattle.dn_gather.proofs.Searching.{Walking}
use Rattle.dn_gather.proofs.search.by_windows.Given as goal

abbrev pub invariant-loop-row : goal.invariant-loop-row
invariant-loop-row g l = Walking (NoneFor (λ k. (goal.UnitKind-dyn g k).meaning k.1) l.ground.wanted l.ground.unit) l.rows (drop l.row-index l.rows)
