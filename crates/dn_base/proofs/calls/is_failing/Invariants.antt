use Rattle.std.proofs.Common.{◌≡◌, ◌==◌, drop}
use Rattle.std.specs.List.{list_any}
use Rattle.dn_base.proofs.calls.is_failing.Given as goal

abbrev pub invariant-loop-n : goal.invariant-loop-n
invariant-loop-n l = list_any (λ n. n == l.call) l.failing ≡ list_any (λ n. n == l.call) (drop l.n-index l.failing)
