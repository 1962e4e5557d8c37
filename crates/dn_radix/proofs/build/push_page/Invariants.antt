use Rattle.std.proofs.Common.{◌≡◌, ℕ, ◌++◌, ◌-◌, length, replicate}
use Rattle.dn_radix.specs.Tree.{joined_bytes}
use Rattle.dn_radix.proofs.build.push_page.Given as goal

abbrev pub invariant-loop-place : goal.invariant-loop-place
invariant-loop-place l = l.out.items ++ joined_bytes (replicate {A = ℕ} (512 - l.place) 0) ≡ l.fn.out.items ++ joined_bytes (l.words ++ replicate {A = ℕ} (512 - length l.words) 0)
