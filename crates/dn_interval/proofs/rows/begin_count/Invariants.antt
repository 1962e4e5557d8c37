-- Each strand so far begins at the address.
use Rattle.std.proofs.Common.{◌≡◌, ℕ, ◌<◌, get_or}
use Rattle.dn_interval.specs.declared.strand.Strand.{Strand}
use Rattle.dn_interval.proofs.rows.begin_count.Given as goal

abbrev pub invariant-loop-i : goal.invariant-loop-i
invariant-loop-i l = (k : ℕ) (d : Strand) → k < l.i → (get_or l.rest k d).span.lo ≡ l.from
