-- None of the entries so far has too many.
use Rattle.std.proofs.Common.{◌≡◌, nat_lt, length, drop}
use Rattle.std.specs.List.{list_any}
use Rattle.dn_shape.specs.Limits.{dest_limit}
use Rattle.dn_shape.proofs.limits.has_many_dests.Given as goal

abbrev pub invariant-loop-entry : goal.invariant-loop-entry
invariant-loop-entry l = list_any (λ e. nat_lt dest_limit (length e.dests)) l.entries ≡ list_any (λ e. nat_lt dest_limit (length e.dests)) (drop l.entry-index l.entries)
