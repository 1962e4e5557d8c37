use Rattle.std.proofs.Common.{◌≡◌, ◌++◌, ◌-◌, replicate, vec_capacity, vec_len}
use Rattle.dn_base.proofs.filled.fill.Given as goal

abbrev pub invariant-loop-value : goal.invariant-loop-value
invariant-loop-value g l = record {
  items : l.items.items ++ replicate (l.end - vec_len l.items) l.value ≡ l.initial.items.items ++ replicate (l.end - vec_len l.initial.items) l.value;
  room : vec_capacity l.items ≡ vec_capacity l.initial.items;
}

abbrev pub decreases-loop-value : goal.decreases-loop-value
decreases-loop-value g l = l.end - vec_len l.items
