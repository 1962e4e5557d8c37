use Rattle.std.proofs.Common.{◌≡◌, drop}
use Rattle.std.specs.List.{list_any}
use Rattle.dn_net.specs.Rules.{dests_repeat}
use Rattle.dn_net.proofs.rules.has_repeat.Given as goal

abbrev pub invariant-loop-entry : goal.invariant-loop-entry
invariant-loop-entry l = list_any (λ e. dests_repeat e.dests) l.entries ≡ list_any (λ e. dests_repeat e.dests) (drop l.entry-index l.entries)
