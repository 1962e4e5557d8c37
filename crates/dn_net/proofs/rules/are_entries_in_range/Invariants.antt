use Rattle.std.proofs.Common.{◌≡◌, drop}
use Rattle.std.specs.List.{list_all}
use Rattle.dn_net.specs.Rules.{entry_in_range}
use Rattle.dn_net.proofs.rules.are_entries_in_range.Given as goal

abbrev pub invariant-loop-entry : goal.invariant-loop-entry
invariant-loop-entry l = list_all entry_in_range l.entries ≡ list_all entry_in_range (drop l.entry-index l.entries)
