use Rattle.std.proofs.Common.{◌≡◌, drop, nat_lt}
use Rattle.std.specs.List.{list_all}
use Rattle.dn_net.specs.declared.node.Entry.{Entry}
use Rattle.test_plans.proofs.plan.are_entries_within.Given as goal

abbrev pub invariant-loop-entry : goal.invariant-loop-entry
invariant-loop-entry l =
    list_all (λ (e : Entry). list_all (λ d. nat_lt d.node l.fn.count) e.dests) l.entries
    ≡ list_all (λ (e : Entry). list_all (λ d. nat_lt d.node l.fn.count) e.dests) (drop l.entry-index l.entries)
