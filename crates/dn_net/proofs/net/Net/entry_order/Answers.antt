-- The order of the node's entries.
use Rattle.std.proofs.Common.{sym, subst}
use Rattle.std.specs.List.Sorted.{IsPermutation, IsStableByKey}
use Rattle.std.specs.Ordering.{nat_cmp}
use Rattle.dn_net.specs.declared.entries.Place.{Place}
use Rattle.dn_net.specs.Order.{places_from}
use Rattle.dn_net.proofs.Faults.{part_is}
use Rattle.dn_net.proofs.net.Net.entry_order.Goals as goal

pub returns-clause-every : goal.returns-clause-every
returns-clause-every c d at = subst (λ l. IsPermutation (places_from 0 l) c.order.result.now) (sym (part_is (λ d. d.entries) _ d _ at c.parts.ensures.entries)) c.order.ensures.every

pub returns-clause-stable : goal.returns-clause-stable
returns-clause-stable c d at = subst (λ l. IsStableByKey (λ (p : Place). p.block.lo) nat_cmp (places_from 0 l) c.order.result.now) (sym (part_is (λ d. d.entries) _ d _ at c.parts.ensures.entries)) c.order.ensures.stable
