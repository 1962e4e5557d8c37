use Rattle.std.proofs.Common.{rules}
use Rattle.std.proofs.lemmas.List.Sorted.{IsNonDecreasingBy-from_sort, answers_always}
use Rattle.dn_net.specs.declared.entries.Place.{Place}
use Rattle.dn_net.proofs.entries.EntryList.new.Goals as goal

pub invariant_of-result : goal.invariant_of-result
invariant_of-result c =
    let computes = answers_always _ _ _ (λ f a r g h. search rules) in
    record {
      every = rw (c.in_ok-order.ensures, c.as_slice.ensures) at c.sort_by_key.ensures.permutation;
      sorted = IsNonDecreasingBy-from_sort (λ p. p.block.lo) _ (c.in_ok-sort_by_key.ensures.sorted (λ (p : Place). p.block.lo) computes);
      stable = rw (c.in_ok-order.ensures, c.as_slice.ensures) at (c.sort_by_key.ensures.stable (λ (p : Place). p.block.lo) computes);
    }
