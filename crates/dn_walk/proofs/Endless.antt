-- What the rules on walks leave of a net: no chain that never ends, and none of 65 steps.
use Rattle.std.proofs.Common.{◌≡◌, ℕ, ◌+◌, Bool, true, false, if◌then◌else◌, nat_lt, List, length, Option, Some, None, option_map, IsSome, refl, sym, subst}
use Rattle.dn_net.specs.declared.node.Name.{Name}
use Rattle.dn_net.specs.declared.node.NodeDecl.{NodeDecl}
use Rattle.dn_net.specs.Chain.{IsChain}
use Rattle.dn_net.specs.Decode.{step_limit, Step}
use Rattle.dn_net.specs.Walks.{live_walks}
use Rattle.dn_net.specs.WalkRules.{Broken, is_wide, is_deep, counted_length, shortest_cycle, path_names, cycle_or_path, walk_limit, endless_fault, EndlessIsRefused, NoFaultIsShallow, ReachIsWithin}
use Rattle.dn_net.specs.Rules.{KeepsNodeRules}
use Rattle.dn_net.proofs.Chains.{chain_from_endless}
use Rattle.dn_net.proofs.Firsts.{some_steps}
use Rattle.dn_net.proofs.Stops.{shallow_reach}
use Rattle.dn_net.proofs.Ways.{path_is_least}

-- whether there are too many walks
abbrev pub is_wide_net : List NodeDecl → Bool
is_wide_net net = nat_lt walk_limit (length (live_walks net (counted_length (shortest_cycle net))))

pub endless_fault_is : (net : List NodeDecl) → endless_fault net ≡ (if is_wide_net net then Some is_wide else cycle_or_path net (shortest_cycle net))
unfolding endless_fault
endless_fault_is net = refl

some_path : (net : List NodeDecl) → KeepsNodeRules net → (x y : Name) → IsChain (Step net) step_limit x y → IsSome (option_map is_deep (path_names net step_limit))
some_path net checked x y c = by (path_names net step_limit) refl
  where
    by : (o : Option (List Name)) → path_names net step_limit ≡ o → IsSome (option_map is_deep o)
    by None e = absurd ((path_is_least net checked step_limit).1 e x y c some_steps)
    by (Some xs) e = refl

long_is_refused : (net : List NodeDecl) → KeepsNodeRules net → (x y : Name) → IsChain (Step net) step_limit x y → IsSome (endless_fault net)
long_is_refused net checked x y c = subst (λ f. IsSome f) (sym (endless_fault_is net)) (by (is_wide_net net) (shortest_cycle net))
  where
    by : (b : Bool) (o : Option ℕ) → IsSome (if b then Some is_wide else cycle_or_path net o)
    by true o = refl
    by false (Some k) = refl
    by false None = some_path net checked x y c

pub endless_is_refused : EndlessIsRefused
endless_is_refused net checked f each = long_is_refused net checked (f 0) (f (0 + step_limit)) (chain_from_endless (Step net) f each step_limit 0)

pub no_fault_is_shallow : NoFaultIsShallow
no_fault_is_shallow net checked none x y c = never (endless_fault net) none (long_is_refused net checked x y c)
  where
    never : (o : Option Broken) → o ≡ None → IsSome o → ⊥
    never None e s = cc
    never (Some b) e s = cc

pub reach_is_within : ReachIsWithin
reach_is_within net checked none x y r = shallow_reach net (no_fault_is_shallow net checked none) x y r
