-- The agents in the lists of the units of the hops so far are exact.
use Rattle.std.proofs.Common.{ℕ, ◌<◌, [], get_or, slice_index_or}
use Rattle.dn_tables.specs.declared.placement.Hop.{Hop}
use Rattle.dn_view.specs.Trials.{AreExactAmong}
use Rattle.dn_view.proofs.exact.exact_for.Given as goal

abbrev pub invariant-loop-hop : goal.invariant-loop-hop
invariant-loop-hop g l =
    (k : ℕ) (d : Hop) → k < l.hop-index → AreExactAmong (λ k. (goal.UnitKind-dyn g k).meaning k.1) l.trial (slice_index_or l.trial.system.flats.now.seers.by_unit (get_or l.hops k d).unit [])
