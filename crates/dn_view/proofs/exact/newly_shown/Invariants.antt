use Rattle.std.proofs.Common.{ℕ, ◌-◌, ◌≤◌, ◌↔◌}
use Rattle.dn_interval.specs.declared.row.End.{End}
use Rattle.dn_interval.specs.declared.span.TheConstants.{TOP}
use Rattle.dn_view.specs.Trials.{fresh_in, joined_in, kept_in}
use Rattle.dn_view.proofs.Passed.{NewlyComes}
use Rattle.dn_view.proofs.exact.newly_shown.Given as goal

abbrev pub invariant-loop : goal.invariant-loop
invariant-loop g l =
    let net = l.trial.system.on.net.now in
    let old = kept_in (λ k. (goal.UnitKind-dyn g k).meaning k.1) l.trial in
    let fresh = fresh_in (λ k. (goal.UnitKind-dyn g k).meaning k.1) l.trial in
    let all = joined_in (λ k. (goal.UnitKind-dyn g k).meaning k.1) l.trial in
    (a : ℕ) (z : End) → a ≤ TOP → NewlyComes net old fresh all l.initial.shown.items l.initial.level.items 3 a z ↔ NewlyComes net old fresh all l.shown.items l.level.items (3 - l.counter) a z
