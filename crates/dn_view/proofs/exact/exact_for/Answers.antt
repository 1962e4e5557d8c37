-- The request's agent, the agents that see names of a unit that leads on, and those in the lists of the units of the hops.
use Rattle.std.proofs.Common.{◌∙◌, ◌<◌, ℕ, List, [], get_or, length, slice_index_or, ap, subst, arith}
use Rattle.dn_flat.specs.declared.seers.Seers.{Seers}
use Rattle.dn_tables.specs.declared.placement.Hop.{Hop}
use Rattle.dn_view.specs.Trials.{IsExactIn, trial_records}
use Rattle.dn_view.proofs.Agents.{Among, not_all, not_among}
use Rattle.dn_view.proofs.Asking.{all_asked, more_hops}
use Rattle.dn_view.proofs.exact.exact_for.Goals as goal

pub returns-then-not-own : goal.returns-then-not-own
returns-then-not-own g c =
    not_all c.args.trial.system.on.net.now (IsExactIn (λ k. (goal.UnitKind-dyn g k).meaning k.1) c.args.trial) c.args.trial.request.now.agent c.in_ok-own.own c.if-not-own.true c.in_ok-own.ensures

pub returns-then-not-onward : goal.returns-then-not-onward
returns-then-not-onward g c =
    not_among c.args.trial.system.on.net.now (IsExactIn (λ k. (goal.UnitKind-dyn g k).meaning k.1) c.args.trial) c.onward.result.now c.in_ok-onward.onward c.if-not-onward.true c.in_ok-onward.ensures

pub loop-hop-init : goal.loop-hop-init
loop-hop-init g c k d l = absurd (omega arith)

pub loop-hop-preserved : goal.loop-hop-preserved
loop-hop-preserved g c =
    let lists : List (List ℕ) = c.args.trial.system.flats.now.seers.by_unit in
    let hops : List Hop = c.hops-hops.result.now in
    let none : Hop = record { unit = 0; port = 0; x = 0; y = 0 } in
    more_hops c.args.trial.system.on.net.now (IsExactIn (λ k. (goal.UnitKind-dyn g k).meaning k.1) c.args.trial) lists hops c.loop-hop.hop-index none c.of.result.now c.in_ok-seen.seen c.loop-hop-test.true
    (c.of.ensures ∙ ap (λ (s : Seers). slice_index_or s.by_unit (get_or hops c.loop-hop.hop-index none).unit []) c.seers-seers.ensures) c.if-not-seen.false c.in_ok-seen.ensures c.loop-hop.invariant

pub returns-then-not-seen : goal.returns-then-not-seen
returns-then-not-seen g c =
    not_among c.args.trial.system.on.net.now (IsExactIn (λ k. (goal.UnitKind-dyn g k).meaning k.1) c.args.trial) c.of.result.now c.in_ok-seen.seen c.if-not-seen.true c.in_ok-seen.ensures

pub returns : goal.returns
returns g c =
    let net = c.args.trial.system.on.net.now in
    let exact : ℕ → Type 0 = IsExactIn (λ k. (goal.UnitKind-dyn g k).meaning k.1) c.args.trial in
    let lists : List (List ℕ) = c.args.trial.system.flats.now.seers.by_unit in
    let onward : Among net exact c.args.trial.system.flats.now.seers.onward = subst (Among net exact) (c.onward.ensures ∙ ap (λ (s : Seers). s.onward) c.seers-seers.ensures) (c.in_ok-onward.ensures.0 c.if-not-onward.false) in
    all_asked net c.requires.trial.system.kinded.legal.legal c.args.trial.system.flats.now c.requires.trial.system.flat c.args.trial.request.now c.args.trial.placement.now c.args.trial.access (trial_records (λ k. (goal.UnitKind-dyn g k).meaning k.1) c.args.trial)
    (c.in_ok-own.ensures.0 c.if-not-own.false) onward
    (subst (λ (hs : List Hop). (k : ℕ) (d : Hop) → k < length hs → Among net exact (slice_index_or lists (get_or hs k d).unit [])) c.hops-hops.ensures.value (λ k d l. c.loop-hop.invariant k d (omega (arith, l, c.loop-hop-test.false))))
    c.requires.trial.fitted.hops
