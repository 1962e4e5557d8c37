use Rattle.std.proofs.Common.{◌≡◌, ◌≤◌, ◌<◌, ◌↔◌, ℕ, true, nat_eq, ◌==◌, subst, sym, length, List, eqb-true, rules, slice_get, IsTrue}
use Rattle.dn_interval.specs.declared.row.End.{End}
use Rattle.dn_interval.specs.declared.row.Seg.{Seg}
use Rattle.dn_interval.specs.declared.span.TheConstants.{TOP}
use Rattle.dn_interval.specs.Strands.{segs_give}
use Rattle.dn_kind.specs.Rights.{allows}
use Rattle.dn_view.specs.Exact.{IsAdded, IsAskedAt, IsExactAt}
use Rattle.dn_view.specs.Trials.{IsExactIn, trial_records}
use Rattle.dn_view.proofs.Agents.{an_agent, no_agent}
use Rattle.std.proofs.lemmas.Bool.{and_parts}
use Rattle.std.proofs.lemmas.Result.{IfOk-weaker}
use Rattle.dn_base.proofs.Booleans.{means_then}
use Rattle.dn_net.specs.Decode.{is_agent_at}
use Rattle.dn_net.proofs.Stops.{agent_there}
use Rattle.dn_walk.specs.Ends.{name_of_end}
use Rattle.dn_view.proofs.Added.{added_is, not_asked}
use Rattle.dn_view.proofs.Buffers.{exact_buffer, exact_none}
use Rattle.dn_view.proofs.exact.exact_at.Given.{Over}
use Rattle.dn_view.proofs.exact.exact_at.Goals.{In_ok-shown}
use Rattle.dn_view.proofs.exact.exact_at.Goals as goal

-- what is shown newly is what is added
added : (g : Over) (c : In_ok-shown g) (a : ℕ) (z : End) → a ≤ TOP → (segs_give c.in_ok-shown.shown.items a z ≡ true) ↔ IsAdded c.args.trial.system.on.net.now (trial_records (λ k. (goal.UnitKind-dyn g k).meaning k.1) c.args.trial) c.args.trial.request.now c.args.trial.placement.now c.args.trial.access (record { node = c.args.node; addr = a }) (name_of_end z)
added g c =
    let there : c.args.node < length c.args.trial.system.flats.now.nodes = subst (λ n. c.args.node < n) (sym c.requires.trial.system.flat.every) (agent_there c.args.trial.system.on.net.now c.args.node (sym c.if-not-is_agent.ensures)) in
    added_is c.args.trial.system.on.net.now (trial_records (λ k. (goal.UnitKind-dyn g k).meaning k.1) c.args.trial) c.args.trial.request.now c.args.trial.placement.now c.args.trial.access c.args.node c.args.trial.system.flats.now c.requires.trial.system.flat there c.in_ok-stops.stops.items c.in_ok-shown.shown.items c.in_ok-stops.ensures.given c.in_ok-stops.ensures.met c.in_ok-shown.ensures

pub returns-then-not-is_agent : goal.returns-then-not-is_agent
returns-then-not-is_agent g c =
    no_agent c.args.trial.system.on.net.now (IsExactIn (λ k. (goal.UnitKind-dyn g k).meaning k.1) c.args.trial) c.args.node (sym c.if-not-is_agent.ensures)

pub returns-then-is_asked : goal.returns-then-is_asked
returns-then-is_asked g c =
    let h = trial_records (λ k. (goal.UnitKind-dyn g k).meaning k.1) c.args.trial in
    let rq = c.args.trial.request.now in
    let p = c.args.trial.placement.now in
    let shown = c.in_ok-shown.shown.items in
    let asked = and_parts (nat_eq c.args.node rq.agent) (allows rq.rights c.args.trial.access) (sym c.if-is_asked.ensures) in
    let exact = exact_buffer c.args.trial.system.on.net.now h rq p c.args.trial.access c.args.node shown (eqb-true c.args.node rq.agent asked.0) asked.1 (added g (goal.at.returns-then-is_asked g c).In_ok-shown) in
    IfOk-weaker c.show_buffer.result (λ show. (show ≡ true) ↔ ((a : ℕ) (z : End) → a ≤ TOP → (segs_give c.as_slice-segs.result.now a z ≡ true) ↔ IsAskedAt rq c.v.result a z)) (λ show. (show ≡ true) ↔ (IsTrue (is_agent_at (slice_get c.args.trial.system.on.net.now c.args.node)) → IsExactIn (λ k. (goal.UnitKind-dyn g k).meaning k.1) c.args.trial c.args.node))
    (λ show f. an_agent c.args.trial.system.on.net.now (IsExactIn (λ k. (goal.UnitKind-dyn g k).meaning k.1) c.args.trial) c.args.node (sym c.if-not-is_agent.ensures)
    (means_then (subst (λ (s : List Seg). (show ≡ true) ↔ ((a : ℕ) (z : End) → a ≤ TOP → (segs_give s a z ≡ true) ↔ IsAskedAt rq p.v a z)) c.as_slice-segs.ensures.value (subst (λ v. (show ≡ true) ↔ ((a : ℕ) (z : End) → a ≤ TOP → (segs_give c.as_slice-segs.result.now a z ≡ true) ↔ IsAskedAt rq v a z)) c.v.ensures f)) exact))
    c.show_buffer.ensures

pub returns : goal.returns
returns g c =
    let h = trial_records (λ k. (goal.UnitKind-dyn g k).meaning k.1) c.args.trial in
    let rq = c.args.trial.request.now in
    let p = c.args.trial.placement.now in
    let same : c.is_empty.result ≡ (length c.in_ok-shown.shown.items == 0) = search rules in
    an_agent c.args.trial.system.on.net.now (IsExactIn (λ k. (goal.UnitKind-dyn g k).meaning k.1) c.args.trial) c.args.node (sym c.if-not-is_agent.ensures)
    (subst (λ b. (b ≡ true) ↔ IsExactAt c.args.trial.system.on.net.now h rq p c.args.trial.access c.args.node) (sym same)
    (exact_none c.args.trial.system.on.net.now h rq p c.args.trial.access c.args.node c.in_ok-shown.shown.items (not_asked c.args.trial.system.on.net.now h rq p c.args.trial.access c.args.node (sym c.if-is_asked.ensures)) (added g (goal.at.returns g c).In_ok-shown)))
