use Rattle.std.proofs.Common.{◌≡◌, ◌≤◌, ◌∙◌, ℕ, true, false, ap, sym, subst, List, slice_get, IsTrue}
use Rattle.std.specs.List.{list_any}
use Rattle.std.proofs.lemmas.Result.{IfOk-weaker}
use Rattle.dn_interval.specs.declared.row.End.{End}
use Rattle.dn_interval.specs.declared.row.Row.{Row}
use Rattle.dn_interval.specs.declared.span.TheConstants.{TOP}
use Rattle.dn_interval.specs.Strands.{segs_give}
use Rattle.dn_walk.specs.Ends.{name_of_end}
use Rattle.dn_flat.specs.Levels.{levels_give, stops_in, units_in}
use Rattle.dn_view.specs.Near.{hops_near}
use Rattle.dn_view.specs.Passes.{stops_of}
use Rattle.dn_view.specs.Trials.{ComesIn, trial_records}
use Rattle.dn_view.specs.Untouched.{leads_on}
use Rattle.dn_view.proofs.MetHops.{near_given, near_hops}
use Rattle.dn_view.proofs.Unmet.{by_own_slot, unlisted}
use Rattle.dn_view.proofs.Viewed.{unit_listed}
use Rattle.dn_view.proofs.met.met_stops.Goals as goal

pub returns-then-some_lead_on-clause-given : goal.returns-then-some_lead_on-clause-given
returns-then-some_lead_on-clause-given g c =
    IfOk-weaker c.node_stops.result (λ segs. (a : ℕ) (z : End) → a ≤ TOP → segs_give segs.items a z ≡ levels_give (stops_of c.args.trial.system.flats.now c.args.node) a z) (λ segs. (a : ℕ) (s : End) → a ≤ TOP → IsTrue (segs_give segs.items a s) → IsTrue (levels_give (stops_of c.args.trial.system.flats.now c.args.node) a s))
    (λ segs f a s low e. sym (f a s low) ∙ e)
    c.node_stops.ensures

pub returns-then-some_lead_on-clause-met : goal.returns-then-some_lead_on-clause-met
returns-then-some_lead_on-clause-met g c =
    IfOk-weaker c.node_stops.result (λ segs. (a : ℕ) (z : End) → a ≤ TOP → segs_give segs.items a z ≡ levels_give (stops_of c.args.trial.system.flats.now c.args.node) a z) (λ segs. (a : ℕ) (s z : End) → a ≤ TOP → IsTrue (levels_give (stops_of c.args.trial.system.flats.now c.args.node) a s) → ComesIn (λ k. (goal.UnitKind-dyn g k).meaning k.1) c.args.trial (name_of_end s) (name_of_end z) → IsTrue (segs_give segs.items a s))
    (λ segs f a s z low e k. f a s low ∙ e)
    c.node_stops.ensures

pub returns-clause-given : goal.returns-clause-given
returns-clause-given g c =
    let net = c.args.trial.system.on.net.now in
    let size = c.args.trial.request.now.size in
    let hops = c.args.trial.placement.now.hops in
    let stops : List (List Row) = c.as_slice-stops.result.now in
    let same : stops ≡ stops_of c.args.trial.system.flats.now c.args.node = c.as_slice-stops.ensures ∙ sym (ap stops_in c.of-levels.ensures) in
    IfOk-weaker c.hop_stops.result (λ segs. (a : ℕ) (z : End) → segs_give segs.items a z ≡ hops_near net size hops stops a z) (λ segs. (a : ℕ) (s : End) → a ≤ TOP → IsTrue (segs_give segs.items a s) → IsTrue (levels_give (stops_of c.args.trial.system.flats.now c.args.node) a s))
    (λ segs f a s low e. subst (λ (ls : List (List Row)). levels_give ls a s ≡ true) same (near_given net size hops stops a s (sym (f a s) ∙ e)))
    c.hop_stops.ensures

pub returns-clause-met : goal.returns-clause-met
returns-clause-met g c =
    let net = c.args.trial.system.on.net.now in
    let legal = c.requires.trial.system.kinded.legal.legal in
    let flats = c.args.trial.system.flats.now in
    let flat = c.requires.trial.system.flat in
    let rq = c.args.trial.request.now in
    let p = c.args.trial.placement.now in
    let h = trial_records (λ k. (goal.UnitKind-dyn g k).meaning k.1) c.args.trial in
    let stops : List (List Row) = c.as_slice-stops.result.now in
    let same : stops ≡ stops_of flats c.args.node = c.as_slice-stops.ensures ∙ sym (ap stops_in c.of-levels.ensures) in
    let units = c.as_slice-units.ensures ∙ sym (ap units_in c.of-levels.ensures) in
    let none : list_any (leads_on net flats) (units_in (slice_get flats.nodes c.args.node)) ≡ false = ap (list_any (leads_on net flats)) (sym units) ∙ sym c.if-some_lead_on.ensures in
    IfOk-weaker c.hop_stops.result (λ segs. (a : ℕ) (z : End) → segs_give segs.items a z ≡ hops_near net rq.size p.hops stops a z) (λ segs. (a : ℕ) (s z : End) → a ≤ TOP → IsTrue (levels_give (stops_of flats c.args.node) a s) → ComesIn (λ k. (goal.UnitKind-dyn g k).meaning k.1) c.args.trial (name_of_end s) (name_of_end z) → IsTrue (segs_give segs.items a s))
    (λ segs f a s z low e k.
    let own = by_own_slot net legal flats flat rq p c.args.trial.access h (name_of_end s) (name_of_end z) (unlisted (leads_on net flats) (units_in (slice_get flats.nodes c.args.node)) s.node none (unit_listed net flats flat c.args.node c.requires.there a s low e)) k in
    f a s ∙ near_hops net rq p c.requires.trial.fitted c.args.trial.access h stops a s own.0 (subst (λ (ls : List (List Row)). levels_give ls a s ≡ true) (sym same) e) own.1)
    c.hop_stops.ensures
