use Rattle.std.proofs.Common.{◌≡◌, ◌-◌, ◌+◌, ◌↔◌, true, subst, sym, List, arith}
use Rattle.dn_base.proofs.Booleans.{means_then}
use Rattle.dn_interval.specs.declared.row.End.{End}
use Rattle.dn_interval.specs.declared.row.Seg.{Seg}
use Rattle.dn_interval.specs.Strands.{segs_give}
use Rattle.dn_kind.specs.Tables.{Held, AreHeld}
use Rattle.dn_net.specs.Decode.{unit_at}
use Rattle.dn_walk.specs.Ends.{name_of_end}
use Rattle.dn_view.specs.declared.records.Records.TheVariants.{Kept}
use Rattle.dn_view.specs.Trials.{course_by, fresh_in, joined_in, kept_in, trial_records}
use Rattle.dn_view.specs.Untouched.{comes_on}
use Rattle.dn_view.proofs.Unmet.{kept_onward}
use Rattle.dn_view.proofs.Courses.{course_held}
use Rattle.dn_view.proofs.Passed.{NewlyComes, newly_next, newly_end, newly_whole, one_less, both_turned}
use Rattle.dn_view.proofs.exact.newly_shown.Goals as goal

pub loop-init : goal.loop-init
loop-init g c a z low = ((λ x. x), (λ x. x))

pub loop-preserved : goal.loop-preserved
loop-preserved g c a z low =
    let net = c.args.trial.system.on.net.now in
    let old : Held = kept_in (λ k. (goal.UnitKind-dyn g k).meaning k.1) c.args.trial in
    let fresh : Held = fresh_in (λ k. (goal.UnitKind-dyn g k).meaning k.1) c.args.trial in
    let all : Held = joined_in (λ k. (goal.UnitKind-dyn g k).meaning k.1) c.args.trial in
    let held : AreHeld net old = course_held (λ k. (goal.UnitKind-dyn g k).meaning k.1) (course_by c.args.trial Kept) (record { system = c.requires.system; fits = c.requires.fits; fitting = tt }) in
    let shown' : List Seg = c.push_newly.new.shown.items in
    let level' : List Seg = c.in_ok-level.level.items in
    let onward : List Seg = c.in_ok-onward.onward.items in
    let legal = c.requires.system.kinded.legal.legal in
    let flats = c.args.trial.system.flats.now in
    let flat = c.requires.system.flat in
    let same : c.as_slice-segs.result.now ≡ c.loop.level.items = c.as_slice-segs.ensures.value in
    let given : (s : End) → segs_give onward a s ≡ true → segs_give c.loop.level.items a s ≡ true = λ s e. subst (λ (l : List Seg). segs_give l a s ≡ true) same (c.in_ok-onward.ensures.given a s e) in
    let met : (s : End) → segs_give c.loop.level.items a s ≡ true → comes_on net flats c.args.trial.placement.now.hops (unit_at net s.node) ≡ true → segs_give onward a s ≡ true = λ s e f. c.in_ok-onward.ensures.met a s (subst (λ (l : List Seg). segs_give l a s ≡ true) (sym same) e) f in
    means_then (c.loop.invariant a z low)
    (subst (λ n. NewlyComes net old fresh all c.loop.shown.items c.loop.level.items n a z ↔ NewlyComes net old fresh all shown' level' (3 - (c.loop.counter + 1)) a z) (sym (one_less c.loop.counter c.loop-test.true))
    (newly_next net legal old fresh all held flats flat c.loop.shown.items shown' c.loop.level.items onward level' (3 - (c.loop.counter + 1)) a z
    (rw c.as_slice-segs.ensures.value at (c.in_ok-push_newly.ensures a z low))
    (λ s e. given s e)
    (λ s e k. kept_onward net legal flats flat c.args.trial.request.now c.args.trial.placement.now c.args.trial.access (trial_records (λ k. (goal.UnitKind-dyn g k).meaning k.1) c.args.trial) (3 - (c.loop.counter + 1)) (name_of_end s) (name_of_end z) (segs_give onward a s) (λ f. met s e f) k)
    (λ t. rw c.as_slice-rest.ensures.value at (c.in_ok-level.ensures a t))))

pub returns : goal.returns
returns g c a z low =
    let net = c.args.trial.system.on.net.now in
    let old : Held = kept_in (λ k. (goal.UnitKind-dyn g k).meaning k.1) c.args.trial in
    let fresh : Held = fresh_in (λ k. (goal.UnitKind-dyn g k).meaning k.1) c.args.trial in
    let all : Held = joined_in (λ k. (goal.UnitKind-dyn g k).meaning k.1) c.args.trial in
    let none : 3 - c.loop.counter ≡ 0 = (let t = c.loop-test.false in omega arith) in
    both_turned (means_then (both_turned (newly_whole net old fresh all c.new-shown.result.items c.args.stops.items a z c.new-shown.ensures.items)) (means_then (c.loop.invariant a z low) (subst (λ n. NewlyComes net old fresh all c.loop.shown.items c.loop.level.items n a z ↔ (segs_give c.loop.shown.items a z ≡ true)) (sym none) (newly_end net old fresh all c.loop.shown.items c.loop.level.items a z))))
