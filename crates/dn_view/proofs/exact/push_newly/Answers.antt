use Rattle.std.proofs.Common.{◌≤◌, ◌⊎◌, ◌↔◌, ℕ, List, IsTrue}
use Rattle.dn_base.proofs.Told.{on_ok_then}
use Rattle.dn_interval.specs.declared.row.End.{End}
use Rattle.dn_interval.specs.declared.row.Seg.{Seg}
use Rattle.dn_interval.specs.declared.span.TheConstants.{TOP}
use Rattle.dn_interval.specs.Strands.{segs_give}
use Rattle.dn_kind.specs.Tables.{Held, AreHeld}
use Rattle.dn_walk.specs.Ends.{name_of_end}
use Rattle.dn_view.specs.Through.{ComesThrough, IsPassedOn}
use Rattle.dn_view.specs.Trials.{course_by, fresh_in, joined_in}
use Rattle.dn_view.proofs.Courses.{course_held}
use Rattle.dn_view.specs.declared.records.Records.TheVariants.{Fresh, Joined}
use Rattle.dn_view.proofs.Passed.{passed_on}
use Rattle.dn_view.proofs.exact.push_newly.Goals as goal

pub returns : goal.returns
returns g c =
    let net = c.args.trial.system.on.net.now in
    let flats = c.args.trial.system.flats.now in
    let fresh : Held = fresh_in (λ k. (goal.UnitKind-dyn g k).meaning k.1) c.args.trial in
    let all : Held = joined_in (λ k. (goal.UnitKind-dyn g k).meaning k.1) c.args.trial in
    let held_fresh : AreHeld net fresh = course_held (λ k. (goal.UnitKind-dyn g k).meaning k.1) (course_by c.args.trial (Fresh c.args.trial.request c.args.trial.placement)) (record { system = c.requires.system; fits = c.requires.fits; fitting = c.requires.fitted }) in
    let held_all : AreHeld net all = course_held (λ k. (goal.UnitKind-dyn g k).meaning k.1) (course_by c.args.trial (Joined c.args.trial.request c.args.trial.placement)) (record { system = c.requires.system; fits = c.requires.fits; fitting = c.requires.fitted }) in
    let was : List Seg = c.args.shown.now.items in
    let mid : List Seg = c.pass.new.out.items in
    let new : List Seg = c.push_through.new.shown.items in
    let stops : List Seg = c.in_ok-stops.stops.items in
    on_ok_then c.push_through.result
    ((a : ℕ) (z : End) → a ≤ TOP → IsTrue (segs_give new a z) ↔ (IsTrue (segs_give mid a z) ⊎ ((s : End) × IsTrue (segs_give stops a s) × ComesThrough net all (name_of_end s) (name_of_end z))))
    ((a : ℕ) (z : End) → a ≤ TOP → IsTrue (segs_give new a z) ↔ (IsTrue (segs_give was a z) ⊎ ((s : End) × IsTrue (segs_give c.args.segs.now a s) × IsPassedOn net fresh all (name_of_end s) (name_of_end z))))
    (λ f a z low. passed_on net c.requires.system.kinded.legal.legal fresh all held_fresh held_all flats c.requires.system.flat (segs_give was a z) (segs_give mid a z) (segs_give new a z) stops c.args.segs.now a z (c.in_ok-pass.ensures a z) (λ t. c.in_ok-stops.ensures a t) (f a z low))
    c.push_through.ensures
