use Rattle.std.proofs.Common.{◌≡◌, ◌↔◌, true}
use Rattle.std.proofs.lemmas.Result.{IfOk-weaker}
use Rattle.dn_kind.specs.Kinded.{kinds_of}
use Rattle.dn_kind.specs.declared.rights.Access.TheVariants.{Read, Write}
use Rattle.dn_kind.specs.Tables.{Held}
use Rattle.dn_placement.specs.Exposure.{IsAdmissible}
use Rattle.dn_tables.specs.Set.{record_kept}
use Rattle.dn_view.specs.Exact.{AreExact}
use Rattle.dn_view.proofs.Courses.{system_exact}
use Rattle.dn_view.proofs.Exposed.{exact_both, not_exact}
use Rattle.dn_view.proofs.exact.exact.Goals as goal

pub returns-then-not-reads : goal.returns-then-not-reads
returns-then-not-reads g c =
    let all = system_exact (λ k. (goal.UnitKind-dyn g k).meaning k.1) c.args.system c.args.tables.now c.args.request.now c.args.placement.now c.requires.system c.requires.fits c.facts.ensures c.requires.rights c.requires.placed in
    record { exact = not_exact c.args.system.on.net.now (record_kept (kinds_of (λ k. (goal.UnitKind-dyn g k).meaning k.1) c.args.system.on.kinds.now) c.args.tables.now) c.args.request.now c.args.placement.now Read all c.in_ok-reads.reads c.if-not-reads.true c.in_ok-reads.ensures }

pub returns : goal.returns
returns g c =
    let net = c.args.system.on.net.now in
    let h : Held = record_kept (kinds_of (λ k. (goal.UnitKind-dyn g k).meaning k.1) c.args.system.on.kinds.now) c.args.tables.now in
    let rq = c.args.request.now in
    let p = c.args.placement.now in
    let all = system_exact (λ k. (goal.UnitKind-dyn g k).meaning k.1) c.args.system c.args.tables.now rq p c.requires.system c.requires.fits c.facts.ensures c.requires.rights c.requires.placed in
    let reads : AreExact net h rq p Read = c.in_ok-reads.ensures.0 c.if-not-reads.false in
    record { exact = IfOk-weaker c.exact_for-2.result (λ w. (w ≡ true) ↔ AreExact net h rq p Write) (λ w. (w ≡ true) ↔ IsAdmissible net h rq p) (λ w e. exact_both net h rq p all w reads e) c.exact_for-2.ensures }
