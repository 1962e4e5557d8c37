-- What the segment's first name comes to.
use Rattle.std.proofs.Common.{◌<◌, ◌≤◌, sym, subst, length, List, arith}
use Rattle.dn_interval.specs.declared.span.TheConstants.{TOP}
use Rattle.dn_interval.specs.Strands.{segs_give}
use Rattle.dn_kind.specs.Kind.{Meaning}
use Rattle.dn_kind.specs.Kinded.{kinds_of}
use Rattle.dn_kind.specs.Tables.{Held, AreHeld, allowing}
use Rattle.dn_kind.proofs.Ways.{allowing_held}
use Rattle.dn_flat.specs.Levels.{levels_give, shows}
use Rattle.dn_tables.specs.Set.{record_kept}
use Rattle.dn_view.specs.Passes.{stops_of}
use Rattle.dn_view.proofs.Courses.{system_held}
use Rattle.dn_view.proofs.Single.{at_first}
use Rattle.dn_view.proofs.Viewed.{seen_at}
use Rattle.dn_view.proofs.resolve.shown_at.Goals as goal

pub returns : goal.returns
returns g c =
    let kinds : List Meaning = kinds_of (λ k. (goal.UnitKind-dyn g k).meaning k.1) c.args.system.on.kinds.now in
    let net = c.args.system.on.net.now in
    let flats = c.args.system.flats.now in
    let s = c.args.seg in
    let h : Held = allowing c.args.access (record_kept kinds c.args.tables.now) in
    let held : AreHeld net h = allowing_held net (record_kept kinds c.args.tables.now) c.args.access (system_held (λ k. (goal.UnitKind-dyn g k).meaning k.1) c.args.system c.args.tables.now c.requires.system c.requires.fits) in
    let there : s.node < length flats.nodes = subst (λ n. s.node < n) (sym c.requires.system.flat.every) c.requires.there in
    let low : s.base ≤ TOP = (let f = s.fits in omega (arith, f)) in
    let first : s.span.lo ≤ TOP = (let o = s.span.ordered in let w = s.span.within in omega (arith, o, w)) in
    let accepts = at_first c.new-shown.result.items c.push_accepted.new.segs.items s (shows flats s.node) c.new-shown.ensures.items c.in_ok-push_accepted.ensures in
    let stops = at_first c.new-stops.result.items c.push_stops.new.segs.items s (levels_give (stops_of flats s.node)) c.new-stops.ensures.items c.in_ok-push_stops.ensures in
    seen_at net c.requires.system.kinded.legal.legal h held flats c.requires.system.flat s.node there s.base low (segs_give c.push_accepted.new.segs.items s.span.lo) (segs_give c.push_stops.new.segs.items s.span.lo) (segs_give c.push_through.new.shown.items s.span.lo) accepts stops (λ z. c.in_ok-push_through.ensures s.span.lo z first)
