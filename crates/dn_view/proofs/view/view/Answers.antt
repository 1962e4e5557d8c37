use Rattle.std.proofs.Common.{◌≡◌, ◌≤◌, ◌<◌, ◌↔◌, ℕ, true, sym, subst, length, List, IsTrue}
use Rattle.std.proofs.lemmas.Result.{IfOk-weaker}
use Rattle.dn_interval.specs.declared.row.End.{End}
use Rattle.dn_interval.specs.declared.row.Seg.{Seg}
use Rattle.dn_interval.specs.declared.span.TheConstants.{TOP}
use Rattle.dn_interval.specs.Rows.{AreNormal, SegmentsGive, ends_within}
use Rattle.dn_interval.specs.Strands.{segs_give}
use Rattle.dn_kind.specs.Kind.{Meaning}
use Rattle.dn_kind.specs.Kinded.{kinds_of}
use Rattle.dn_kind.specs.Tables.{Held, AreHeld, allowing}
use Rattle.dn_kind.proofs.Ways.{allowing_held}
use Rattle.dn_tables.specs.Set.{record_kept}
use Rattle.dn_view.specs.Views.{ResolvesFromUnder}
use Rattle.dn_view.proofs.Courses.{system_held}
use Rattle.dn_view.proofs.Viewed.{viewed, view_rows, view_within}
use Rattle.dn_view.proofs.view.view.Goals as goal

pub returns-clause-rows : goal.returns-clause-rows
returns-clause-rows g c =
    let kinds : List Meaning = kinds_of (λ k. (goal.UnitKind-dyn g k).meaning k.1) c.args.system.on.kinds.now in
    let net = c.args.system.on.net.now in
    let h : Held = allowing c.args.access (record_kept kinds c.args.tables.now) in
    let held : AreHeld net h = allowing_held net (record_kept kinds c.args.tables.now) c.args.access (system_held (λ k. (goal.UnitKind-dyn g k).meaning k.1) c.args.system c.args.tables.now c.requires.system c.requires.fits) in
    let there : c.args.node < length c.args.system.flats.now.nodes = subst (λ n. c.args.node < n) (sym c.requires.system.flat.every) c.requires.there in
    let shown : List Seg = c.push_units.new.shown.items in
    let same : (a : ℕ) (z : End) → a ≤ TOP → (segs_give shown a z ≡ true) ↔ ResolvesFromUnder net h c.args.node a z = viewed net c.requires.system.kinded.legal.legal h held c.args.system.flats.now c.requires.system.flat c.args.node there c.in_ok-shown.shown.items shown c.in_ok-shown.ensures c.in_ok-push_units.ensures in
    IfOk-weaker c.normal.result (λ rows. AreNormal (SegmentsGive c.as_slice.result.now) rows) (λ rows. AreNormal (ResolvesFromUnder net h c.args.node) rows)
    (λ rows n. view_rows net h c.args.node shown rows same (subst (λ (s : List Seg). AreNormal (SegmentsGive s) rows) c.as_slice.ensures.value n))
    c.normal.ensures.normal

pub returns-clause-within : goal.returns-clause-within
returns-clause-within g c =
    let kinds : List Meaning = kinds_of (λ k. (goal.UnitKind-dyn g k).meaning k.1) c.args.system.on.kinds.now in
    let net = c.args.system.on.net.now in
    let h : Held = allowing c.args.access (record_kept kinds c.args.tables.now) in
    IfOk-weaker c.normal.result (λ rows. AreNormal (ResolvesFromUnder net h c.args.node) rows) (λ rows. IsTrue (ends_within (length net) rows))
    (λ rows n. view_within net h c.args.node rows n)
    (returns-clause-rows g c)
