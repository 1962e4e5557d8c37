use Rattle.std.proofs.Common.{◌≡◌, List, subst, sym}
use Rattle.std.proofs.lemmas.Result.{IfOk-weaker}
use Rattle.dn_interval.specs.declared.row.Seg.{Seg}
use Rattle.dn_interval.specs.Rows.{AreNormal, SegmentsGive}
use Rattle.dn_kind.specs.Kinded.{kinds_of}
use Rattle.dn_kind.specs.Tables.{Held}
use Rattle.dn_tables.specs.Set.{record_kept}
use Rattle.dn_place.specs.KeptNames.{AreKeptNames, IsNamed}
use Rattle.dn_place.proofs.Named.{rows_kept}
use Rattle.dn_place.proofs.kept.kept_names.Goals as goal

pub returns-then-not-is_due : goal.returns-then-not-is_due
returns-then-not-is_due g c =
    let net = c.args.system.on.net.now in
    let h : Held = record_kept (kinds_of (λ k. (goal.UnitKind-dyn g k).meaning k.1) c.args.system.on.kinds.now) c.args.tables.now in
    IfOk-weaker c.no_names.result _ (λ rows. AreKeptNames net h c.args.request.now rows) (λ rows k. k net h c.args.request.now) c.no_names.ensures

pub returns : goal.returns
returns g c =
    let net = c.args.system.on.net.now in
    let h : Held = record_kept (kinds_of (λ k. (goal.UnitKind-dyn g k).meaning k.1) c.args.system.on.kinds.now) c.args.tables.now in
    let rq = c.args.request.now in
    let stops : List Seg = c.in_ok-stops.stops.items in
    let own : List Seg = c.in_ok-own.own.items in
    let lent : c.as_slice.result.now ≡ stops = c.as_slice.ensures.value in
    let made : c.as_slice-2.result.now ≡ own = c.as_slice-2.ensures.value in
    IfOk-weaker c.normal.result (λ rows. AreNormal (SegmentsGive c.as_slice-2.result.now) rows) (λ rows. AreKeptNames net h rq rows)
    (λ rows n. rows_kept net h rq c.asked_access-access.result stops own rows c.asked_access-access.ensures c.in_ok-stops.ensures
    (λ x z e. subst (λ (l : List Seg). IsNamed l x z) lent (c.in_ok-own.ensures x z e))
    (subst (λ (l : List Seg). AreNormal (SegmentsGive l) rows) made n))
    c.normal.ensures.normal
