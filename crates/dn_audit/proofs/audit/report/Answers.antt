use Rattle.std.proofs.Common.{◌≡◌, List, subst, rules}
use Rattle.dn_kind.specs.Kind.{Meaning}
use Rattle.dn_kind.specs.Kinded.{kinds_of}
use Rattle.dn_kind.specs.Tables.{Held}
use Rattle.dn_tables.specs.Set.{record_kept}
use Rattle.dn_image.specs.Image.{ImageWords}
use Rattle.dn_image.specs.Reading.{image_words}
use Rattle.dn_audit.specs.declared.report.Seen.{Seen}
use Rattle.dn_audit.specs.Claims.{views_have}
use Rattle.dn_audit.specs.Records.{image_records}
use Rattle.dn_audit.specs.Shared.{AreSharedBy}
use Rattle.dn_audit.specs.Views.{AreSeen}
use Rattle.dn_audit.proofs.Seeing.{names_shared}
use Rattle.dn_audit.proofs.audit.report.Goals as goal

pub returns-clause-report : goal.returns-clause-report
returns-clause-report g c =
    let net = c.args.system.on.net.now in
    let kinds : List Meaning = kinds_of (λ k. (goal.UnitKind-dyn g k).meaning k.1) c.args.system.on.kinds.now in
    let i : ImageWords = record { version = c.args.version; words = image_words net kinds c.args.bytes.now } in
    let h : Held = image_records net kinds i in
    let same : ◌≡◌ {A = Held} (record_kept kinds c.in_ok-tables.tables) h = λ j n q. c.in_ok-tables.ensures.holds n q j in
    let seen : AreSeen net h c.in_ok-views.views = subst (λ (k : Held). AreSeen net k c.in_ok-views.views) same c.in_ok-views.ensures.seen in
    let lent : c.as_slice.result.now ≡ c.in_ok-views.views = search rules in
    let shared = subst (λ (l : List Seen). AreSharedBy (views_have l) c.in_ok-shared.shared) lent c.in_ok-shared.ensures in
    record {
      size = search rules;
      records = c.in_ok-tables.ensures.records;
      viewers = c.in_ok-views.ensures.viewers;
      views = seen;
      shut = c.in_ok-tables.ensures.shut;
      shared = names_shared net h c.in_ok-views.views c.in_ok-shared.shared c.in_ok-views.ensures.viewers seen shared;
    }
