use Rattle.std.proofs.Common.{List, sym, subst}
use Rattle.dn_kind.specs.Kinded.{kinds_of}
use Rattle.dn_kind.specs.Tables.{Held}
use Rattle.dn_tables.specs.Set.{record_kept}
use Rattle.dn_audit.specs.declared.report.Seen.{Seen}
use Rattle.dn_audit.specs.Views.{AreSeen}
use Rattle.dn_audit.proofs.Viewers.{seen_more}
use Rattle.dn_audit.proofs.views.push_view.Goals as goal

pub returns-in_ok-push-clause-seen : goal.returns-in_ok-push-clause-seen
returns-in_ok-push-clause-seen g c =
    let h : Held = record_kept (kinds_of (λ k. (goal.UnitKind-dyn g k).meaning k.1) c.args.system.on.kinds.now) c.args.tables.now in
    subst (λ (vs : List Seen). AreSeen c.args.system.on.net.now h vs) (sym c.in_ok-push.ensures.ok) (seen_more c.args.system.on.net.now h c.args.views.now _ c.requires.seen c.in_ok-rows.ensures.rows)
