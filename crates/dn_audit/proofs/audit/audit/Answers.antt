use Rattle.std.proofs.Common.{◌∙◌, Ok, List, Option, ap, refl, sym, rules}
use Rattle.dn_base.proofs.Told.{if_some_then}
use Rattle.dn_kind.specs.Kind.{Meaning}
use Rattle.dn_kind.specs.Kinded.{kinds_of}
use Rattle.dn_image.specs.Image.{ImageWords}
use Rattle.dn_image.specs.Reading.{BrokenImage, broken_image, image_fault_view, image_words, version_of}
use Rattle.dn_audit.specs.Told.{told_by}
use Rattle.dn_audit.proofs.Checked.{broken_told, is_broken, whole_reading}
use Rattle.dn_audit.proofs.Nodes.{within_nodes}
use Rattle.dn_audit.proofs.Told.{reports_are_told}
use Rattle.dn_audit.proofs.audit.audit.Goals as goal

pub returns-in-Ok-report-clause-audited : goal.returns-in-Ok-report-clause-audited
returns-in-Ok-report-clause-audited g c =
    let net = c.args.system.on.net.now in
    let kinds : List Meaning = kinds_of (λ k. (goal.UnitKind-dyn g k).meaning k.1) c.args.system.on.kinds.now in
    let i : ImageWords = record { version = c.in-Ok.version; words = image_words net kinds c.args.image.now } in
    (i, whole_reading net kinds c.args.image.now c.in-Ok.version i c.in-Ok.ensures.exact refl, c.in-Ok-report.ensures.report)

pub returns-in-Ok-report-clause-told : goal.returns-in-Ok-report-clause-told
returns-in-Ok-report-clause-told g c =
    let net = c.args.system.on.net.now in
    let kinds : List Meaning = kinds_of (λ k. (goal.UnitKind-dyn g k).meaning k.1) c.args.system.on.kinds.now in
    let i : ImageWords = record { version = c.in-Ok.version; words = image_words net kinds c.args.image.now } in
    ap (told_by net kinds c.args.image.now) (whole_reading net kinds c.args.image.now c.in-Ok.version i c.in-Ok.ensures.exact refl)
    ∙ ap Ok (sym (reports_are_told net kinds c.args.image.now i c.in-Ok-report.report c.in-Ok-report.ensures.report))

pub returns-in-Ok-report-clause-within : goal.returns-in-Ok-report-clause-within
returns-in-Ok-report-clause-within g c =
    let net = c.args.system.on.net.now in
    let kinds : List Meaning = kinds_of (λ k. (goal.UnitKind-dyn g k).meaning k.1) c.args.system.on.kinds.now in
    let i : ImageWords = record { version = c.in-Ok.version; words = image_words net kinds c.args.image.now } in
    within_nodes net kinds c.args.image.now i c.in-Ok-report.report c.in-Ok-report.ensures.report c.in-Ok-report.ensures.within

pub returns-in-Err-clause-audited : goal.returns-in-Err-clause-audited
returns-in-Err-clause-audited g c =
    let net = c.args.system.on.net.now in
    let kinds : List Meaning = kinds_of (λ k. (goal.UnitKind-dyn g k).meaning k.1) c.args.system.on.kinds.now in
    is_broken (broken_image net kinds c.args.image.now) (version_of c.args.image.now) c.in-Err.fault c.in-Err.ensures.exact (search rules)

pub returns-in-Err-clause-told : goal.returns-in-Err-clause-told
returns-in-Err-clause-told g c =
    let net = c.args.system.on.net.now in
    let kinds : List Meaning = kinds_of (λ k. (goal.UnitKind-dyn g k).meaning k.1) c.args.system.on.kinds.now in
    let o : Option BrokenImage = broken_image net kinds c.args.image.now in
    let x : ImageWords = record { version = version_of c.args.image.now; words = image_words net kinds c.args.image.now } in
    if_some_then (image_fault_view c.in-Err.fault) _ _ (λ b e. broken_told net kinds c.args.image.now o (version_of c.args.image.now) x b e) c.in-Err.ensures.exact
