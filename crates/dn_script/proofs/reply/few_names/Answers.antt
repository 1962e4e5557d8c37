-- The records of the tables are those of the book.
use Rattle.std.proofs.Common.{◌≡◌, ◌∙◌, ap, sym, subst, length, List, IsTrue}
use Rattle.std.proofs.lemmas.Result.{IfOk-weaker}
use Rattle.dn_base.proofs.Told.{if_some_then}
use Rattle.dn_net.specs.declared.node.Name.{Name}
use Rattle.dn_net.specs.declared.node.NodeDecl.{NodeDecl}
use Rattle.dn_kind.specs.Kind.{Meaning}
use Rattle.dn_kind.specs.Kinded.{kinds_of}
use Rattle.dn_kind.specs.Levels.{are_there}
use Rattle.dn_kind.specs.Tables.{Held, allowing, resolved_names_under}
use Rattle.dn_kind.proofs.Nodes.{resolved_under_there}
use Rattle.dn_tables.specs.declared.table.NodeTable.{NodeTable}
use Rattle.dn_tables.specs.Set.{record_kept}
use Rattle.dn_script.specs.Found.{names_under}
use Rattle.dn_script.proofs.Seen.{held_same}
use Rattle.dn_script.proofs.reply.few_names.Goals as goal

pub returns-clause-names : goal.returns-clause-names
returns-clause-names g c =
    let kinds : List Meaning = kinds_of (λ k. (goal.UnitKind-dyn g k).meaning k.1) c.args.machine.on.kinds.now in
    let net : List NodeDecl = c.args.machine.on.net.now in
    let book = c.args.state.now.book in
    let same : resolved_names_under net (allowing c.args.access (record_kept kinds c.tables-tables.result.now)) c.args.name ≡ names_under net book.grants c.args.access c.args.name =
    ap (λ (s : List NodeTable). resolved_names_under net (allowing c.args.access (record_kept kinds s)) c.args.name) c.tables-tables.ensures
    ∙ ap (λ (h : Held). resolved_names_under net h c.args.name) (held_same net book.grants c.args.access (record_kept kinds book.set) c.requires.ready.state.kept.held) in
    IfOk-weaker c.resolve_few.result _ _ (λ found h. if_some_then found _ _ (λ names e. e ∙ same) h) c.resolve_few.ensures.names

pub returns-clause-there : goal.returns-clause-there
returns-clause-there g c =
    let kinds : List Meaning = kinds_of (λ k. (goal.UnitKind-dyn g k).meaning k.1) c.args.machine.on.kinds.now in
    let net : List NodeDecl = c.args.machine.on.net.now in
    let h : Held = allowing c.args.access (record_kept kinds c.tables-tables.result.now) in
    IfOk-weaker c.resolve_few.result _ _ (λ found is. if_some_then found _ _ (λ names e. subst (λ (l : List Name). IsTrue (are_there (length net) l)) (sym e) (resolved_under_there net h c.args.name)) is) c.resolve_few.ensures.names
