use Rattle.std.proofs.Common.{◌≡◌, ◌∙◌, ap, sym, subst, map, length, List, Bool, if◌then◌else◌, slice_get, IsTrue}
use Rattle.std.proofs.lemmas.List.{length-map}
use Rattle.dn_interval.specs.declared.row.Row.{Row}
use Rattle.dn_interval.specs.Listed.{seen_view}
use Rattle.dn_net.specs.declared.node.NodeDecl.{NodeDecl}
use Rattle.dn_net.specs.Decode.{is_agent_at}
use Rattle.dn_kind.specs.Kinded.{kinds_of}
use Rattle.dn_kind.specs.declared.rights.Access.TheVariants.{Read as reading}
use Rattle.dn_kind.specs.Kind.{Meaning}
use Rattle.dn_kind.specs.Tables.{allowing}
use Rattle.dn_tables.specs.declared.table.NodeTable.{NodeTable}
use Rattle.dn_tables.specs.Set.{record_kept}
use Rattle.dn_view.specs.Views.{AreViewed}
use Rattle.dn_script.specs.Viewed.{owed_rows}
use Rattle.dn_script.proofs.Seen.{rows_are_owed}
use Rattle.dn_tool.proofs.demo.node_rows.Goals as goal

pub returns : goal.returns
returns g c =
    let kinds : List Meaning = kinds_of (λ k. (goal.UnitKind-dyn g k).meaning k.1) c.args.machine.on.kinds.now in
    let net : List NodeDecl = c.args.machine.on.net.now in
    let book = c.args.state.now.book in
    let rows : List Row = c.in_ok-seen.seen in
    let normal : AreViewed net (allowing reading (record_kept kinds book.set)) c.args.node rows = subst (λ (s : List NodeTable). AreViewed net (allowing reading (record_kept kinds s)) c.args.node rows) c.tables.ensures c.in_ok-seen.ensures.rows in
    let agent : IsTrue (is_agent_at (slice_get net c.args.node)) = sym c.if-not-is_agent.ensures in
    let owed : map seen_view rows ≡ owed_rows net book.grants reading c.args.node = rows_are_owed net book.grants reading c.args.node (record_kept kinds book.set) rows c.requires.ready.state.faithful agent c.requires.ready.state.kept.held normal in
    ap length c.rows.ensures.value
    ∙ sym (length-map rows seen_view)
    ∙ ap length owed
    ∙ ap (λ (b : Bool). if b then length (owed_rows net book.grants reading c.args.node) else 0) (sym agent)
