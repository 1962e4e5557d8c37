use Rattle.std.proofs.Common.{rules, ◌≡◌, ◌∙◌, ap, sym, subst, length, List, IfOk, IsTrue}
use Rattle.std.specs.String.{string_bytes}
use Rattle.dn_net.specs.declared.node.Name.{Name}
use Rattle.dn_net.specs.declared.node.NodeDecl.{NodeDecl}
use Rattle.dn_kind.specs.Kind.{Meaning}
use Rattle.dn_kind.specs.Kinded.{kinds_of}
use Rattle.dn_kind.specs.Levels.{are_there}
use Rattle.dn_kind.specs.Tables.{Held, allowing, resolved_names_under}
use Rattle.dn_kind.proofs.Nodes.{resolved_under_there}
use Rattle.dn_tables.specs.declared.table.NodeTable.{NodeTable}
use Rattle.dn_tables.specs.Set.{record_kept}
use Rattle.dn_print.specs.Names.{names_text}
use Rattle.dn_script.specs.Found.{names_under}
use Rattle.dn_script.proofs.Seen.{held_same}
use Rattle.dn_script.proofs.reply.node_names.Goals as goal

pub names_of-requires-2 : goal.names_of-requires-2
names_of-requires-2 g c =
    let kinds : List Meaning = kinds_of (λ k. (goal.UnitKind-dyn g k).meaning k.1) c.args.machine.on.kinds.now in
    let net : List NodeDecl = c.args.machine.on.net.now in
    let h : Held = allowing c.args.access (record_kept kinds c.tables.result.now) in
    let found : c.list-2.result.now ≡ resolved_names_under net h c.args.name = c.list-2.ensures.value ∙ c.in_ok-found-2.ensures.names in
    subst (λ (l : List Name). IsTrue (are_there (length net) l)) (sym found) (resolved_under_there net h c.args.name)

pub returns-clause-reply : goal.returns-clause-reply
returns-clause-reply g c =
    let kinds : List Meaning = kinds_of (λ k. (goal.UnitKind-dyn g k).meaning k.1) c.args.machine.on.kinds.now in
    let net : List NodeDecl = c.args.machine.on.net.now in
    let book = c.args.state.now.book in
    let found : c.list-2.result.now ≡ names_under net book.grants c.args.access c.args.name =
    c.list-2.ensures.value
    ∙ c.in_ok-found-2.ensures.names
    ∙ ap (λ (s : List NodeTable). resolved_names_under net (allowing c.args.access (record_kept kinds s)) c.args.name) c.tables.ensures
    ∙ ap (λ (h : Held). resolved_names_under net h c.args.name) (held_same net book.grants c.args.access (record_kept kinds book.set) c.requires.ready.state.kept.held) in
    subst (λ (l : List Name). IfOk c.names_of-2.result (λ s. string_bytes s ≡ names_text net l)) found c.names_of-2.ensures

pub returns-in-Some-clause-reply : goal.returns-in-Some-clause-reply
returns-in-Some-clause-reply g c =
    let net : List NodeDecl = c.args.machine.on.net.now in
    let found : c.list.result.now ≡ names_under net c.args.state.now.book.grants c.args.access c.args.name = search rules in
    subst (λ (l : List Name). IfOk c.names_of.result (λ s. string_bytes s ≡ names_text net l)) found c.names_of.ensures
