use Rattle.std.proofs.Common.{◌≡◌, ◌∙◌, ap, subst, length, List, ℕ, IfOk}
use Rattle.dn_net.specs.declared.node.NodeDecl.{NodeDecl}
use Rattle.dn_kind.specs.Kind.{Meaning}
use Rattle.dn_kind.specs.Kinded.{kinds_of}
use Rattle.dn_kind.specs.Tables.{record_held}
use Rattle.dn_tables.specs.declared.table.NodeTable.{NodeTable}
use Rattle.dn_tables.specs.Set.{words_of}
use Rattle.dn_image.specs.Image.{image}
use Rattle.dn_book.specs.Tables.{tables_of}
use Rattle.dn_demo.specs.declared.summary.Summary.{Summary}
use Rattle.dn_demo.specs.Summary.{summary_text}
use Rattle.dn_tool.specs.Demo.{agent_rows, held_records, sum_below, summary_with}
use Rattle.dn_tool.proofs.demo.summary_line.Goals as goal

pub returns : goal.returns
returns g c =
    let kinds : List Meaning = kinds_of (λ k. (goal.UnitKind-dyn g k).meaning k.1) c.args.machine.on.kinds.now in
    let net : List NodeDecl = c.args.machine.on.net.now in
    let book = c.args.state.now.book.grants in
    let tables : List (List ℕ) = tables_of net kinds book in
    let words : words_of c.tables-tables.result.now ≡ tables = ap (λ (s : List NodeTable). words_of s) c.tables-tables.ensures ∙ c.requires.ready.state.kept.words in
    let nodes : c.nodes.result ≡ length net = c.nodes.ensures in
    let rows : c.in_ok-all_rows.field-0 ≡ sum_below (agent_rows net book) (length net) = c.in_ok-all_rows.ensures in
    let records : c.all_records.result ≡ held_records net (record_held net kinds tables) =
    c.all_records.ensures
    ∙ ap (λ (ws : List (List ℕ)). held_records net (record_held net kinds ws)) words in
    let size : c.len.result ≡ length (image net kinds tables) =
    c.len.ensures
    ∙ c.in_ok-write.field-0.ok.0
    ∙ ap length c.in_ok-write.ensures
    ∙ ap (λ (ws : List (List ℕ)). length (image net kinds ws)) words in
    let all : ◌≡◌ {A = Summary} (record {
      agents = c.args.agents;
      nodes = c.nodes.result;
      grants = c.args.tally.granted;
      revoked = c.args.tally.revoked;
      rows = c.in_ok-all_rows.field-0;
      records = c.all_records.result;
      image = c.len.result;
    }) (summary_with kinds net c.args.agents c.args.tally.granted c.args.tally.revoked book) = λ i. record {
      agents = c.args.agents;
      nodes = nodes i;
      grants = c.args.tally.granted;
      revoked = c.args.tally.revoked;
      rows = rows i;
      records = records i;
      image = size i;
    } in
    subst (λ (s : Summary). IfOk c.summary_text.result (λ line. line.items ≡ summary_text s)) all c.summary_text.ensures
