use Rattle.std.proofs.Common.{subst, is_ok, List}
use Rattle.dn_base.specs.Outside.{IsWritten}
use Rattle.dn_interval.specs.declared.row.Row.{Row}
use Rattle.dn_net.specs.declared.node.NodeDecl.{NodeDecl}
use Rattle.dn_net.proofs.Stops.{agent_there}
use Rattle.dn_kind.specs.Kinded.{kinds_of}
use Rattle.dn_kind.specs.declared.rights.Access.{Access}
use Rattle.dn_kind.specs.Kind.{Meaning}
use Rattle.dn_kind.specs.Tables.{allowing}
use Rattle.dn_tables.specs.declared.table.NodeTable.{NodeTable}
use Rattle.dn_tables.specs.Set.{record_kept}
use Rattle.dn_view.specs.Views.{AreViewed}
use Rattle.dn_script.specs.Found.{access_of}
use Rattle.dn_script.specs.Halt.{is_write_halt}
use Rattle.dn_script.specs.Viewed.{viewed_text}
use Rattle.dn_script.proofs.Seen.{fixed_is_owed, seen_is_owed}
use Rattle.dn_script.proofs.reply.view_reply.Goals as goal

pub keep_first-requires-clause-there : goal.keep_first-requires-clause-there
keep_first-requires-clause-there g c = agent_there c.args.machine.on.net.now c.args.node c.requires.agent

pub returns-in-Some-clause-written : goal.returns-in-Some-clause-written
returns-in-Some-clause-written g c =
    fixed_is_owed c.args.machine.on.net.now _ c.args.state.now (access_of c.args.mode) c.args.node c.in-Some.rows.now
    (λ r. IsWritten (g.K.Sink.written c.args.sink.now) (g.K.Sink.written c.write_view.new.sink) (is_ok c.write_view.result) (is_write_halt c.write_view.result) (viewed_text c.args.machine.on.net.now c.args.text.now c.args.mode r))
    c.requires.ready.state c.requires.agent c.in-Some.ensures.rows c.write_view.ensures.written

pub shared_rows-requires-clause-there : goal.shared_rows-requires-clause-there
shared_rows-requires-clause-there g c = agent_there c.args.machine.on.net.now c.args.node c.requires.agent

pub returns-in-Some-shared_rows-clause-written : goal.returns-in-Some-shared_rows-clause-written
returns-in-Some-shared_rows-clause-written g c =
    fixed_is_owed c.args.machine.on.net.now _ c.args.state.now (access_of c.args.mode) c.args.node c.in-Some-shared_rows.rows.now
    (λ r. IsWritten (g.K.Sink.written c.args.sink.now) (g.K.Sink.written c.write_view-in-Some-shared_rows.new.sink) (is_ok c.write_view-in-Some-shared_rows.result) (is_write_halt c.write_view-in-Some-shared_rows.result) (viewed_text c.args.machine.on.net.now c.args.text.now c.args.mode r))
    c.requires.ready.state c.requires.agent c.in-Some-shared_rows.ensures.rows c.write_view-in-Some-shared_rows.ensures.written

pub view-requires-clause-there : goal.view-requires-clause-there
view-requires-clause-there g c = agent_there c.args.machine.on.net.now c.args.node c.requires.agent

pub returns-clause-written : goal.returns-clause-written
returns-clause-written g c =
    let kinds : List Meaning = kinds_of (λ k. (goal.UnitKind-dyn g k).meaning k.1) c.args.machine.on.kinds.now in
    let net : List NodeDecl = c.args.machine.on.net.now in
    let state = c.args.state.now in
    let access : Access = access_of c.args.mode in
    let rows : List Row = c.in_ok-rows.rows in
    let set : AreViewed net (allowing c.access_of-access.result (record_kept kinds state.book.set)) c.args.node rows = subst (λ (s : List NodeTable). AreViewed net (allowing c.access_of-access.result (record_kept kinds s)) c.args.node rows) c.tables.ensures c.in_ok-rows.ensures.rows in
    let normal : AreViewed net (allowing access (record_kept kinds state.book.set)) c.args.node rows = subst (λ (a : Access). AreViewed net (allowing a (record_kept kinds state.book.set)) c.args.node rows) c.access_of-access.ensures set in
    seen_is_owed net kinds state access c.args.node rows (λ r. IsWritten (g.K.Sink.written c.args.sink.now) (g.K.Sink.written c.write_view-2.new.sink) (is_ok c.write_view-2.result) (is_write_halt c.write_view-2.result) (viewed_text net c.args.text.now c.args.mode r)) c.requires.ready.state c.requires.agent normal c.write_view-2.ensures.written
