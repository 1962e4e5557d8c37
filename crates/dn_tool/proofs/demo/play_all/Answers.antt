use Rattle.std.proofs.Common.{rules, ◌≡◌, ◌∙◌, ◌+◌, if◌then◌else◌, ap, sym, subst, List, Bool, IsTrue, length, ℕ, Err, arith}
use Rattle.std.specs.List.{list_all}
use Rattle.dn_base.proofs.Counts.{counted_none, counted_then}
use Rattle.dn_kind.specs.Kind.{Meaning}
use Rattle.dn_kind.specs.Kinded.{kinds_of}
use Rattle.dn_book.specs.declared.grant.Grant.{Grant}
use Rattle.dn_module.specs.declared.command.Command.{Command}
use Rattle.dn_module.specs.Commands.{names_within}
use Rattle.dn_tool.specs.Demo.{has_granted, has_revoked}
use Rattle.dn_script.specs.Halt.{ending_status}
use Rattle.dn_script.specs.State.{state_view}
use Rattle.dn_tool.proofs.Demos.{IsTallied, line_status, one_at_most, shown_halted, shown_unread, shown_written, tallied_more, tallied_start}
use Rattle.dn_script.proofs.Endings.{device_halts, halts_again, halts_later, memory_halts, sink_halts}
use Rattle.dn_script.proofs.Places.{first_place, first_rest, known_next, place, told_end, told_next}
use Rattle.dn_script.proofs.Kept.{machine_lawful, machine_owed}
use Rattle.dn_script.proofs.Sizes.{ready_tables}
use Rattle.dn_tool.proofs.demo.play_all.Goals as goal

pub commands-init : goal.commands-init
commands-init g c =
    let all : c.cursor-rest.result ≡ c.args.commands.now = search rules in
    record {
      behind = first_rest c.args.commands.now c.cursor-rest.result all;
      few_granted = omega arith;
      few_revoked = omega arith;
      known = subst (λ (l : List Command). IsTrue (list_all (names_within (length c.args.machine.on.net.now)) l)) (sym all) c.requires.known;
      ready = c.requires.ready;
      tallied = λ log made. tallied_start _ _ c.args.commands.now _ (state_view c.args.state.now) log _ (machine_lawful _ c.args.machine c.requires.ready.machine) (first_place c.args.commands.now c.cursor-rest.result all) c.requires.starts (machine_owed _ c.args.machine c.args.state.now c.requires.ready.machine c.requires.ready.state) made;
      device_counted = counted_none _;
    }

pub returns-in_err-command-clause-shown : goal.returns-in_err-command-clause-shown
returns-in_err-command-clause-shown g c =
    λ log made. shown_unread _ _ c.args.agents c.args.commands.now (place c.args.commands.now c.commands.rest) (state_view c.commands.state) c.from_residual.result _ _ _ _ _ c.commands.granted c.commands.revoked (search rules) (omega arith) (ready_tables _ c.args.machine c.commands.state _ _ c.commands.invariant.ready) (c.commands.invariant.tallied log made)

pub returns-in_err-ended-clause-shown : goal.returns-in_err-ended-clause-shown
returns-in_err-ended-clause-shown g c =
    let at = told_next c.args.commands.now c.commands.rest c.next.new.self _ c.in-Some.command c.commands.invariant.behind c.in_ok-command.ensures.next c.in-Some.is in
    λ log made. shown_halted _ _ c.args.agents c.args.commands.now (place c.args.commands.now c.commands.rest) c.in-Some.command (state_view c.commands.state) (state_view c.play-ended.new.state) c.play-ended.result c.in_err-ended.field-0.0 c.from_residual-in_err-ended.result _ _ g.D.Tables.units g.D.Tables.words g.D.Tables.log c.commands.device c.play-ended.new.device c.commands.granted c.commands.revoked c.in_err-ended.was (search rules) c.play-ended.ensures.halted.no_write at.within at.at (ready_tables _ c.args.machine c.commands.state _ _ c.commands.invariant.ready) (c.commands.invariant.tallied log made) c.play-ended.ensures.through

pub returns-in_err-command-clause-halted : goal.returns-in_err-command-clause-halted
returns-in_err-command-clause-halted g c = memory_halts c.from_residual.result _ _ _ _ (search rules) (counted_none _) c.commands.invariant.device_counted

pub returns-in_err-ended-clause-halted : goal.returns-in_err-ended-clause-halted
returns-in_err-ended-clause-halted g c =
    halts_again c.play-ended.result c.from_residual-in_err-ended.result c.in_err-ended.field-0.0 _ _ _ _ c.in_err-ended.was (search rules)
    (halts_later c.play-ended.result _ _ _ _ _ _ (counted_none _) c.commands.invariant.device_counted (device_halts _ _ _ _ c.play-ended.ensures.halted))

pub play-ended-requires-clause-known : goal.play-ended-requires-clause-known
play-ended-requires-clause-known g c =
    let at = told_next c.args.commands.now c.commands.rest c.next.new.self _ c.in-Some.command c.commands.invariant.behind c.in_ok-command.ensures.next c.in-Some.is in
    (known_next (names_within (length c.args.machine.on.net.now)) c.commands.rest c.next.new.self c.in-Some.command at.front c.commands.invariant.known).0

pub commands-preserved : goal.commands-preserved
commands-preserved g c =
    let kinds : List Meaning = kinds_of (λ k. (goal.UnitKind-dyn g k).meaning k.1) c.args.machine.on.kinds.now in
    let at = told_next c.args.commands.now c.commands.rest c.next.new.self _ c.in-Some.command c.commands.invariant.behind c.in_ok-command.ensures.next c.in-Some.is in
    let further : place c.args.commands.now c.next.new.self ≡ place c.args.commands.now c.commands.rest + 1 = at.next in
    let command = c.in-Some.command in
    let before : List Grant = c.commands.state.book.grants in
    let after : List Grant = c.play-ended.new.state.book.grants in
    let owed = machine_owed _ c.args.machine c.play-ended.new.state c.requires.ready.machine c.in_ok-ended.ensures.ready.state in
    let lived : c.len-before.result ≡ length before = search rules in
    let lives : c.len-after.result ≡ length after = search rules in
    let made : c.has_granted-grants.result ≡ has_granted command (length before) (length after) =
    c.has_granted-grants.ensures ∙ (λ j. has_granted command (lived j) (lives j)) in
    let gone : c.has_revoked-revokes.result ≡ has_revoked command (length before) (length after) =
    c.has_revoked-revokes.ensures ∙ (λ j. has_revoked command (lived j) (lives j)) in
    let granted : c.count_if-granted.result ≡ c.commands.granted + (if has_granted command (length before) (length after) then 1 else 0) =
    c.count_if-granted.ensures ∙ ap (λ (b : Bool). c.commands.granted + (if b then 1 else 0)) made in
    let revoked : c.count_if-revoked.result ≡ c.commands.revoked + (if has_revoked command (length before) (length after) then 1 else 0) =
    c.count_if-revoked.ensures ∙ ap (λ (b : Bool). c.commands.revoked + (if b then 1 else 0)) gone in
    let one = one_at_most (has_granted command (length before) (length after)) in
    let other = one_at_most (has_revoked command (length before) (length after)) in
    let few_granted = c.commands.invariant.few_granted in
    let few_revoked = c.commands.invariant.few_revoked in
    record {
      behind = at.behind;
      few_granted = omega (arith, further, granted, one, few_granted);
      few_revoked = omega (arith, further, revoked, other, few_revoked);
      known = (known_next (names_within (length c.args.machine.on.net.now)) c.commands.rest c.next.new.self c.in-Some.command at.front c.commands.invariant.known).1;
      ready = c.in_ok-ended.ensures.ready;
      tallied = λ log made. subst (λ (n : ℕ). IsTallied kinds c.args.machine.on.net.now c.args.commands.now n (state_view c.play-ended.new.state) log (g.D.Tables.log c.play-ended.new.device) c.count_if-granted.result c.count_if-revoked.result) (sym at.next) (tallied_more kinds c.args.machine.on.net.now c.args.commands.now (place c.args.commands.now c.commands.rest) (state_view c.commands.state) command _ _ _ c.commands.granted c.commands.revoked c.count_if-granted.result c.count_if-revoked.result (state_view c.play-ended.new.state) (c.commands.invariant.tallied log made) at.within at.at c.in_ok-ended.ensures.through owed granted revoked);
      device_counted = counted_then _ _ _ _ c.commands.invariant.device_counted c.in_ok-ended.ensures.halted.counted;
    }

pub returns-in_err-write_summary-clause-shown : goal.returns-in_err-write_summary-clause-shown
returns-in_err-write_summary-clause-shown g c =
    let over : place c.args.commands.now c.commands.rest ≡ length c.args.commands.now = told_end c.args.commands.now c.commands.rest _ _ c.in_ok-command.ensures.next c.in_default.is in
    let ended : c.from_residual-in_err-write_summary.result ≡ Err c.in_err-write_summary.field-0.0 = search rules in
    let status : ending_status c.from_residual-in_err-write_summary.result ≡ line_status c.write_summary.result = ap ending_status ended ∙ sym (ap line_status c.in_err-write_summary.was) in
    λ log made. shown_written _ _ c.args.agents c.args.commands.now (place c.args.commands.now c.commands.rest) (ending_status c.from_residual-in_err-write_summary.result) (state_view c.commands.state) c.write_summary.result _ _ _ _ _ _ c.commands.granted c.commands.revoked (omega (arith, over)) (omega (arith, over)) (ready_tables _ c.args.machine c.commands.state _ _ c.commands.invariant.ready) (c.commands.invariant.tallied log made) status c.write_summary.ensures.halted.no_device c.write_summary.ensures.written

pub returns-in_err-write_summary-clause-halted : goal.returns-in_err-write_summary-clause-halted
returns-in_err-write_summary-clause-halted g c =
    halts_again c.write_summary.result c.from_residual-in_err-write_summary.result c.in_err-write_summary.field-0.0 _ _ _ _ c.in_err-write_summary.was (search rules)
    (halts_later c.write_summary.result _ _ _ _ _ _ (counted_none _) c.commands.invariant.device_counted (sink_halts _ _ _ _ c.write_summary.ensures.halted))

pub returns-clause-shown : goal.returns-clause-shown
returns-clause-shown g c =
    let over : place c.args.commands.now c.commands.rest ≡ length c.args.commands.now = told_end c.args.commands.now c.commands.rest _ _ c.in_ok-command.ensures.next c.in_default.is in
    λ log made. shown_written _ _ c.args.agents c.args.commands.now (place c.args.commands.now c.commands.rest) 0 (state_view c.commands.state) c.write_summary.result _ _ _ _ _ _ c.commands.granted c.commands.revoked (omega (arith, over)) (omega (arith, over)) (ready_tables _ c.args.machine c.commands.state _ _ c.commands.invariant.ready) (c.commands.invariant.tallied log made) (sym (ap line_status c.in_ok-write_summary.was)) c.write_summary.ensures.halted.no_device c.write_summary.ensures.written
