use Rattle.std.proofs.Common.{rules, ◌≡◌, sym, subst, List, length, IsTrue, ℕ, refl, arith}
use Rattle.std.specs.List.{list_all}
use Rattle.dn_base.proofs.Counts.{counted_none, counted_then}
use Rattle.dn_kind.specs.Kind.{Meaning}
use Rattle.dn_kind.specs.Kinded.{kinds_of}
use Rattle.dn_module.specs.declared.command.Command.{Command}
use Rattle.dn_module.specs.Commands.{names_within}
use Rattle.dn_script.specs.State.{state_view}
use Rattle.dn_script.proofs.Endings.{halts_again, halts_later, memory_halts}
use Rattle.dn_script.proofs.Kept.{machine_lawful, machine_owed}
use Rattle.dn_script.proofs.Places.{first_place, first_rest, known_next, place, told_end, told_next}
use Rattle.dn_script.proofs.Played.{IsGone, gone_start, gone_turned, halted_by, halted_unmade, played_whole}
use Rattle.dn_script.proofs.Sizes.{ready_tables}
use Rattle.dn_script.proofs.script.answer_all.Goals as goal

pub commands-init : goal.commands-init
commands-init g c =
    let all : c.cursor-rest.result ≡ c.args.commands.now = search rules in
    record {
      behind = first_rest c.args.commands.now c.cursor-rest.result all;
      known = subst (λ (l : List Command). IsTrue (list_all (names_within (length c.args.machine.on.net.now)) l)) (sym all) c.requires.known;
      ready = c.requires.ready;
      gone = λ log made. gone_start _ _ c.args.commands.now _ (state_view c.args.state.now) _ _ log _ (machine_lawful _ c.args.machine c.requires.ready.machine) (first_place c.args.commands.now c.cursor-rest.result all) c.requires.starts (machine_owed _ c.args.machine c.args.state.now c.requires.ready.machine c.requires.ready.state) refl made;
      sink_counted = counted_none _;
      device_counted = counted_none _;
    }

pub returns-in_err-command-clause-played : goal.returns-in_err-command-clause-played
returns-in_err-command-clause-played g c =
    λ log made. halted_unmade _ _ c.args.commands.now (place c.args.commands.now c.commands.rest) (state_view c.commands.state) c.from_residual.result _ _ _ _ _ _ (search rules) (omega arith) (ready_tables _ c.args.machine c.commands.state _ _ c.commands.invariant.ready) (c.commands.invariant.gone log made)

pub returns-in_err-command-clause-halted : goal.returns-in_err-command-clause-halted
returns-in_err-command-clause-halted g c = memory_halts c.from_residual.result _ _ _ _ (search rules) c.commands.invariant.sink_counted c.commands.invariant.device_counted

pub returns-in_err-ended-clause-played : goal.returns-in_err-ended-clause-played
returns-in_err-ended-clause-played g c =
    let at = told_next c.args.commands.now c.commands.rest c.next.new.self _ c.in-Some.command c.commands.invariant.behind c.in_ok-command.ensures.next c.in-Some.is in
    λ log made. halted_by _ _ c.args.commands.now (place c.args.commands.now c.commands.rest) c.in-Some.command (state_view c.commands.state) (state_view c.answer-ended.new.state) c.answer-ended.result c.in_err-ended.field-0.0 c.from_residual-in_err-ended.result _ _ _ _ g.D.Tables.units g.D.Tables.words g.D.Tables.log c.commands.device c.answer-ended.new.device c.in_err-ended.was (search rules) at.within at.at (ready_tables _ c.args.machine c.commands.state _ _ c.commands.invariant.ready) (c.commands.invariant.gone log made) c.answer-ended.ensures.through

pub returns-in_err-ended-clause-halted : goal.returns-in_err-ended-clause-halted
returns-in_err-ended-clause-halted g c =
    halts_again c.answer-ended.result c.from_residual-in_err-ended.result c.in_err-ended.field-0.0 _ _ _ _ c.in_err-ended.was (search rules)
    (halts_later c.answer-ended.result _ _ _ _ _ _ c.commands.invariant.sink_counted c.commands.invariant.device_counted c.answer-ended.ensures.halted)

pub commands-preserved : goal.commands-preserved
commands-preserved g c =
    let kinds : List Meaning = kinds_of (λ k. (goal.UnitKind-dyn g k).meaning k.1) c.args.machine.on.kinds.now in
    let at = told_next c.args.commands.now c.commands.rest c.next.new.self _ c.in-Some.command c.commands.invariant.behind c.in_ok-command.ensures.next c.in-Some.is in
    let owed = machine_owed _ c.args.machine c.answer-ended.new.state c.requires.ready.machine c.in_ok-ended.ensures.ready.state in
    record {
      behind = at.behind;
      known = (known_next (names_within (length c.args.machine.on.net.now)) c.commands.rest c.next.new.self c.in-Some.command at.front c.commands.invariant.known).1;
      ready = c.in_ok-ended.ensures.ready;
      gone = λ log made. subst (λ (n : ℕ). IsGone kinds c.args.machine.on.net.now c.args.commands.now n (state_view c.answer-ended.new.state) (g.K.Sink.written c.args.sink.now) (g.K.Sink.written c.answer-ended.new.sink) log (g.D.Tables.log c.answer-ended.new.device)) (sym at.next) (gone_turned kinds c.args.machine.on.net.now c.args.commands.now (place c.args.commands.now c.commands.rest) (state_view c.commands.state) (state_view c.answer-ended.new.state) c.in-Some.command _ _ _ log _ _ (c.commands.invariant.gone log made) at.within at.at c.in_ok-ended.ensures.through owed);
      sink_counted = counted_then _ _ _ _ c.commands.invariant.sink_counted c.in_ok-ended.ensures.halted.sink_counted;
      device_counted = counted_then _ _ _ _ c.commands.invariant.device_counted c.in_ok-ended.ensures.halted.device_counted;
    }

pub returns-clause-played : goal.returns-clause-played
returns-clause-played g c =
    let over : place c.args.commands.now c.commands.rest ≡ length c.args.commands.now = told_end c.args.commands.now c.commands.rest _ _ c.in_ok-command.ensures.next c.in_default.is in
    λ log made. played_whole _ _ c.args.commands.now (place c.args.commands.now c.commands.rest) 0 (state_view c.commands.state) _ _ _ _ _ _ over refl (ready_tables _ c.args.machine c.commands.state _ _ c.commands.invariant.ready) (c.commands.invariant.gone log made)
