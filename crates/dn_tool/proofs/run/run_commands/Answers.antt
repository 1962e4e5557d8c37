use Rattle.std.proofs.Common.{rules, ◌≡◌, List, Err}
use Rattle.dn_base.proofs.Counts.{counted_none}
use Rattle.dn_kind.specs.Kind.{Meaning}
use Rattle.dn_kind.specs.Kinded.{kinds_of}
use Rattle.dn_script.specs.Halt.{make_halt}
use Rattle.dn_script.proofs.Endings.{halts_later}
use Rattle.dn_script.proofs.Kept.{machine_lawful}
use Rattle.dn_script.proofs.Played.{making_told}
use Rattle.dn_tool.proofs.Unanswered.{unmade_answer}
use Rattle.dn_tool.proofs.run.run_commands.Goals as goal

pub returns-in_err-state-clause-answered : goal.returns-in_err-state-clause-answered
returns-in_err-state-clause-answered g c =
    let kinds : List Meaning = kinds_of (λ k. (goal.UnitKind-dyn g k).meaning k.1) c.args.machine.on.kinds.now in
    let ended : c.from_residual.result ≡ Err (make_halt c.in_err-state.field-0.0) = search rules in
    unmade_answer kinds c.args.machine.on.net.now c.args.agents c.args.commands.now c.make.result c.in_err-state.field-0.0 c.from_residual.result _ _ _ _ _ _ _ (machine_lawful _ c.args.machine c.requires.machine) c.in_err-state.was ended (record { units = c.requires.none; sized = g.met.D.Tables.sized c.args.device.now }) c.make.ensures.made

pub returns-in-None-clause-answered : goal.returns-in-None-clause-answered
returns-in-None-clause-answered g c =
    let kinds : List Meaning = kinds_of (λ k. (goal.UnitKind-dyn g k).meaning k.1) c.args.machine.on.kinds.now in
    rw c.in-None.is (c.answer_all.ensures.played _ (making_told kinds c.args.machine.on.net.now _ _ _ _ _ c.in_ok-state.ensures.made))

pub returns-in-None-clause-halted : goal.returns-in-None-clause-halted
returns-in-None-clause-halted g c = halts_later c.answer_all.result _ _ _ _ _ _ (counted_none _) c.in_ok-state.ensures.counted c.answer_all.ensures.halted

pub returns-clause-answered : goal.returns-clause-answered
returns-clause-answered g c =
    let kinds : List Meaning = kinds_of (λ k. (goal.UnitKind-dyn g k).meaning k.1) c.args.machine.on.kinds.now in
    rw c.in-Some.is (c.play_all.ensures.shown _ (making_told kinds c.args.machine.on.net.now _ _ _ _ _ c.in_ok-state.ensures.made))
