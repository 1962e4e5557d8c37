use Rattle.std.proofs.Common.{refl}
use Rattle.dn_kind.specs.Kinded.{kinds_of}
use Rattle.dn_tables.proofs.Slots.{all_of_map}
use Rattle.dn_tool.specs.Compiled.{platform_view}
use Rattle.dn_tool.specs.Input.{parts_view}
use Rattle.dn_script.proofs.Endings.{if_ok}
use Rattle.dn_tool.proofs.Inputs.{legal_short}
use Rattle.dn_tool.proofs.Unanswered.{text_legal, unanswered}
use Rattle.dn_tool.proofs.run.answer_text.Goals as goal

pub returns-in-Err-OutOfMemory-clause-answered : goal.returns-in-Err-OutOfMemory-clause-answered
returns-in-Err-OutOfMemory-clause-answered g c = unanswered _ _ 7 _ _ _ _ _ _ (all_of_map _ c.args.kinds.now.list.items c.requires.kinds.lawful) (text_legal c.args.task (kinds_of (λ k. (goal.UnitKind-dyn g k).meaning k.1) c.args.kinds.now) (parts_view c.args.input)) refl refl refl (λ _. refl) refl refl (record { units = c.requires.none; sized = g.met.D.Tables.sized c.args.device.now })

pub returns-in-Ok-clause-short : goal.returns-in-Ok-clause-short
returns-in-Ok-clause-short g c = if_ok c.answer_task.result _ (λ s e. legal_short _ c.args.input.text.now (platform_view c.in-Ok.platform) c.in-Ok.ensures.answer)
