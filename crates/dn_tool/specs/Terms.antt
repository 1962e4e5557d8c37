-- The words of the crate that clauses cite, from one place.
pub use Rattle.dn_tool.specs.Answer.{IsAnswered, IsOutcome, IsRunAnswered, IsSaid, answer, bytes_answer, commands_answer, demo_answer, is_script, reads, task_answer, text_answer, usage}
pub use Rattle.dn_tool.specs.Audited.{audit_answer, broken_line, image_answer}
pub use Rattle.dn_tool.specs.Compiled.{IsLegal, compilation, compile_fault_view, expansion_compilation, fault, platform_view, with_refusal}
pub use Rattle.dn_tool.specs.Demo.{IsShown, IsShownOn, agent_rows, has_granted, has_revoked, held_records, held_slots, sum_below, summary_with}
pub use Rattle.dn_tool.specs.Input.{is_too_long, limit_for, parts_of, parts_view}
pub use Rattle.dn_tool.specs.Platform.{IsPlatform}
pub use Rattle.dn_tool.specs.Refused.{AreNodesWithin, IsNodeWithin, by_limit, by_line, by_shown, by_text, chain_text, expand_refusal, fork_text, node_refusal, refusal_of, rule_name, text_refusal, unit_refusal, units_text, walk_refusal}
pub use Rattle.dn_tool.specs.Reread.{AbsorbIsReadBack, CompiledIsReadBack, SplitIsReadBack}
pub use Rattle.dn_tool.specs.Source.{IsReadFor}
