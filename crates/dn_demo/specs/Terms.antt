-- The words of the crate that clauses cite, from one place.
pub use Rattle.dn_demo.specs.Summary.{left_text, made_counts_text, summary_text}
pub use Rattle.dn_demo.specs.Text.{agent_commands, demo_text, grant_text, agent_grants, loop_text, platform_text, revoke_text, revokes_of, texts_below}
