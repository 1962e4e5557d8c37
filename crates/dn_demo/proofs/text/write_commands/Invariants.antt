use Rattle.std.proofs.Common.{◌≡◌, ◌++◌}
use Rattle.std.specs.String.{string_bytes}
use Rattle.dn_demo.specs.Text.{texts_below, agent_commands}
use Rattle.dn_demo.proofs.text.write_commands.Given as goal

abbrev pub invariant-loop-agent : goal.invariant-loop-agent
invariant-loop-agent l = string_bytes l.out ≡ string_bytes l.initial.out ++ texts_below (agent_commands l.commands) l.agent
