use Rattle.std.proofs.Common.{◌≡◌, ◌∙◌, ◌++◌, ap, ℕ, arith}
use Rattle.std.specs.String.{string_bytes}
use Rattle.dn_demo.specs.Text.{texts_below, agent_commands}
use Rattle.dn_demo.proofs.Below.{behind_more}
use Rattle.dn_demo.proofs.text.write_commands.Goals as goal

pub loop-agent-preserved : goal.loop-agent-preserved
loop-agent-preserved c =
    behind_more (string_bytes c.args.out.now) (string_bytes c.loop-agent.out) (string_bytes c.write_commands_of.new.out) (agent_commands c.args.commands) c.loop-agent.agent c.loop-agent.invariant c.in_ok-write_commands_of.ensures

pub returns : goal.returns
returns c =
    let whole : c.loop-agent.agent ≡ c.args.agents = omega (arith, c.loop-agent-test.false, c.loop-agent.auto.agent-end) in
    c.loop-agent.invariant ∙ ap (λ (n : ℕ). string_bytes c.args.out.now ++ texts_below (agent_commands c.args.commands) n) whole
