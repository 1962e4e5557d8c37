use Rattle.std.proofs.Common.{◌≡◌, ◌++◌, ◌-◌}
use Rattle.std.specs.String.{string_bytes}
use Rattle.dn_demo.specs.Text.{memory_text, loop_text, agent_text, platform_text}
use Rattle.dn_demo.proofs.Below.{behind, said}
use Rattle.dn_demo.proofs.text.write_platform.Goals as goal

pub returns : goal.returns
returns c =
    let old = string_bytes c.args.out.now in
    let one = string_bytes c.push_str.new.self in
    let two = string_bytes c.write_loop.new.out in
    let now = string_bytes c.push_str-2.new.self in
    let head = loop_text (c.args.agents - 1) in
    said c.push_str-2.result now two agent_text (now ≡ old ++ platform_text c.args.agents) c.push_str-2.ensures.bytes
    (λ e. behind old one now memory_text (head ++ agent_text) c.in_ok-push_str.ensures.bytes (behind one two now head agent_text c.in_ok-write_loop.ensures e))
