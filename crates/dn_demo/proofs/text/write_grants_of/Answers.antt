use Rattle.std.proofs.Common.{◌≡◌, ◌∙◌, ◌++◌, ap, ℕ, arith}
use Rattle.std.specs.String.{string_bytes}
use Rattle.dn_demo.specs.Text.{texts_below, grant_text, agent_grants}
use Rattle.dn_demo.proofs.Below.{behind_more}
use Rattle.dn_demo.proofs.text.write_grants_of.Goals as goal

pub loop-buffer-preserved : goal.loop-buffer-preserved
loop-buffer-preserved c =
    behind_more (string_bytes c.args.out.now) (string_bytes c.loop-buffer.out) (string_bytes c.write_grant.new.out) (grant_text c.args.agent) c.loop-buffer.buffer c.loop-buffer.invariant c.in_ok-write_grant.ensures

pub returns : goal.returns
unfolding agent_grants
returns c =
    let whole : c.loop-buffer.buffer ≡ 16 = omega (arith, c.loop-buffer-test.false, c.loop-buffer.auto.buffer-end) in
    c.loop-buffer.invariant ∙ ap (λ (n : ℕ). string_bytes c.args.out.now ++ texts_below (grant_text c.args.agent) n) whole
