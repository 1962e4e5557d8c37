use Rattle.std.proofs.Common.{◌≡◌, ◌∙◌, ◌++◌, ◌+◌, ◌*◌, ap, ℕ, arith}
use Rattle.std.specs.String.{string_bytes}
use Rattle.dn_demo.specs.Text.{texts_below, revoke_text, revokes_of}
use Rattle.dn_demo.proofs.Below.{behind_more}
use Rattle.dn_demo.proofs.text.write_revokes_of.Goals as goal

pub loop-pair-preserved : goal.loop-pair-preserved
loop-pair-preserved c =
    behind_more (string_bytes c.args.out.now) (string_bytes c.loop-pair.out) (string_bytes c.write_revoke.new.out) (λ pair. revoke_text c.args.agent (2 * pair + 1)) c.loop-pair.pair c.loop-pair.invariant c.in_ok-write_revoke.ensures

pub returns : goal.returns
unfolding revokes_of
returns c =
    let whole : c.loop-pair.pair ≡ 8 = omega (arith, c.loop-pair-test.false, c.loop-pair.auto.pair-end) in
    c.loop-pair.invariant ∙ ap (λ (n : ℕ). string_bytes c.args.out.now ++ texts_below (λ pair. revoke_text c.args.agent (2 * pair + 1)) n) whole
