use Rattle.std.proofs.Common.{◌∙◌, ◌%◌, ℕ, pow_pos, subst, sym}
use Rattle.std.proofs.Math.Nat.{mod-lt}
use Rattle.dn_gather.specs.Outputs.{NoneAgree}
use Rattle.dn_gather.proofs.Ranked.{none_here}
use Rattle.dn_gather.proofs.stands.has_agreeing.Goals as goal

pub agreeing_from-requires-clause-place : goal.agreeing_from-requires-clause-place
agreeing_from-requires-clause-place c = rw c.power.ensures (mod-lt c.args.x (pow_pos c.args.page))

pub returns : goal.returns
returns c = λ not.
    subst (λ (w : ℕ). NoneAgree c.args.page (c.args.x % w) c.args.exits.now) c.power.ensures
    (none_here c.args.page (c.args.x % c.power.result) c.agreeing_from.result c.args.exits.now c.requires.ranked c.agreeing_from.ensures.from (sym c.agrees_at.ensures ∙ not))
