use Rattle.std.proofs.Common.{◌∙◌, ◌≤◌, Some, ap, sym, subst}
use Rattle.std.specs.Option.{option_copied}
use Rattle.dn_net.proofs.Plain.{plain_unit_at}
use Rattle.dn_walk.proofs.Nexts.{plain_facts}
use Rattle.dn_walk.proofs.chain.slots.Goals as goal

pub returns-in-Some-clause-some : goal.returns-in-Some-clause-some
returns-in-Some-clause-some c =
    subst (λ n. 1 ≤ n) (sym c.from.ensures) (plain_facts c.in-Some.unit.now (plain_unit_at c.args.checked.net.now c.args.unit (Some c.in-Some.unit.now) c.args.checked.plain (c.unit.ensures ∙ ap (λ o. Some (option_copied o)) c.in-Some.is))).0
