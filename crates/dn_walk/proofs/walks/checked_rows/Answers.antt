-- A net without units breaks no rule on them; the others are tested.
use Rattle.std.proofs.Common.{◌≡◌, ◌∙◌, sym, length, arith}
use Rattle.std.proofs.lemmas.Bool.Decides.{nat_tests}
use Rattle.dn_base.proofs.Lists.{nil_from_length}
use Rattle.dn_walk.proofs.Legal.{no_units}
use Rattle.dn_walk.proofs.walks.checked_rows.Goals as goal

pub returns-then-is_empty-clause-checks : goal.returns-then-is_empty-clause-checks
returns-then-is_empty-clause-checks c =
    let none : length c.in_ok-units.units.items ≡ 0 = grind (arith, nat_tests, c.is_empty.ensures, c.if-is_empty.true) in
    no_units c.args.checked.net.now (sym c.in_ok-units.ensures ∙ nil_from_length c.in_ok-units.units.items none)
