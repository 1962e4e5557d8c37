use Rattle.std.proofs.Common.{◌≡◌, false, IfOk, subst}
use Rattle.dn_place.specs.declared.cursor.HopCursor.{HopCursor}
use Rattle.dn_place.specs.Searches.{NoneToCome}
use Rattle.dn_place.proofs.cursor.HopCursor.advance.Goals as goal

pub returns-clause-none : goal.returns-clause-none
returns-clause-none g c = subst (λ (h : HopCursor). IfOk c.next_unit.result (λ more. more ≡ false → NoneToCome (λ k. (goal.UnitKind-dyn g k).meaning k.1) c.args.search c.args.nearer h)) (c.next_exit.ensures.no c.if-next_exit.false) c.next_unit.ensures.none
