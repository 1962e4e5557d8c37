use Rattle.std.proofs.Common.{◌≡◌, Option, Some, None, Bor, IfSome, sym}
use Rattle.std.specs.Option.{option_copied}
use Rattle.dn_net.specs.declared.node.Unit.{Unit as UnitPart}
use Rattle.dn_net.specs.Decode.{unit_at}
use Rattle.dn_place.specs.Sought.{HasUnitBounds}
use Rattle.dn_place.proofs.Readies.{unit_bounds}
use Rattle.dn_place.proofs.unit.unit_in.Goals as goal

pub returns-clause-bounds : goal.returns-clause-bounds
returns-clause-bounds g c = by c.unit_of.result c.unit_of.ensures
  where
    by : (r : Option (Bor UnitPart)) → option_copied r ≡ unit_at c.args.system.on.net.now c.args.node → IfSome r (λ u. HasUnitBounds c.args.system.on.net.now u.now)
    by None e = tt
    by (Some u) e = unit_bounds c.args.system.on.net.now c.requires.kinded.legal.legal c.args.node u.now (sym e)
