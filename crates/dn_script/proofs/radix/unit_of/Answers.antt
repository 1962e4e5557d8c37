-- The node is a unit, or is none.
use Rattle.std.proofs.Common.{◌≡◌, refl, ap, sym, subst, Option, Some, None, IsSome}
use Rattle.dn_net.specs.declared.node.Unit.{Unit as UnitPart}
use Rattle.dn_net.specs.Decode.{unit_at}
use Rattle.dn_net.proofs.Steps.{unit_is}
use Rattle.dn_script.specs.Radix.{node_with}
use Rattle.dn_script.proofs.radix.unit_of.Goals as goal

pub returns-in-Some-unit-clause-which : goal.returns-in-Some-unit-clause-which
returns-in-Some-unit-clause-which c =
    let unit : unit_at c.args.net.now c.in-Some.node ≡ Some c.in-Some-unit.field-0.now = unit_is c.args.net.now c.in-Some.node (Some c.in-Some-unit.field-0.now) c.in-Some-unit.ensures in
    rw c.in-Some.is (sym (ap (node_with c.in-Some.node) unit))

pub returns-in-Some-unit-clause-unit : goal.returns-in-Some-unit-clause-unit
returns-in-Some-unit-clause-unit c =
    let unit : unit_at c.args.net.now c.in-Some.node ≡ Some c.in-Some-unit.field-0.now = unit_is c.args.net.now c.in-Some.node (Some c.in-Some-unit.field-0.now) c.in-Some-unit.ensures in
    subst (λ (o : Option UnitPart). IsSome o) (sym unit) refl

pub returns-in-None-clause-which : goal.returns-in-None-clause-which
returns-in-None-clause-which c =
    let unit : unit_at c.args.net.now c.in-Some.node ≡ None = unit_is c.args.net.now c.in-Some.node None c.in-None.ensures in
    rw c.in-Some.is (sym (ap (node_with c.in-Some.node) unit))
