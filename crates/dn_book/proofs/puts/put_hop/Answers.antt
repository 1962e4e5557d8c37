use Rattle.std.proofs.Common.{◌∙◌, ap, subst, Option, Some}
use Rattle.std.specs.Option.{option_copied}
use Rattle.dn_net.specs.declared.node.Unit.{Unit as UnitPart}
use Rattle.dn_net.proofs.Steps.{unit_is}
use Rattle.dn_book.specs.Puts.{MayPutHop}
use Rattle.dn_book.proofs.puts.put_hop.Goals as goal

pub put_slots-requires : goal.put_slots-requires
put_slots-requires g c =
    subst (λ (o : Option UnitPart). MayPutHop o c.args.size c.args.rights c.args.hop.now (λ k. (goal.UnitKind-dyn g k).meaning k.1) c.args.on.kinds.now c.args.tables.now (g.D.Tables.units c.args.device.now) (g.D.Tables.words c.args.device.now))
    (unit_is c.args.on.net.now c.args.hop.now.unit (Some c.in-Some.unit.now) (c.unit.ensures ∙ ap (λ o. Some (option_copied o)) c.in-Some.is))
    c.requires
