use Rattle.std.proofs.Common.{◌≡◌, ◌∙◌, sym, ap, Some}
use Rattle.std.specs.Option.{option_copied}
use Rattle.dn_net.specs.Decode.{unit_at}
use Rattle.dn_net.proofs.Steps.{unit_is}
use Rattle.dn_queue.proofs.Slots.{unit_slots}
use Rattle.dn_queue.proofs.room.slots_of_hop.Goals as goal

pub returns-clause-value : goal.returns-clause-value
returns-clause-value c =
    let is : unit_at c.args.net.now c.args.hop.now.unit ≡ Some c.in-Some.unit.now = unit_is c.args.net.now c.args.hop.now.unit (Some c.in-Some.unit.now) (c.unit.ensures ∙ ap (λ o. Some (option_copied o)) c.in-Some.is) in
    c.slots_of_unit.ensures.value ∙ sym (unit_slots c.args.net.now c.args.size c.args.hop.now c.in-Some.unit.now is)
