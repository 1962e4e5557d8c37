-- A slot of a unit of the net is one of the set.
use Rattle.std.proofs.Common.{Some, subst, sym, IsTrue}
use Rattle.std.specs.Option.{option_copied}
use Rattle.dn_tables.specs.Set.{has_slot, has_slot_by}
use Rattle.test_tables.proofs.Held.{slot_there, unit_there}
use Rattle.test_tables.proofs.slots.is_there.Goals as goal

pub returns-in-Some : goal.returns-in-Some
returns-in-Some c =
    let there : IsTrue (has_slot_by (Some c.in-Some.unit.now) c.args.at.slot) → IsTrue (has_slot c.args.set.now c.args.at.unit c.args.at.slot) =
    λ h. slot_there c.args.set.now c.args.net.now c.args.at.unit c.args.at.slot (option_copied c.unit.result) c.requires c.unit.ensures (subst (λ o. IsTrue (has_slot_by (option_copied o) c.args.at.slot)) (sym c.in-Some.is) h) in
    record {
      slot = there;
      unit = λ h. unit_there c.args.set.now c.args.at.unit c.args.at.slot (there h);
    }
