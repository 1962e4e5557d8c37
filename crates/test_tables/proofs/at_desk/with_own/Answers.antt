use Rattle.std.proofs.Common.{rules, ◌≡◌, slice_get, [], Some}
use Rattle.dn_kind.specs.Kinded.{kinds_of}
use Rattle.dn_placement.specs.Placement.{IsFreeHop}
use Rattle.dn_placement.specs.Slots.{slots_of_set}
use Rattle.test_tables.proofs.Owns.{owned}
use Rattle.test_tables.proofs.at_desk.with_own.Goals as goal

pub returns : goal.returns
returns g c =
    let ks = kinds_of (λ k. (goal.UnitKind-dyn g k).meaning k.1) c.args.desk.now.system.on.kinds.now in
    let at : slice_get c.args.placement.now.hops c.args.own ≡ Some c.in_ok-hop.field-0.now = search rules in
    let free : IsFreeHop c.args.desk.now.system.on.net.now (slots_of_set [] c.args.desk.now.book.set) c.args.request.now c.in_ok-hop.field-0.now = search rules in
    record {
      placed = rw c.new.ensures (rw c.v.ensures (rw c.hops-hops.ensures.value
          (owned c.args.desk.now.system.on.net.now ks c.args.desk.now.book.set c.args.request.now c.args.placement.now
          c.args.own c.in_ok-hop.field-0.now at free c.requires.placed)));
    }
