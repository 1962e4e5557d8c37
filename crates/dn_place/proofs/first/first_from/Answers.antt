use Rattle.std.proofs.Common.{List, arith}
use Rattle.dn_kind.specs.Kind.{Meaning}
use Rattle.dn_kind.specs.Kinded.{kinds_of}
use Rattle.dn_tables.proofs.Slots.{all_of_map}
use Rattle.dn_tables.specs.Set.{IsSet}
use Rattle.dn_view.proofs.Free.{free_empty}
use Rattle.dn_view.proofs.Held.{kept_are_held}
use Rattle.dn_place.proofs.Readies.{ready}
use Rattle.dn_place.proofs.first.first_from.Goals as goal

pub first_found-requires-clause-search : goal.first_found-requires-clause-search
first_found-requires-clause-search g c =
    let kinds : List Meaning = kinds_of (λ k. (goal.UnitKind-dyn g k).meaning k.1) c.args.system.on.kinds.now in
    let net = c.args.system.on.net.now in
    let set = c.args.tables.now in
    let lawful = all_of_map _ c.args.system.on.kinds.now.list.items c.requires.system.kinded.lawful in
    let is : IsSet set = record { few = c.facts.ensures.few; sized = c.facts.ensures.sized } in
    record {
      system = c.requires.system;
      fits = c.requires.fits;
      rights = c.requires.request.rights;
      ready = ready net _ c.args.request.now c.args.reach.now.at c.requires.system.kinded.legal.legal (kept_are_held net kinds set lawful c.requires.fits) (free_empty net kinds set lawful c.requires.fits is) c.requires.request.rights c.requires.request.agent c.requires.request.some c.requires.request.buffer;
      reach = c.requires.reach;
      whole = c.block_of-block.ensures;
      kept = c.in_ok-none.ensures net _ c.args.request.now;
      most = omega arith;
    }
