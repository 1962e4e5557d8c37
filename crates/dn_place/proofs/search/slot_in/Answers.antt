use Rattle.dn_kind.specs.Kinded.{kinds_of}
use Rattle.dn_place.proofs.Readies.{slot_in_set}
use Rattle.dn_place.proofs.search.slot_in.Goals as goal

pub slot_at-requires-clause-there : goal.slot_at-requires-clause-there
slot_at-requires-clause-there g c =
    let search = c.args.search in
    slot_in_set (kinds_of (λ k. (goal.UnitKind-dyn g k).meaning k.1) search.system.on.kinds.now) search.system.on.net.now search.tables.now c.args.unit c.args.slot c.requires.search.fits c.requires.there
