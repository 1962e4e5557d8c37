use Rattle.std.proofs.Common.{arith}
use Rattle.dn_kind.specs.Kinded.{kinds_of}
use Rattle.dn_place.proofs.Readies.{slot_in_set}
use Rattle.dn_place.proofs.search.end_of_run.Goals as goal

pub run_end-requires : goal.run_end-requires
run_end-requires g c = λ slot l.
    let search = c.args.search in
    slot_in_set (kinds_of (λ k. (goal.UnitKind-dyn g k).meaning k.1) search.system.on.kinds.now) search.system.on.net.now search.tables.now c.args.unit slot c.requires.search.fits (omega (arith, l, c.requires.within))

pub returns : goal.returns
returns g c = c.run_end.ensures (kinds_of (λ k. (goal.UnitKind-dyn g k).meaning k.1) c.args.search.system.on.kinds.now)
