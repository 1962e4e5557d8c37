-- The kind of the unit fits its shape, and the rest was tested.
use Rattle.std.proofs.Common.{List}
use Rattle.dn_kind.specs.Kind.{Meaning}
use Rattle.dn_kind.specs.Kinded.{kinds_of}
use Rattle.test_tables.proofs.Held.{packable}
use Rattle.test_tables.proofs.slots.put.Goals as goal

pub put-requires-clause-packable : goal.put-requires-clause-packable
put-requires-clause-packable g c =
    let kinds : List Meaning = kinds_of (λ k. (goal.UnitKind-dyn g k).meaning k.1) c.args.kinds.now in
    packable kinds c.args.bench.now.set c.args.bench.now.net c.args.at.unit c.args.wanted c.requires.legal.shaped c.requires.fits.units (c.is_packable.ensures (c.if-not-is_packable.false))
