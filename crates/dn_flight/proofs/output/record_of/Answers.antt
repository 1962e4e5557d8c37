use Rattle.dn_kind.specs.Kinded.{kinds_of}
use Rattle.dn_tables.proofs.Fresh.{plain_there}
use Rattle.dn_flight.proofs.output.record_of.Goals as goal

pub record_by-requires-clause-plain : goal.record_by-requires-clause-plain
record_by-requires-clause-plain g c = plain_there (kinds_of (λ k. (goal.UnitKind-dyn g k).meaning k.1) c.args.kinds.now) c.args.unit.now c.requires.shaped
