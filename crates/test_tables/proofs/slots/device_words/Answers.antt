-- A unit of the set was made on its device.
use Rattle.test_tables.proofs.Held.{unit_made}
use Rattle.test_tables.proofs.slots.device_words.Goals as goal

pub words-requires : goal.words-requires
words-requires g c = unit_made c.args.bench.now.set c.args.unit 0 _ _ c.requires.on_device (c.is_there.ensures.slot c.if-is_there.true)
