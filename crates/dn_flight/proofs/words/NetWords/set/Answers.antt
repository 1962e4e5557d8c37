use Rattle.dn_flight.proofs.Kept.{word_set, word_there}
use Rattle.dn_flight.proofs.words.NetWords.set.Goals as goal

pub set-requires : goal.set-requires
set-requires c = word_there c.self.inside.nodes.items c.args.self.now c.from.result c.args.unit c.args.word c.index_mut-words.result.now c.self.view_is c.from.ensures c.requires c.index_mut-words.ensures.value

pub returns : goal.returns
returns c = word_set c.self.inside.nodes.items c.args.self.now c.from.result c.args.unit c.args.word c.args.value c.index_mut-words.result.now c.set.new.self c.self.view_is c.from.ensures c.requires c.index_mut-words.ensures.value c.set.ensures
