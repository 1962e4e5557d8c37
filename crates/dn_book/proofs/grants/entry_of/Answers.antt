use Rattle.std.proofs.Common.{slice_index_or}
use Rattle.std.proofs.lemmas.Option.{slice_get-get_or}
use Rattle.dn_book.proofs.Placed.{one_out}
use Rattle.dn_book.proofs.grants.entry_of.Goals as goal

pub returns-then-entry-id-clause-out : goal.returns-then-entry-id-clause-out
returns-then-entry-id-clause-out c =
    one_out c.args.id c.args.order.now c.loop-at.at (slice_index_or c.args.order.now c.loop-at.at (0, 0)) c.requires.apart (slice_get-get_or c.args.order.now c.loop-at.at (0, 0) c.loop-at-test.true) c.if-entry-id.true
