use Rattle.std.proofs.Common.{sym}
use Rattle.dn_place.proofs.Marked.{given_there, named, none_given}
use Rattle.dn_place.proofs.entry.stop_in.Goals as goal

pub returns-in_err-row-clause-none : goal.returns-in_err-row-clause-none
returns-in_err-row-clause-none c = rw c.from_residual.ensures (λ z. none_given c.args.rows.now c.args.a z (sym c.in_err-row.ensures.none))

pub first_end-requires-clause-some : goal.first_end-requires-clause-some
first_end-requires-clause-some c = named c.args.rows.now c.in_ok-row.row.now c.rows-all.ensures.apart c.in_ok-row.ensures.found.0

pub returns-clause-given : goal.returns-clause-given
returns-clause-given c = given_there c.args.rows.now c.in_ok-row.row.now c.args.a c.first_end.result c.in_ok-row.ensures.found.0 c.in_ok-row.ensures.found.1 c.first_end.ensures
