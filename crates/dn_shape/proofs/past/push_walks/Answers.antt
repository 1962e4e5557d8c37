-- The legs that the walk meets are some of the legs.
use Rattle.std.proofs.Common.{◌∙◌, ◌++◌, ap, map}
use Rattle.std.proofs.lemmas.Result.{on_ok_weaker}
use Rattle.dn_walk.specs.Rows.{row_view}
use Rattle.dn_walk.proofs.BareWalks.{met_meet, met_on}
use Rattle.dn_shape.proofs.past.push_walks.Goals as goal

pub extend_row-requires-clause-meet : goal.extend_row-requires-clause-meet
extend_row-requires-clause-meet c = met_meet (row_view c.args.row.now) c.args.legs.now c.met_by.result.now c.met_by.ensures

pub returns : goal.returns
returns c =
    on_ok_weaker c.extend_row.result (λ e. e ∙ ap (λ l. map row_view c.args.walks.now.items ++ l) (met_on (row_view c.args.row.now) c.args.legs.now c.met_by.result.now c.met_by.ensures)) c.extend_row.ensures
