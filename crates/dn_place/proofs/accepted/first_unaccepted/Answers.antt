use Rattle.std.proofs.Common.{◌≡◌, ◌∙◌, ap, ℕ, slice_get}
use Rattle.dn_base.proofs.Lists.{item_there}
use Rattle.dn_net.specs.Decode.{in_some_block, is_accepted_at}
use Rattle.dn_walk.proofs.Nodes.{node_in_range}
use Rattle.dn_place.proofs.Unaccepted.{rows_accept}
use Rattle.dn_place.proofs.accepted.first_unaccepted.Goals.{After-accept_rows}
use Rattle.dn_place.proofs.accepted.first_unaccepted.Goals as goal

-- the node accepts just what the rows have
same : (c : After-accept_rows) (a : ℕ) → is_accepted_at a (slice_get c.args.checked.net.now c.args.node) ≡ in_some_block a c.accept_rows.result.now
same c a =
    let net = c.args.checked.net.now in
    let d = item_there net c.args.node c.requires.there in
    let range = (node_in_range net c.args.checked.rules.each c.args.node d.0 d.1).0 in
    ap (is_accepted_at a) d.1 ∙ rows_accept d.0 a c.accept_rows.result.now range (c.accept_rows.ensures.same d.0 d.1 a)

pub first_outside-requires-clause-in_range : goal.first_outside-requires-clause-in_range
first_outside-requires-clause-in_range c =
    let net = c.args.checked.net.now in
    let d = item_there net c.args.node c.requires.there in
    c.accept_rows.ensures.in_range d.0 d.1 (node_in_range net c.args.checked.rules.each c.args.node d.0 d.1).0

pub returns-clause-accepted : goal.returns-clause-accepted
returns-clause-accepted c a l m = same (goal.at.returns-clause-accepted c).After-accept_rows a ∙ c.first_outside.ensures.inside a l m

pub returns-clause-unaccepted : goal.returns-clause-unaccepted
returns-clause-unaccepted c = same (goal.at.returns-clause-unaccepted c).After-accept_rows c.first_outside.result ∙ c.first_outside.ensures.outside
