-- What the node accepts, whether it is a unit, and its legs.
use Rattle.std.proofs.Common.{◌∙◌, ap, refl, ◌&&◌}
use Rattle.dn_interval.specs.Spans.{has}
use Rattle.dn_interval.specs.Strands.{segs_give}
use Rattle.dn_net.specs.Decode.{is_accepted, is_stop}
use Rattle.dn_flat.specs.Firsts.{is_same}
use Rattle.dn_flat.specs.Stages.{EndsBefore, GoesIn}
use Rattle.dn_flat.proofs.Firsts.{stay_ends, legs_step}
use Rattle.dn_flat.proofs.Lists.{means_along}
use Rattle.dn_flat.proofs.Sums.{normal_of}
use Rattle.dn_flat.proofs.reach.first_reach.Goals as goal

pub returns : goal.returns
returns c =
    let net = c.args.checked.net.now in
    let node = c.args.node in
    let spans = c.spans.result.now in
    let accepts = c.in_ok-still_segs.field-0.items in
    let stops = c.in_ok-stop_segs.field-0.items in
    let go = c.args.legs.now in
    record {
      done = record {
        accepts = normal_of (EndsBefore net (is_accepted net) 1 node) accepts c.in_ok-done.done.accepts (λ a y t. means_along (segs_give accepts a y) (has spans a && is_same node a y) (c.in_ok-still_segs.ensures a y) (stay_ends net (is_accepted net) node a y (has spans a) (ap (λ s. has s a) c.spans.ensures.value ∙ c.requires.accepted a))) c.in_ok-done.ensures.accepts;
        stops = normal_of (EndsBefore net (is_stop net) 1 node) stops c.in_ok-done.done.stops (λ a y t. means_along (segs_give stops a y) (is_stop net (record { node = node; addr = a }) && is_same node a y) (c.in_ok-stop_segs.ensures a y t) (stay_ends net (is_stop net) node a y (is_stop net (record { node = node; addr = a })) refl)) c.in_ok-done.ensures.stops;
      };
      go = normal_of (GoesIn net 1 node) go c.in_ok-go.go (λ a y t. legs_step net c.args.checked.rules node go c.requires.legs a y) c.in_ok-go.ensures.normal;
    }
