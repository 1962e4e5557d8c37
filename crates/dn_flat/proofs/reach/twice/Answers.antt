-- What was done, and what the names that go on come to.
use Rattle.std.proofs.Common.{◌+◌, ap, subst}
use Rattle.dn_interval.specs.Rows.{AreNormal, SegmentsGive}
use Rattle.dn_interval.specs.Strands.{segs_give}
use Rattle.dn_net.specs.Decode.{is_accepted, is_stop}
use Rattle.dn_flat.specs.Stages.{EndsBefore, GoesIn}
use Rattle.dn_flat.proofs.Sums.{normal_of, begun_by, accepts_on, stops_on, goes_on}
use Rattle.dn_flat.proofs.reach.twice.Goals as goal

pub returns : goal.returns
returns c = λ net k node are is.
    let nodes = c.args.nodes.now in
    let reach = c.args.reach.now in
    let none = c.new-found.result in
    let accepts = c.push_rows.new.segs.items in
    let stops = c.push_rows-2.new.segs.items in
    let go = c.push_rows-3.new.segs.items in
    let fit = c.in_ok-push_rows.ensures.fit in
    let first = c.follow.new.segs.items in
    let second = c.follow-2.new.segs.items in
    record {
      done = record {
        accepts = normal_of (EndsBefore net (is_accepted net) (k + k) node) accepts c.in_ok-done.done.accepts (λ a y t.
            accepts_on net k nodes are k node reach.go is.go fit c.requires.there (segs_give first a y) (segs_give accepts a y) a y t
            (begun_by (EndsBefore net (is_accepted net) k node) c.whole.result reach.done.accepts (segs_give none.accepts.items a y) (segs_give first a y) a y is.done.accepts c.whole.ensures.base c.whole.ensures.lo c.whole.ensures.hi t (ap (λ s. segs_give s a y) c.new-found.ensures.accepts) (c.in_ok-follow.ensures.ok a y))
            (c.in_ok-push_rows.ensures.adds a y)) c.in_ok-done.ensures.accepts;
        stops = normal_of (EndsBefore net (is_stop net) (k + k) node) stops c.in_ok-done.done.stops (λ a y t.
            stops_on net k nodes are k node reach.go is.go fit c.requires.there (segs_give second a y) (segs_give stops a y) a y t
            (begun_by (EndsBefore net (is_stop net) k node) c.whole-2.result reach.done.stops (segs_give none.stops.items a y) (segs_give second a y) a y is.done.stops c.whole-2.ensures.base c.whole-2.ensures.lo c.whole-2.ensures.hi t (ap (λ s. segs_give s a y) c.new-found.ensures.stops) (c.in_ok-follow-2.ensures.ok a y))
            (c.in_ok-push_rows-2.ensures.adds a y)) c.in_ok-done.ensures.stops;
      };
      go = normal_of (GoesIn net (k + k) node) go c.in_ok-go.go (λ a y t.
          goes_on net k nodes are k node reach.go is.go fit c.requires.there (segs_give none.go.items a y) (segs_give go a y) a y t (ap (λ s. segs_give s a y) c.new-found.ensures.go) (c.in_ok-push_rows-3.ensures.adds a y))
          (subst (λ s. AreNormal (SegmentsGive s) c.in_ok-go.go) c.deref.ensures.value c.in_ok-go.ensures.normal);
    }
