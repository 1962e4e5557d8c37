use Rattle.std.proofs.Common.{◌+◌, ◌<◌, length, arith}
use Rattle.std.proofs.Math.Nat.{min-le_left, min-le_right}
use Rattle.netconf_c.specs.Calls.{event_of}
use Rattle.netconf_c.proofs.Copied.{copied_next}
use Rattle.netconf_c.proofs.events.copy_events.Goals as goal

pub loop-at-preserved : goal.loop-at-preserved
loop-at-preserved c =
    let least = min-le_left c.saturating_sub.result (length c.args.out.now) in
    let most = min-le_right c.saturating_sub.result (length c.args.out.now) in
    let count = c.min-count.ensures in
    let rest = c.saturating_sub.ensures in
    let l = c.loop-at-test.true in
    let there : c.args.from + c.loop-at.at < length c.args.pending.now = omega arith in
    let room : c.loop-at.at < length c.args.out.now = omega arith in
    copied_next event_of c.args.pending.now c.args.out.now c.loop-at.out c.args.from c.loop-at.at _ c.event_of.result there room c.loop-at.invariant c.event_of.ensures
