use Rattle.std.proofs.Common.{rules}
use Rattle.dn_base.proofs.Counts.{counted_then}
use Rattle.dn_base.proofs.Told.{Added-tail}
use Rattle.dn_base.proofs.whole.write_whole.Goals as goal

pub loop-at-preserved : goal.loop-at-preserved
loop-at-preserved g c = record {
  within = search rules;
  added = Added-tail _ _ _ _ _ _ c.loop-at.invariant.added c.in_ok-at.ensures.added;
  untouched = search rules;
  counted = counted_then _ _ _ _ c.loop-at.invariant.counted c.in_ok-at.ensures.counted;
}
