-- So many pieces came in, and the others may still come.
use Rattle.std.proofs.Common.{◌+◌, ◌≤◌, false, length}
use Rattle.dn_base.specs.Outside.{IsCounted}
use Rattle.dn_kind.specs.Kinded.{kinds_of}
use Rattle.dn_book.specs.Changed.{MayChange}
use Rattle.dn_gather.specs.Gather.{grants_of}
use Rattle.dn_gather.proofs.Committing.{AreLeft, CameIn}
use Rattle.dn_gather.proofs.commits.commit_pieces.Given as goal

abbrev pub invariant-loop-k : goal.invariant-loop-k
invariant-loop-k g l = record {
  ready : MayChange (λ k. (goal.UnitKind-dyn g k).meaning k.1) l.on l.book (g.D.Tables.units l.device) (g.D.Tables.words l.device);
  came : CameIn l.on.net.now (kinds_of (λ k. (goal.UnitKind-dyn g k).meaning k.1) l.on.kinds.now) l.fn.book.grants l.fn.book.cleared (grants_of l.agent l.rights l.pieces l.scatter) l.k (g.D.Tables.log l.fn.device) (g.D.Tables.log l.device) l.book.grants l.book.cleared;
  left : AreLeft l.on.net.now l.agent l.rights l.scatter.unit l.scatter.v l.pieces l.scatter.hops l.k l.a l.book.grants;
  room : length l.pieces ≤ l.k + l.book.spare;
  counted : IsCounted (g.D.Tables.faults l.fn.device) (g.D.Tables.faults l.device) false;
}
