use Rattle.std.proofs.Common.{take}
use Rattle.dn_book.specs.Sets.{AreHopsChanged, hop_owner, one_use_more}
use Rattle.dn_book.proofs.uses.add_uses.Given as goal

abbrev pub invariant-loop-place : goal.invariant-loop-place
invariant-loop-place l = AreHopsChanged l.net l.grant.request.size (λ place. one_use_more (hop_owner l.grant.id l.grant.placement.own place)) (take l.place l.grant.placement.hops) l.fn.tables l.tables
