use Rattle.std.proofs.Common.{take}
use Rattle.dn_book.specs.Sets.{AreHopsChanged, one_use_less}
use Rattle.dn_book.proofs.uses.end_uses.Given as goal

abbrev pub invariant-loop-hop : goal.invariant-loop-hop
invariant-loop-hop l = AreHopsChanged l.net l.grant.request.size (λ place. one_use_less) (take l.hop-index l.grant.placement.hops) l.fn.tables l.tables
