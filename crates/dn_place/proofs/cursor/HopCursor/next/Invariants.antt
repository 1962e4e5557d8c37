use Rattle.dn_place.specs.Cursors.{hops_left}
use Rattle.dn_place.specs.Hops.{hops_view}
use Rattle.dn_place.specs.Searches.{sought}
use Rattle.dn_place.proofs.Cursors.{WentOn}
use Rattle.dn_place.proofs.cursor.HopCursor.next.Given as goal

abbrev pub invariant-steps : goal.invariant-steps
invariant-steps g l = WentOn (sought (λ k. (goal.UnitKind-dyn g k).meaning k.1) l.search) l.search.count (hops_view l.nearer) l.search.reach.now.units.items l.fn.self l.self

abbrev pub decreases-steps : goal.decreases-steps
decreases-steps g l = hops_left l.search.reach.now.units.items l.self
