use Rattle.std.proofs.Common.{length, drop}
use Rattle.dn_place.specs.Hops.{hops_view}
use Rattle.dn_place.specs.Candidates.{key_of_hops}
use Rattle.dn_place.specs.Searches.{sought}
use Rattle.dn_place.proofs.Walks.{Walked}
use Rattle.dn_place.proofs.iova.by_rows.Given as goal

abbrev pub invariant-rows : goal.invariant-rows
invariant-rows g l = Walked (sought (λ k. (goal.UnitKind-dyn g k).meaning k.1) l.search) (key_of_hops (length (hops_view l.hops)) (hops_view l.hops)) l.rows (drop l.row-index l.rows)
