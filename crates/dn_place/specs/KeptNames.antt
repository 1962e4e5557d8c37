-- Names in units to which other agents come by the records that are in use, as rows.
use Rattle.std.specs.Prelude.{◌≡◌, ℕ, true, List}
use Rattle.dn_interval.specs.declared.row.End.{End}
use Rattle.dn_interval.specs.declared.row.Row.{Row}
use Rattle.dn_interval.specs.declared.row.Seg.{Seg}
use Rattle.dn_interval.specs.Rows.{GivenBy}
use Rattle.dn_interval.specs.Strands.{segs_give}
use Rattle.dn_net.specs.declared.node.NodeDecl.{NodeDecl}
use Rattle.dn_kind.specs.Tables.{Held}
use Rattle.dn_placement.specs.declared.request.Request.{Request}
use Rattle.dn_walk.specs.Ends.{name_of_end}
use Rattle.dn_place.specs.Sought.{IsKeptName}

-- the name stands at its own address, and segments give it to some address
abbrev pub IsNamed : List Seg → ℕ → End → Type 0
IsNamed segs x z = (z.base ≡ x) × ((a : ℕ) × (segs_give segs a z ≡ true))

-- each name of the rows stands at its own address, and another agent comes to it by the records
abbrev pub AreKeptNames : List NodeDecl → Held → Request → List Row → Type 0
AreKeptNames net h rq rows = (x : ℕ) (z : End) → GivenBy rows x z →
    (z.base ≡ x) × IsKeptName net h rq (name_of_end z)
