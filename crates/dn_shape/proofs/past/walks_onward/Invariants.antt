-- Where the walks so far go.
use Rattle.std.proofs.Common.{◌≡◌, map, take}
use Rattle.std.specs.List.{flat_map}
use Rattle.dn_walk.specs.Legs.{leg_view}
use Rattle.dn_walk.specs.Rows.{row_view}
use Rattle.dn_shape.specs.Past.{bare_onward}
use Rattle.dn_shape.proofs.past.walks_onward.Given as goal

abbrev pub invariant-loop-row : goal.invariant-loop-row
invariant-loop-row l = map row_view l.walks.items ≡ flat_map (bare_onward (map leg_view l.legs) l.past) (map row_view (take l.row-index l.first))
