use Rattle.std.proofs.Common.{◌≡◌, suc, ◌-◌, ◌/◌, ◌%◌, ◌^◌, ◌≤◌}
use Rattle.dn_place.specs.Searches.{sought}
use Rattle.dn_place.specs.Slots.{AreFreeTo, AreUseless}
use Rattle.dn_place.proofs.cursor.usable_from.Given as goal

abbrev pub invariant-inputs : goal.invariant-inputs
invariant-inputs g l = record {
  from : l.inputs.x ≤ l.x;
  agree : l.x % 2 ^ l.translator.page ≡ l.inputs.y % 2 ^ l.translator.page;
  few : l.x ≤ 2 ^ 60;
  useless : AreUseless (sought (λ k. (goal.UnitKind-dyn g k).meaning k.1) l.search) l.translator l.place (record { unit = l.inputs.unit; port = l.inputs.port; x = l.inputs.x; y = l.inputs.y }) l.x;
  free : AreFreeTo (sought (λ k. (goal.UnitKind-dyn g k).meaning k.1) l.search).slots l.inputs.unit (l.x / 2 ^ l.translator.page) l.free;
}

abbrev pub decreases-inputs : goal.decreases-inputs
decreases-inputs g l = suc l.inputs.last - l.x
