use Rattle.std.proofs.Common.{◌≡◌, drop}
use Rattle.dn_placement.specs.Records.{hops_records, placed_records}
use Rattle.dn_view.proofs.records.placed_record.Given as goal

abbrev pub invariant-loop-place : goal.invariant-loop-place
invariant-loop-place l = placed_records l.checked.net.now l.request l.placement l.node l.slot ≡ hops_records l.checked.net.now l.request.size l.request.rights l.placement.own l.place (drop l.place l.hops) l.node l.slot
