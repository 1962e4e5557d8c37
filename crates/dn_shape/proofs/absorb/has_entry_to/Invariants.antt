-- None of the entries so far has a destination there.
use Rattle.std.proofs.Common.{◌≡◌, drop}
use Rattle.std.specs.List.{list_any}
use Rattle.dn_shape.specs.Absorb.{maps_to}
use Rattle.dn_shape.proofs.absorb.has_entry_to.Given as goal

abbrev pub invariant-loop-entry : goal.invariant-loop-entry
invariant-loop-entry l = list_any (maps_to l.to) l.entries ≡ list_any (maps_to l.to) (drop l.entry-index l.entries)
