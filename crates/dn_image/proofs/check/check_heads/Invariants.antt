use Rattle.std.proofs.Common.{◌≡◌, ◌++◌, ◌≤◌, drop, length, List}
use Rattle.dn_kind.specs.Kinded.{kinds_of}
use Rattle.dn_image.specs.Reading.{Field, broken_in, units_fields}
use Rattle.dn_image.proofs.check.check_heads.Given as goal

abbrev pub invariant-loop-node : goal.invariant-loop-node
invariant-loop-node g l =
    let kinds = kinds_of (λ k. (goal.UnitKind-dyn g k).meaning k.1) l.on.kinds.now in
    record {
      last : l.node-end ≡ length l.on.net.now;
      few : l.place ≤ l.node;
      within : l.at ≤ length l.rest;
      passed : (more : List Field) → broken_in l.total (units_fields kinds 0 0 l.on.net.now ++ more) l.rest ≡ broken_in l.total (units_fields kinds l.place l.node (drop l.node l.on.net.now) ++ more) (drop l.at l.rest);
    }
