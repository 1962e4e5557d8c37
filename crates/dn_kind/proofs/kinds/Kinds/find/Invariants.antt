use Rattle.std.proofs.Common.{◌≡◌, drop, length, map}
use Rattle.std.specs.List.{position_from}
use Rattle.std.specs.Str.{bytes_eq}
use Rattle.dn_kind.specs.Kind.{kind_place}
use Rattle.dn_kind.proofs.kinds.Kinds.find.Given as goal

abbrev pub invariant-loop-number : goal.invariant-loop-number
invariant-loop-number g l =
    let kinds = map (λ k. (goal.UnitKind-dyn g (k.vtable, k.value)).meaning k.value) l.self.list.items in
    record {
      last : l.number-end ≡ length l.self.list.items;
      same : kind_place kinds l.name ≡ position_from (λ k. bytes_eq l.name k.name) l.number (drop l.number kinds);
    }
