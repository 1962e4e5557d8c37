-- What was listed, and what the units that are still to come add.
use Rattle.std.proofs.Common.{◌≡◌, ◌<◌, ℕ, ◌&&◌, ◌||◌, drop, length, nat_eq}
use Rattle.std.specs.List.{list_any}
use Rattle.dn_flat.specs.Levels.{is_listed_for}
use Rattle.dn_flat.proofs.seers.list_for_units.Given as goal

abbrev pub invariant-loop-unit : goal.invariant-loop-unit
invariant-loop-unit l = record {
  size : length l.by_unit.items ≡ length l.initial.by_unit.items;
  listed : (u n : ℕ) → u < length l.initial.by_unit.items → (is_listed_for l.by_unit.items u n || list_any (λ unit. nat_eq unit u && nat_eq l.agent n) (drop l.unit-index l.units)) ≡ (is_listed_for l.initial.by_unit.items u n || list_any (λ unit. nat_eq unit u && nat_eq l.agent n) l.units);
}
