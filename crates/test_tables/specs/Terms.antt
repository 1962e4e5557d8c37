-- The words of the crate that clauses cite, from one place.
pub use Rattle.test_tables.specs.Desk.{EndsWithin, IsBoard, IsDesk, IsPlacementAtDesk, part}
pub use Rattle.test_tables.specs.Slots.{IsHoldable, IsHoldableIn, IsBench}
