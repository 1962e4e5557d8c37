-- The words of the crate that clauses cite, from one place.
pub use Rattle.test_run.specs.Sky.{IsSky}
