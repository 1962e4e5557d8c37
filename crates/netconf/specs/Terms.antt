-- The words of the crate that clauses cite, from one place.
pub use Rattle.netconf.specs.Shipped.{program_kinds}
