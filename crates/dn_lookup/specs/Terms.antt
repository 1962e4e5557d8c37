-- The words of the crate that clauses cite, from one place.
pub use Rattle.dn_lookup.specs.Images.{IsImage, records_for}
pub use Rattle.dn_lookup.specs.Lookup.{lets_through, lookup_fault_view, lookup_of}
