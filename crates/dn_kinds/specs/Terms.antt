-- The words of the crate that clauses cite, from one place.
pub use Rattle.dn_kinds.specs.Layouts.{bits, denials, gate_bits, gated, has_ports, pages, radix, remap, rights_left, shipped, vectors}
