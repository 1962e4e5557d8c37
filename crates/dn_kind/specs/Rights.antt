-- Accesses and rights: which accesses a record lets through.
use Rattle.std.specs.Prelude.{ℕ, Bool, ◌&&◌, nat_le, ◌==◌}
use Rattle.std.specs.Int.RustNames.{bit_and}
use Rattle.dn_kind.specs.declared.rights.Access.{Access}
use Rattle.dn_kind.specs.declared.rights.Access.TheVariants.{Read, Write}
use Rattle.dn_kind.specs.declared.rights.Rights.{Rights}

-- the bit of an access in a set of rights: 1 for reading, 2 for writing
abbrev pub access_bit : Access → ℕ
access_bit Read = 1
access_bit Write = 2

-- the access is one of the rights
abbrev pub allows : Rights → Access → Bool
allows rights access = bit_and rights.0 (access_bit access) == access_bit access

-- reading and writing
abbrev pub both_rights : Rights
both_rights = record { 0 = 3 }

-- reading, writing or both, and nothing else
abbrev pub are_rights : Rights → Bool
are_rights rights = nat_le 1 rights.0 && nat_le rights.0 3
