-- Which answers of a revoke are faults of the device.
use Rattle.std.specs.Prelude.{Bool, true, false, Result, Err}
use Rattle.dn_book.specs.declared.book.RevokeFault.{RevokeFault}
use Rattle.dn_book.specs.declared.book.RevokeFault.TheVariants.{Device}

-- a grant was not revoked by a fault of the device
abbrev pub is_revoke_fault : {A : Type 0} → Result A RevokeFault → Bool
is_revoke_fault (Err Device) = true
is_revoke_fault _ = false
