-- What the answers of calls that grant say, by their faults.
use Rattle.std.specs.Prelude.{ℕ, Bool, true, false, Option, Some, None, Result, Ok, Err}
use Rattle.dn_grant.specs.declared.fault.GrantFault.{GrantFault}
use Rattle.dn_grant.specs.declared.fault.GrantFault.TheVariants.{Refused, Device, OutOfMemory}

-- what was granted, an address or a vector, or the refusal that is told; a call that failed answers neither
abbrev pub grant_answer : {R : Type 0} → Result ℕ (GrantFault R) → Option (Result ℕ R)
grant_answer (Ok v) = Some (Ok v)
grant_answer (Err (Refused why)) = Some (Err why)
grant_answer (Err Device) = None
grant_answer (Err OutOfMemory) = None

-- the call failed by a fault of the device
abbrev pub is_grant_fault : {A R : Type 0} → Result A (GrantFault R) → Bool
is_grant_fault (Err Device) = true
is_grant_fault _ = false
