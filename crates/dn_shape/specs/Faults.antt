-- The definitions' refusals that the faults of the code say; allocation failure says none.
use Rattle.std.specs.Prelude.{ℕ, Option, Some, None}
use Rattle.dn_shape.specs.declared.fault.SplitFault.{SplitFault}
use Rattle.dn_shape.specs.declared.fault.SplitFault.TheVariants as split
use Rattle.dn_shape.specs.declared.fault.AbsorbFault.{AbsorbFault}
use Rattle.dn_shape.specs.declared.fault.AbsorbFault.TheVariants.{NotAbsorbable, TooMany, OutOfMemory}
use Rattle.dn_shape.specs.Absorb.{Refusal, is_unfit, passes}

-- the limit that a fault of splitting names
abbrev pub split_fault_view : SplitFault → Option ℕ
split_fault_view (split.TooMany limit) = Some limit
split_fault_view split.OutOfMemory = None

-- the refusal that a fault of absorbing says
abbrev pub absorb_fault_view : AbsorbFault → Option Refusal
absorb_fault_view (NotAbsorbable why) = Some (is_unfit why)
absorb_fault_view (TooMany limit) = Some (passes limit)
absorb_fault_view OutOfMemory = None
