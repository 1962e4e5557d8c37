-- Which answers are faults of the outside. Want of memory is none.
use Rattle.std.specs.Prelude.{Bool, true, false, Result, Err}
use Rattle.dn_base.specs.declared.sink.WriteFault.{WriteFault}
use Rattle.dn_base.specs.declared.sink.WriteFault.TheVariants.{Failed}
use Rattle.dn_base.specs.declared.whole.InputFault.{InputFault}
use Rattle.dn_base.specs.declared.whole.InputFault.TheVariants.{Failed as ReadFailed}

-- a write failed by a fault of the sink
abbrev pub is_write_fault : {A : Type 0} → Result A WriteFault → Bool
is_write_fault (Err Failed) = true
is_write_fault _ = false

-- a source was not read by a fault of the source
abbrev pub is_input_fault : {A : Type 0} → Result A InputFault → Bool
is_input_fault (Err ReadFailed) = true
is_input_fault _ = false
