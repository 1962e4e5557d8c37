-- Who counts a halt, and what holds of an answer that may be there.
use Rattle.std.proofs.Common.{◌≡◌, sym, subst, false, Option, Some, None, Result, Ok, Err, IfOk, IfSome}
use Rattle.dn_base.specs.Outside.{Faults, IsCounted}
use Rattle.dn_base.proofs.Counts.{counted_none, counted_then}
use Rattle.dn_script.specs.declared.halt.RunHalt.{RunHalt}
use Rattle.dn_script.specs.declared.halt.RunHalt.TheVariants.{WriteFault, DeviceFault, NoMemory}
use Rattle.dn_script.specs.Halt.{HaltsByDevice, HaltsByEither, HaltsBySink}

-- what holds of each value holds of that of an answer
pub if_ok : {A E : Type 0} (r : Result A E) (P : A → Type 0) → ((a : A) → P a) → IfOk r P
if_ok (Ok a) P h = h a
if_ok (Err e) P h = tt

-- what holds of a value that may be there holds of what follows from it
pub if_some : {A : Type 0} (o : Option A) (P Q : A → Type 0) → ((a : A) → P a → Q a) → IfSome o P → IfSome o Q
if_some None P Q f h = tt
if_some (Some a) P Q f h = f a h

-- for want of memory nothing more is counted
pub memory_halts : {A : Type 0} (r : Result A RunHalt) (sink sink' device device' : Faults) → r ≡ Err NoMemory → IsCounted sink sink' false → IsCounted device device' false → HaltsByEither r sink sink' device device'
memory_halts {A} r sink sink' device device' e s d = subst (λ (q : Result A RunHalt). HaltsByEither q sink sink' device device') (sym e) (record { sink_counted = s; device_counted = d })

-- what came before a halt counted nothing
pub halts_later : {A : Type 0} (r : Result A RunHalt) (sink sink' sink'' device device' device'' : Faults) → IsCounted sink sink' false → IsCounted device device' false → HaltsByEither r sink' sink'' device' device'' → HaltsByEither r sink sink'' device device''
halts_later r sink sink' sink'' device device' device'' s d h = record { sink_counted = counted_then _ _ _ _ s h.sink_counted; device_counted = counted_then _ _ _ _ d h.device_counted }

-- a halt that is handed on is counted as it was
pub halts_again : {A B : Type 0} (r : Result A RunHalt) (r' : Result B RunHalt) (halt : RunHalt) (sink sink' device device' : Faults) → r ≡ Err halt → r' ≡ Err halt → HaltsByEither r sink sink' device device' → HaltsByEither r' sink sink' device device'
halts_again {A} {B} r r' halt sink sink' device device' is by h = subst (λ (q : Result B RunHalt). HaltsByEither q sink sink' device device') (sym by) (again halt (subst (λ (q : Result A RunHalt). HaltsByEither q sink sink' device device') is h))
  where
    again : (k : RunHalt) → HaltsByEither {A = A} (Err k) sink sink' device device' → HaltsByEither {A = B} (Err k) sink sink' device device'
    again WriteFault h = record { sink_counted = h.sink_counted; device_counted = h.device_counted }
    again DeviceFault h = record { sink_counted = h.sink_counted; device_counted = h.device_counted }
    again NoMemory h = record { sink_counted = h.sink_counted; device_counted = h.device_counted }

-- a halt at the device alone, or at the sink alone, over both
pub device_halts : {A : Type 0} (r : Result A RunHalt) (sink device device' : Faults) → HaltsByDevice r device device' → HaltsByEither r sink sink device device'
device_halts r sink device device' h = record { sink_counted = rw h.no_write (counted_none sink); device_counted = h.counted }

pub sink_halts : {A : Type 0} (r : Result A RunHalt) (sink sink' device : Faults) → HaltsBySink r sink sink' → HaltsByEither r sink sink' device device
sink_halts r sink sink' device h = record { sink_counted = h.counted; device_counted = rw h.no_device (counted_none device) }
