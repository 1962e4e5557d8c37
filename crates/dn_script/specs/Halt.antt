-- Why an answer stops, and the statuses that tell it.
use Rattle.std.specs.Prelude.{◌≡◌, ℕ, ◌==◌, Bool, true, false, ◌||◌, List, Option, Result, Ok, Err, is_ok}
use Rattle.dn_base.specs.declared.device.DeviceOrMemory.{DeviceOrMemory}
use Rattle.dn_base.specs.declared.device.DeviceOrMemory.TheVariants.{Device, OutOfMemory}
use Rattle.dn_base.specs.Outside.{Faults, IsCounted, IsWritten}
use Rattle.dn_grant.specs.declared.fault.GrantFault.{GrantFault}
use Rattle.dn_grant.specs.declared.fault.GrantFault.TheVariants.{Refused}
use Rattle.dn_grant.specs.declared.fault.GrantFault.TheVariants as grant_fault
use Rattle.dn_script.specs.declared.halt.RunHalt.{RunHalt}
use Rattle.dn_script.specs.declared.halt.RunHalt.TheVariants.{WriteFault, DeviceFault, NoMemory}

-- a write failed by a fault of the sink
abbrev pub is_write_halt : {A : Type 0} → Result A RunHalt → Bool
is_write_halt (Err WriteFault) = true
is_write_halt _ = false

-- a call of the device failed
abbrev pub is_device_halt : {A : Type 0} → Result A RunHalt → Bool
is_device_halt (Err DeviceFault) = true
is_device_halt _ = false

-- an output was written: all of it where nothing halted, not all of it where a write failed, and in
-- any case a prefix
abbrev pub Writes : {A : Type 0} → Result A RunHalt → Option (List ℕ) → Option (List ℕ) → List ℕ → Type 0
Writes r before after output = IsWritten before after (is_ok r) (is_write_halt r) output

-- no call of a device failed, and a halt at a write was counted by the sink
pub record HaltsBySink {A : Type 0} (r : Result A RunHalt) (old new : Faults) : Type 0 where
  pub no_device : is_device_halt r ≡ false
  pub counted : IsCounted old new (is_write_halt r)

-- no write failed, and a halt at a call of the device was counted by it
pub record HaltsByDevice {A : Type 0} (r : Result A RunHalt) (old new : Faults) : Type 0 where
  pub no_write : is_write_halt r ≡ false
  pub counted : IsCounted old new (is_device_halt r)

-- a halt at a write was counted by the sink, and one at a call of the device by the device
pub record HaltsByEither {A : Type 0} (r : Result A RunHalt) (sink sink' device device' : Faults)
    : Type 0 where
  pub sink_counted : IsCounted sink sink' (is_write_halt r)
  pub device_counted : IsCounted device device' (is_device_halt r)

-- the status of an answer that was given whole, or of the halt before that
abbrev pub ending_status : Result ℕ RunHalt → ℕ
ending_status (Ok status) = status
ending_status (Err WriteFault) = 3
ending_status (Err DeviceFault) = 6
ending_status (Err NoMemory) = 7

-- a status that comes of no answer: a fault of the source, the sink or the device, or want of memory
abbrev pub is_free_status : ℕ → Bool
is_free_status status = status == 2 || status == 3 || status == 6 || status == 7

-- the halt that a unit which was not made is
abbrev pub make_halt : DeviceOrMemory → RunHalt
make_halt Device = DeviceFault
make_halt OutOfMemory = NoMemory

-- the reply, or the halt that want of memory for it is
abbrev pub reply_or_halt : {E : Type 0} → Result (List ℕ) E → Result (List ℕ) RunHalt
reply_or_halt (Ok reply) = Ok reply
reply_or_halt (Err _) = Err NoMemory

-- the refusal for which nothing was granted, or the halt that the fault is
abbrev pub refusal_or_halt : {R : Type 0} → GrantFault R → Result R RunHalt
refusal_or_halt (Refused why) = Ok why
refusal_or_halt grant_fault.Device = Err DeviceFault
refusal_or_halt grant_fault.OutOfMemory = Err NoMemory
