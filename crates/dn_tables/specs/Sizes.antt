-- A device that keeps no words: how many each unit was given.
use Rattle.std.specs.Prelude.{true, List, map}
use Rattle.dn_base.specs.Device.{UnitSize}
use Rattle.dn_base.specs.Outside.{Faults}
use Rattle.dn_tables.specs.declared.sizes.Size.{Size}

-- the numbers of words, as a device tells them
abbrev pub sizes_by : List Size → List UnitSize
sizes_by sizes = map (λ s. record { unit = s.unit; words = s.words }) sizes

-- an object that never fails, and has not failed
abbrev pub no_faults : Faults
no_faults = record { count = 0; never = true; answered = true }
