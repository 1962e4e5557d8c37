-- What contracts see of the adapters over streams of the system.
use Rattle.std.specs.Prelude.{ℕ, List, true, false}
use Rattle.dn_base.specs.Outside.{Faults}

-- a reader or a writer of the system, how many of its calls were faults, and what its reads gave so far
pub record Stream (S : Type 0) : Type 0 where
  pub inner : S
  pub faults : ℕ
  pub given : List ℕ

-- any call of the system may fail, and each fault is answered by its call
abbrev pub stream_faults : {S : Type 0} → Stream S → Faults
stream_faults s = record { count = s.faults; never = false; answered = true }
