-- What contracts see of the objects in memory and of the numbers of their calls.
use Rattle.std.specs.Prelude.{◌≡◌, ℕ, ◌+◌, ◌^◌, ◌≤◌, ◌==◌, Bool, List, length, true, false}
use Rattle.std.specs.List.{list_any}
use Rattle.dn_base.specs.Outside.{Faults, next_count}

-- the calls of an object: the number of the next one, the faults, and which calls fail
pub record CallState : Type 0 where
  pub call : ℕ
  pub faults : ℕ
  pub failing : List ℕ

-- before the first call
abbrev pub no_calls : List ℕ → CallState
no_calls failing = record { call = 0; faults = 0; failing = failing }

-- none fails where no number is listed, and each fault is answered by its call
abbrev pub faults_of : CallState → Faults
faults_of calls = record { count = calls.faults; never = length calls.failing == 0; answered = true }

-- a call was made: it failed exactly where its number is listed, and was counted as a fault then
pub record IsCall (old new : CallState) (failed : Bool) : Type 0 where
  pub fails : failed ≡ list_any (λ n. n == old.call) old.failing
  pub late : 2 ^ 32 ≤ old.call → failed ≡ false
  pub numbered : new.call ≡ next_count old.call
  pub raised : failed ≡ true → new.faults ≡ old.faults + 1
  pub few : new.faults ≤ 2 ^ 32
  pub same : new.failing ≡ old.failing

-- bytes in memory: what is left, what was given so far, at most how many a call gives, and the calls
pub record SourceState : Type 0 where
  pub left : List ℕ
  pub given : List ℕ
  pub most : ℕ
  pub calls : CallState

-- a sink in memory: what was written, and the calls
pub record SinkState : Type 0 where
  pub written : List ℕ
  pub calls : CallState
