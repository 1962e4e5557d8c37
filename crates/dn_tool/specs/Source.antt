-- How much a run reads of its source, and when a fault of the source is its status.
use Rattle.std.specs.Prelude.{◌≡◌, ◌≢◌, ℕ, ◌-◌, ◌==◌, true, false, List, take, Option}
use Rattle.std.specs.Option.{IfSome}
use Rattle.dn_base.specs.Outside.{AtEnd, Faults, IsCounted, Taken, TakenAtMost}
use Rattle.dn_words.specs.Words.{task_of}
use Rattle.dn_tool.specs.Answer.{reads}
use Rattle.dn_tool.specs.Input.{limit_for}

-- A run with this status read a source for these words.
pub record IsReadFor {S : Type 0} (words : List (List ℕ)) (status : ℕ) (left : S → Option (List ℕ))
    (faults : S → Faults) (source source' : S) : Type 0 where
  -- Where the words do not read the source it is as it was, and so it has no fault.
  pub unread : reads words ≡ false → (status ≢ 2) × (source' ≡ source)
  -- Where they do, it is at its end at status 0, and was read to its end or to the limit wherever the run came past
  -- reading: with `audit` 67,108,865 bytes, else 4,194,305.
  pub end : reads words ≡ true → status ≡ 0 → AtEnd (left source')
  pub read_through : reads words ≡ true → (status ≢ 2) → (status ≢ 7) → IfSome (left source)
      (λ bytes. Taken (left source) (left source') (take (limit_for (task_of words)) bytes))
  pub at_most : TakenAtMost (limit_for (task_of words)) (left source) (left source')
  -- A fault of the source comes only before the limit was taken.
  pub before_limit : status ≡ 2 →
      TakenAtMost (limit_for (task_of words) - 1) (left source) (left source')
  -- Status 2 comes only where the source's count of faults rose, and never over a source that never fails. At every other
  -- status the count is as it was, over one that answers each fault by the call in which it comes.
  pub counted : IsCounted (faults source) (faults source') (status == 2)
