-- What a call asks and leaves that grants, whichever its refusals are.
use Rattle.std.specs.Prelude.{◌≡◌, ◌≢◌, ℕ, Bool, true, false, List, Option, Result, Err, OnOk, is_err}
use Rattle.dn_base.specs.declared.device.TableEvent.{TableEvent}
use Rattle.dn_base.specs.declared.device.UnitWords.{UnitWords}
use Rattle.dn_base.specs.Device.{UnitSize}
use Rattle.dn_base.specs.Outside.{Faults}
use Rattle.dn_kind.specs.declared.kinded.KindedNet.{KindedNet}
use Rattle.dn_kind.specs.Kind.{Meaning}
use Rattle.dn_kind.specs.Kinded.{kinds_of}
use Rattle.dn_book.specs.declared.grant.Grant.{Grant}
use Rattle.dn_book.specs.Book.{IsFaithful}
use Rattle.dn_book.specs.Changed.{IsChangedBook, MayChange}
use Rattle.dn_book.specs.State.{BookState}
use Rattle.dn_view.specs.declared.system.System.{System}
use Rattle.dn_view.specs.Systems.{IsSystem}
use Rattle.dn_grant.specs.declared.fault.GrantFault.{GrantFault}
use Rattle.dn_grant.specs.declared.fault.GrantFault.TheVariants.{Device}
use Rattle.dn_grant.specs.Faults.{grant_answer, is_grant_fault}

-- What a call asks that grants.
pub record MayGrant {K : Type 0} {V : K → Type 0} (means : (k : K) × V k → Meaning) (system : System K V)
    (book : BookState) (units : List UnitSize) (words : Option (List UnitWords)) : Type 0 where
  -- the net is legal with its kinds, and what is told of its nodes is what they see
  pub is_system : IsSystem means system
  -- no call of the device failed so far, and the tables, which it has, keep the grants of the book
  pub change : MayChange means system.on book units words

-- What a call leaves that grants: `Outcome` says what its answer comes to, and `Added` that the events of what it
-- grants were added to a log, all of them or, where the device failed, those before its fault; and after such a fault
-- what each name resolves to and, of several grants, which are live.
pub record IsGrantDone {K : Type 0} {V : K → Type 0} {R D : Type 0} (means : (k : K) × V k → Meaning)
    (on : KindedNet K V) (Outcome : Option (Result ℕ R) → List Grant → Type 0)
    (Added : Bool → Option (List TableEvent) → Option (List TableEvent) → Type 0)
    (result : Result ℕ (GrantFault R)) (book book' : BookState) (units : D → List UnitSize)
    (words : D → Option (List UnitWords)) (faults : D → Faults)
    (log : D → Option (List TableEvent)) (device device' : D) : Type 0 where
  -- what was granted is in the book, or a refusal holds and is told, or the call failed
  pub turn : Outcome (grant_answer result) book'.grants
  -- a refusal and want of memory change nothing
  pub unchanged : is_err result ≡ true → result ≢ Err Device →
      (book' ≡ book) × (device' ≡ device)
  -- the tables keep what the book has, and the device counts its fault
  pub changed : IsChangedBook on.net.now (kinds_of means on.kinds.now) false result
      (is_grant_fault result) book' (units device') (words device') (faults device) (faults device')
  -- a faithful book stays so
  pub faithful : OnOk result
      (IsFaithful on.net.now book.grants → IsFaithful on.net.now book'.grants)
  -- all events of what is granted were added
  pub granted : OnOk result (Added false (log device) (log device'))
  -- where the device failed, those before its fault were added, and what it left is said
  pub stopped : result ≡ Err Device → Added true (log device) (log device')
