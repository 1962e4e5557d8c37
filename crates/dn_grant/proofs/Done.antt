-- What a call leaves that grants, by its answer.
use Rattle.std.proofs.Common.{◌≡◌, ℕ, Bool, true, false, refl, List, Option, Some, None, Result, Ok, Err}
use Rattle.dn_base.specs.declared.device.TableEvent.{TableEvent}
use Rattle.dn_base.specs.declared.device.UnitWords.{UnitWords}
use Rattle.dn_base.specs.Device.{UnitSize}
use Rattle.dn_base.specs.Outside.{Faults}
use Rattle.dn_base.proofs.Counts.{counted_none}
use Rattle.dn_kind.specs.declared.kinded.KindedNet.{KindedNet}
use Rattle.dn_kind.specs.Kind.{Meaning}
use Rattle.dn_kind.specs.Kinded.{kinds_of}
use Rattle.dn_book.specs.declared.grant.Grant.{Grant}
use Rattle.dn_book.specs.Book.{IsFaithful}
use Rattle.dn_book.specs.Changed.{IsChangedBook, MayChange}
use Rattle.dn_book.specs.State.{BookState}
use Rattle.dn_grant.specs.declared.fault.GrantFault.{GrantFault}
use Rattle.dn_grant.specs.declared.fault.GrantFault.TheVariants.{Refused, Device}
use Rattle.dn_grant.specs.Done.{IsGrantDone}

module _ {K : Type 0} {V : K → Type 0} {R D : Type 0} {means : (k : K) × V k → Meaning} {on : KindedNet K V} {Outcome : Option (Result ℕ R) → List Grant → Type 0} {Added : Bool → Option (List TableEvent) → Option (List TableEvent) → Type 0} {book : BookState} {units : D → List UnitSize} {words : D → Option (List UnitWords)} {faults : D → Faults} {log : D → Option (List TableEvent)} {device : D} where
  -- a refusal is told, and nothing was done
  pub refused_done : (why : R) → MayChange means on book (units device) (words device) → Outcome (Some (Err why)) book.grants → IsGrantDone means on Outcome Added (Err (Refused why)) book book units words faults log device device
  refused_done why ready turn = record {
    turn = turn;
    unchanged = λ e other. (refl, refl);
    changed = record { kept = tt; fenced = tt; unfailed = ready.unfailed; fits = ready.kept.fits; on_device = ready.on_device; counted = counted_none (faults device) };
    faithful = tt;
    granted = tt;
    stopped = λ e. cc;
  }

module _ {K : Type 0} {V : K → Type 0} {R D : Type 0} {means : (k : K) × V k → Meaning} {on : KindedNet K V} {Outcome : Option (Result ℕ R) → List Grant → Type 0} {Added : Bool → Option (List TableEvent) → Option (List TableEvent) → Type 0} {book book' : BookState} {units : D → List UnitSize} {words : D → Option (List UnitWords)} {faults : D → Faults} {log : D → Option (List TableEvent)} {device device' : D} where
  -- the device failed
  pub failed_done : Outcome None book'.grants → IsChangedBook {A = ℕ} {E = GrantFault R} on.net.now (kinds_of means on.kinds.now) false (Err Device) true book' (units device') (words device') (faults device) (faults device') → Added true (log device) (log device') → IsGrantDone means on Outcome Added (Err Device) book book' units words faults log device device'
  failed_done turn changed added = record {
    turn = turn;
    unchanged = λ e other. absurd (other refl);
    changed = changed;
    faithful = tt;
    granted = tt;
    stopped = λ e. added;
  }

  -- it is granted
  pub made_done : (v : ℕ) → Outcome (Some (Ok v)) book'.grants → IsChangedBook {A = ℕ} {E = GrantFault R} on.net.now (kinds_of means on.kinds.now) false (Ok v) false book' (units device') (words device') (faults device) (faults device') → (IsFaithful on.net.now book.grants → IsFaithful on.net.now book'.grants) → Added false (log device) (log device') → IsGrantDone means on Outcome Added (Ok v) book book' units words faults log device device'
  made_done v turn changed faithful added = record {
    turn = turn;
    unchanged = λ e. cc;
    changed = changed;
    faithful = faithful;
    granted = added;
    stopped = λ e. cc;
  }
