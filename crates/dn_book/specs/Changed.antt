-- What a call asks that changes a book, and what it leaves.
use Rattle.std.specs.Prelude.{◌≡◌, Bool, true, not, List, Option, Result, OnOk}
use Rattle.dn_base.specs.declared.device.UnitWords.{UnitWords}
use Rattle.dn_base.specs.Device.{UnitSize}
use Rattle.dn_base.specs.Outside.{Faults, IsCounted}
use Rattle.dn_net.specs.declared.node.NodeDecl.{NodeDecl}
use Rattle.dn_kind.specs.declared.kinded.KindedNet.{KindedNet}
use Rattle.dn_kind.specs.Kind.{Meaning}
use Rattle.dn_kind.specs.Kinded.{IsKinded, kinds_of}
use Rattle.dn_tables.specs.Set.{FitsNet, IsOnDevice}
use Rattle.dn_book.specs.State.{BookState}
use Rattle.dn_book.specs.Tables.{IsKept}

-- A book may be changed: the net is legal with its kinds, no call of the device failed so far, and the
-- tables, which the device has, keep the grants.
pub record MayChange {K : Type 0} {V : K → Type 0} (means : (k : K) × V k → Meaning)
    (on : KindedNet K V) (book : BookState) (units : List UnitSize) (words : Option (List UnitWords))
    : Type 0 where
  pub kinded : IsKinded means on
  pub unfailed : book.unfailed ≡ true
  pub kept : IsKept on.net.now (kinds_of means on.kinds.now) book.grants book.set
  pub on_device : IsOnDevice book.set units words

-- Where the change was made, the tables keep the grants, and it is told whether a record was cleared
-- since the last fence. In any case the tables fit the net, the device has them, and it counted a fault
-- where it failed, which the book tells.
pub record IsChangedBook {A E : Type 0} (net : List NodeDecl) (kinds : List Meaning) (cleared : Bool)
    (result : Result A E) (failed : Bool) (book : BookState) (units : List UnitSize)
    (words : Option (List UnitWords)) (faults faults' : Faults) : Type 0 where
  pub kept : OnOk result (IsKept net kinds book.grants book.set)
  pub fenced : OnOk result (book.cleared ≡ cleared)
  pub unfailed : book.unfailed ≡ not failed
  pub fits : FitsNet net kinds book.set
  pub on_device : IsOnDevice book.set units words
  pub counted : IsCounted faults faults' failed
