-- Small facts that answers share.
use Rattle.std.proofs.Common.{◌≡◌, ◌∙◌, List, Bool, true, false, Option, Result, Ok, Err, OnOk, is_err, refl}
use Rattle.std.specs.List.{list_any}
use Rattle.dn_base.proofs.Members.{any_member}
use Rattle.dn_base.specs.declared.device.UnitWords.{UnitWords}
use Rattle.dn_base.specs.Device.{UnitSize}
use Rattle.dn_base.specs.Outside.{Faults, IsCounted}
use Rattle.dn_net.specs.declared.node.NodeDecl.{NodeDecl}
use Rattle.dn_net.specs.Chain.{Member}
use Rattle.dn_kind.specs.Kind.{Meaning}
use Rattle.dn_tables.specs.declared.table.NodeTable.{NodeTable}
use Rattle.dn_tables.specs.Set.{FitsNet, IsOnDevice, KeepsFit}
use Rattle.dn_book.specs.Changed.{IsChangedBook}
use Rattle.dn_book.specs.State.{BookState}
use Rattle.dn_book.specs.Tables.{IsKept}

-- what holds where a call succeeded, by the test
pub ok_by_err : {A E : Type 0} (r : Result A E) (P : Type 0) → OnOk r P → is_err r ≡ false → P
ok_by_err (Ok x) P h e = h
ok_by_err (Err x) P h e = cc

-- what fitted fits still
pub fits_net_kept : (net : List NodeDecl) (kinds : List Meaning) (set set' : List NodeTable) → KeepsFit set set' → FitsNet net kinds set → FitsNet net kinds set'
fits_net_kept net kinds set set' k f = record { units = k.units ∙ f.units; wide = k.wide kinds f.wide }

pub fit_none : (set : List NodeTable) → KeepsFit set set
fit_none set = record { units = refl; wide = λ kinds f. f }

pub fit_then : (a b c : List NodeTable) → KeepsFit a b → KeepsFit b c → KeepsFit a c
fit_then a b c x y = record { units = y.units ∙ x.units; wide = λ kinds f. y.wide kinds (x.wide kinds f) }

-- where no item passes a test, none does
pub none_any : {X : Type 0} (p : X → Bool) (xs : List X) → ((x : X) → Member x xs → p x ≡ true → ⊥) → list_any p xs ≡ false
none_any {X} p xs fails = by (list_any p xs) refl
  where
    by : (b : Bool) → list_any p xs ≡ b → b ≡ false
    by false e = refl
    by true e = let a = any_member p xs e in absurd (fails a.0 a.1 a.2)

-- what a change leaves that was made
pub changed_book : {A E : Type 0} (net : List NodeDecl) (kinds : List Meaning) (cleared : Bool) (x : A) (book : BookState) (units : List UnitSize) (words : Option (List UnitWords)) (faults faults' : Faults) → IsKept net kinds book.grants book.set → book.cleared ≡ cleared → book.unfailed ≡ true → IsOnDevice book.set units words → IsCounted faults faults' false → IsChangedBook {A = A} {E = E} net kinds cleared (Ok x) false book units words faults faults'
changed_book net kinds cleared x book units words faults faults' kept fenced unfailed on_device counted = record { kept = kept; fenced = fenced; unfailed = unfailed; fits = kept.fits; on_device = on_device; counted = counted }
